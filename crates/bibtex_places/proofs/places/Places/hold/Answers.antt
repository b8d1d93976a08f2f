use Rattle.std.proofs.Common.{◌∙◌, ap, arith}
use Rattle.bibtex_spec.specs.Places.{taken}
use Rattle.bibtex_spec.specs.Listed.{place_with}
use Rattle.bibtex_places.proofs.KeptPlaces.{kept_within, held_set, finds_held}
use Rattle.bibtex_places.proofs.places.Places.hold.Goals as goal

pub index_mut-requires : goal.index_mut-requires
index_mut-requires c =
    let lt = kept_within c.args.key.now c.self.inside.all.items c.args.i (ap (place_with c.args.key.now) c.self.view_is ∙ c.requires) in
    omega (arith, lt)

pub invariant_of-result : goal.invariant_of-result
invariant_of-result c =
    finds_held c.args.key.now c.self.inside.all.items c.args.i (ap (place_with c.args.key.now) c.self.view_is ∙ c.requires) c.index_mut.result.now c.index_mut.ensures.value c.self.inside.table c.hold.new.place c.args.n
    c.self.invariant c.in_ok-hold.ensures

pub returns : goal.returns
returns c entry key =
    held_set c.args.key.now c.self.inside.all.items c.args.i (ap (place_with c.args.key.now) c.self.view_is ∙ c.requires) c.index_mut.result.now c.index_mut.ensures.value entry c.args.n c.hold.new.place key (c.in_ok-hold.ensures entry key)
    ∙ ap (taken entry c.args.n) c.self.view_is
