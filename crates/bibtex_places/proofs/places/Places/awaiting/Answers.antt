use Rattle.std.proofs.Common.{◌∙◌, ap, sym, arith}
use Rattle.bibtex_spec.specs.Listed.{place_with}
use Rattle.bibtex_places.specs.Steps.{awaiting}
use Rattle.bibtex_places.proofs.KeptPlaces.{kept_within, awaiting_some, awaiting_none}
use Rattle.bibtex_places.proofs.places.Places.awaiting.Goals as goal

pub index-requires : goal.index-requires
index-requires c =
    let lt = kept_within c.args.key.now c.self.inside.all.items c.in-Some.i (ap (place_with c.args.key.now) c.self.view_is ∙ sym c.in_ok-i.ensures ∙ c.in-Some.is) in
    omega (arith, lt)

pub returns-then-is_some : goal.returns-then-is_some
returns-then-is_some c =
    awaiting_none c.args.key.now c.self.inside.all.items c.in-Some.i (ap (place_with c.args.key.now) c.self.view_is ∙ sym c.in_ok-i.ensures ∙ c.in-Some.is) c.index.result.now c.index.ensures
    (sym c.is_some.ensures ∙ c.if-is_some.true)
    ∙ ap (awaiting c.args.key.now) c.self.view_is

pub returns : goal.returns
returns c =
    awaiting_some c.args.key.now c.self.inside.all.items c.in-Some.i (ap (place_with c.args.key.now) c.self.view_is ∙ sym c.in_ok-i.ensures ∙ c.in-Some.is) c.index.result.now c.index.ensures
    (sym c.is_some.ensures ∙ c.if-is_some.false)
    ∙ ap (awaiting c.args.key.now) c.self.view_is
