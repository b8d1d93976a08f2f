use Rattle.std.proofs.Common.{◌++◌, ◌∷◌, [], ◌∙◌, ap, sym, arith}
use Rattle.bibtex_spec.specs.Places.{Place}
use Rattle.bibtex_spec.specs.Listed.{place_with}
use Rattle.bibtex_places.specs.Steps.{awaiting}
use Rattle.bibtex_places.proofs.KeptPlaces.{kept_within, awaiting_some, awaiting_none}
use Rattle.bibtex_places.proofs.ReadSteps.{any_new, any_held, any_taken}
use Rattle.bibtex_places.proofs.places.Places.read_any.Goals as goal

pub returns-in_default : goal.returns-in_default
returns-in_default c entry key =
    c.in_ok-added.ensures
    ∙ ap (λ (p : Place). c.args.self ++ p ∷ []) (c.in_ok-place.ensures entry key)
    ∙ any_new entry c.args.n c.args.self c.args.key.now key c.args.cited.now (sym c.in_ok-i.ensures ∙ c.in_default.is)

pub index-requires : goal.index-requires
index-requires c =
    let lt = kept_within c.args.key.now c.self.inside.all.items c.in-Some.i (ap (place_with c.args.key.now) c.self.view_is ∙ sym c.in_ok-i.ensures ∙ c.in-Some.is) in
    omega (arith, lt)

pub returns-then-is_some : goal.returns-then-is_some
returns-then-is_some c entry key =
    any_held entry c.args.n c.args.self c.args.key.now key c.args.cited.now c.in-Some.i (sym c.in_ok-i.ensures ∙ c.in-Some.is)
    (ap (awaiting c.args.key.now) (sym c.self.view_is)
    ∙ sym (awaiting_none c.args.key.now c.self.inside.all.items c.in-Some.i (ap (place_with c.args.key.now) c.self.view_is ∙ sym c.in_ok-i.ensures ∙ c.in-Some.is) c.index.result.now c.index.ensures
    (sym c.is_some.ensures ∙ c.if-is_some.true)))

pub returns : goal.returns
returns c entry key =
    c.in_ok-held.ensures entry key
    ∙ any_taken entry c.args.n c.args.self c.args.key.now key c.args.cited.now c.in-Some.i (sym c.in_ok-i.ensures ∙ c.in-Some.is)
    (ap (awaiting c.args.key.now) (sym c.self.view_is)
    ∙ sym (awaiting_some c.args.key.now c.self.inside.all.items c.in-Some.i (ap (place_with c.args.key.now) c.self.view_is ∙ sym c.in_ok-i.ensures ∙ c.in-Some.is) c.index.result.now c.index.ensures
    (sym c.is_some.ensures ∙ c.if-is_some.false)))
