use Rattle.std.proofs.Common.{◌++◌, ◌∷◌, [], ◌∙◌, ap, sym, subst, arith, List}
use Rattle.bib_spec.specs.Text.{Text}
use Rattle.bibtex_spec.specs.Places.{Place, named_place, named}
use Rattle.bibtex_spec.specs.Listed.{place_with}
use Rattle.bibtex_places.specs.Steps.{CountsAtMost}
use Rattle.bibtex_places.proofs.PlaceLists.{named_new}
use Rattle.bibtex_places.proofs.KeptPlaces.{kept_within, count_kept, named_kept, finds_named}
use Rattle.bibtex_places.proofs.places.Places.name.Goals as goal

pub returns-in_default : goal.returns-in_default
returns-in_default c =
    c.in_ok-added.ensures
    ∙ ap (λ (t : Text). c.args.self ++ named_place t ∷ []) c.in_ok-copied.ensures
    ∙ sym (named_new c.args.key.now c.args.self (sym c.in_ok-i.ensures ∙ c.in_default.is))

pub index_mut-requires : goal.index_mut-requires
index_mut-requires c =
    let lt = kept_within c.args.key.now c.self.inside.all.items c.in-Some.i (ap (place_with c.args.key.now) c.self.view_is ∙ sym c.in_ok-i.ensures ∙ c.in-Some.is) in
    omega (arith, lt)

pub name_again-requires : goal.name_again-requires
name_again-requires c =
    let le = count_kept c.args.key.now c.self.inside.all.items c.in-Some.i (ap (place_with c.args.key.now) c.self.view_is ∙ sym c.in_ok-i.ensures ∙ c.in-Some.is) c.index_mut.result.now c.index_mut.ensures.value c.args.most
    (subst (λ (ps : List Place). CountsAtMost c.args.most ps) (sym c.self.view_is) c.requires.counts) in
    let most = c.requires.most in
    omega (arith, le, most)

pub invariant_of-result : goal.invariant_of-result
invariant_of-result c =
    finds_named c.args.key.now c.self.inside.all.items c.in-Some.i (ap (place_with c.args.key.now) c.self.view_is ∙ sym c.in_ok-i.ensures ∙ c.in-Some.is) c.index_mut.result.now c.index_mut.ensures.value c.self.inside.table c.name_again.new.place
    c.self.invariant c.name_again.ensures

pub returns : goal.returns
returns c =
    named_kept c.args.key.now c.self.inside.all.items c.in-Some.i (ap (place_with c.args.key.now) c.self.view_is ∙ sym c.in_ok-i.ensures ∙ c.in-Some.is) c.index_mut.result.now c.index_mut.ensures.value c.name_again.new.place c.name_again.ensures
    ∙ ap (named c.args.key.now) c.self.view_is
