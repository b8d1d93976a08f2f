use Rattle.std.proofs.Common.{◌∙◌, ap, sym, is_some, List}
use Rattle.bibtex_spec.specs.Places.{Place}
use Rattle.bibtex_spec.specs.Listed.{first_same, within}
use Rattle.bibtex_places.proofs.Named.{named_some_cited, named_known, named_uncited, named_missing}
use Rattle.bibtex_places.proofs.parents.place_named.Goals as goal

pub returns-then-not-all : goal.returns-then-not-all
returns-then-not-all c entries keys finds all cited = c.in_ok-first.ensures ∙ named_some_cited entries keys c.args.places.now c.args.text.now (sym all ∙ c.if-not-all.true)

pub returns-then-is_some : goal.returns-then-is_some
returns-then-is_some c entries keys finds all cited =
    c.in_ok-known.ensures ∙ named_known entries keys c.args.places.now c.args.text.now (ap is_some (sym (finds c.args.text.now) ∙ sym c.in_ok-get.ensures) ∙ sym c.is_some.ensures ∙ c.if-is_some.true)

pub returns : goal.returns
returns c entries keys finds all cited =
    c.within.ensures
    ∙ ap (λ (places : List Place). within places c.in-Some.n) c.as_slice.ensures
    ∙ named_missing entries keys c.args.places.now c.args.text.now c.in-Some.n (sym all ∙ c.if-not-all.false)
    (ap is_some (sym (finds c.args.text.now) ∙ sym c.in_ok-get.ensures) ∙ sym c.is_some.ensures ∙ c.if-is_some.false)
    (ap (first_same c.args.text.now) (sym cited) ∙ sym c.in_ok-n.ensures ∙ c.in-Some.is)

pub returns-in_default : goal.returns-in_default
returns-in_default c entries keys finds all cited =
    c.in_ok-uncited.ensures ∙ named_uncited entries keys c.args.places.now c.args.text.now (ap (first_same c.args.text.now) (sym cited) ∙ sym c.in_ok-n.ensures ∙ c.in_default.is)
