use Rattle.std.proofs.Common.{◌≡◌, true, get_or, sym, ◌∙◌, ap, subst}
use Rattle.std.specs.Prelude.{nat_le}
use Rattle.std.proofs.lemmas.Bool.{le-leb}
use Rattle.bib_spec.specs.Text.{Text}
use Rattle.bib_places.specs.Tallies.{count_of}
use Rattle.bib_places.proofs.Lists.{all-more}
use Rattle.bib_places.proofs.seldom.are_single.Goals as goal

pub codes-preserved : goal.codes-preserved
codes-preserved c =
    let code = c.as_slice.result.now in
    let is : code ≡ get_or c.args.merged.now c.codes.k code = subst (λ (t : Text). t ≡ get_or c.args.merged.now c.codes.k t) (sym c.as_slice.ensures) c.index-merged-k.is in
    all-more (λ t. nat_le (count_of t c.args.merged.now) 1) c.args.merged.now c.codes.k code c.codes-test.true
    (subst (λ (t : Text). nat_le (count_of t c.args.merged.now) 1 ≡ true) is
    (sym (ap (λ n. nat_le n 1) (c.count-is_once.ensures ∙ c.in_ok-all.ensures code)) ∙ le-leb c.count-is_once.result 1 c.if-not-is_once.false))
    c.codes.invariant
