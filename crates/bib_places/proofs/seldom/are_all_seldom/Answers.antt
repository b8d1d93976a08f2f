use Rattle.std.proofs.Common.{◌≡◌, ◌||◌, Bool, true, get_or, sym, ◌∙◌, ap₂, subst}
use Rattle.std.specs.Prelude.{nat_le}
use Rattle.bib_spec.specs.Text.{Text}
use Rattle.bib_places.specs.Tallies.{count_of}
use Rattle.bib_places.proofs.Lists.{all-more}
use Rattle.bib_places.proofs.seldom.are_all_seldom.Goals as goal

pub codes-preserved : goal.codes-preserved
codes-preserved c =
    let code = c.as_slice.result.now in
    let test : Text → Bool = λ t. nat_le (count_of t c.args.merged.now) (count_of t c.args.ours.now) || nat_le (count_of t c.args.merged.now) (count_of t c.args.theirs.now) in
    let is : code ≡ get_or c.args.merged.now c.codes.k code = subst (λ (t : Text). t ≡ get_or c.args.merged.now c.codes.k t) (sym c.as_slice.ensures) c.index-merged-k.is in
    all-more test c.args.merged.now c.codes.k code c.codes-test.true
    (subst (λ (t : Text). test t ≡ true) is
    (sym (c.is_seldom.ensures ∙ ap₂ (λ a b. a || b) (ap₂ nat_le (c.in_ok-all.ensures code) (c.in_ok-ours.ensures code)) (ap₂ nat_le (c.in_ok-all.ensures code) (c.in_ok-theirs.ensures code)))
    ∙ c.if-not-is_seldom.false))
    c.codes.invariant
