use Rattle.bib_edit.proofs.Words.{◌||◌, ◌&&◌, not, take, sym, ◌∙◌, ap, ap₂, is_given, is_used}
use Rattle.bib_edit.proofs.rename_macro.is_taken_before.Goals as goal

pub returns-then-same_folded-clause-taken : goal.returns-then-same_folded-clause-taken
returns-then-same_folded-clause-taken g c db reads =
    sym (ap (λ b. not b && (is_given c.args.to.now db.items || is_used c.args.to.now (take c.args.n db.items))) (sym c.same_folded.ensures ∙ c.if-same_folded.true))

pub returns-then-is_given-clause-taken : goal.returns-then-is_given-clause-taken
returns-then-is_given-clause-taken g c db reads =
    sym (ap₂ (λ b d. not b && (d || is_used c.args.to.now (take c.args.n db.items))) (sym c.same_folded.ensures ∙ c.if-same_folded.false) (sym (c.is_given.ensures db reads) ∙ c.if-is_given.true))

pub returns-clause-taken : goal.returns-clause-taken
returns-clause-taken g c db reads =
    c.in_ok-is_met_before.ensures db reads
    ∙ sym (ap₂ (λ b d. not b && (d || is_used c.args.to.now (take c.args.n db.items))) (sym c.same_folded.ensures ∙ c.if-same_folded.false) (sym (c.is_given.ensures db reads) ∙ c.if-is_given.false))
