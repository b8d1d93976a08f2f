use Rattle.journal_format.proofs.Words.{◌≡◌, ◌∙◌, sym, not_from_Decides, bytes_eq-Decides, Text, version_line, IsKnown, IsLineOf, First, Second}
use Rattle.journal_format.proofs.heads.read_version.Goals as goal

pub returns-then-eq-clause-some : goal.returns-then-eq-clause-some
unfolding version_line
returns-then-eq-clause-some c =
    (tt, (bytes_eq-Decides c.args.line.now c.as_slice.result.now).0 (sym c.if-eq.ensures) ∙ c.as_slice.ensures)

pub returns-then-eq-2-clause-some : goal.returns-then-eq-2-clause-some
unfolding version_line
returns-then-eq-2-clause-some c =
    (tt, (bytes_eq-Decides c.args.line.now c.as_slice-else-eq.result.now).0 (sym c.if-eq-2.ensures) ∙ c.as_slice-else-eq.ensures)

-- a line that is neither of the two says no version
neither : (line : Text) → (line ≡ version_line Second → ⊥) → (line ≡ version_line First → ⊥) → IsLineOf version_line IsKnown line → ⊥
neither line second first (First, known, is) = first is
neither line second first (Second, known, is) = second is

pub returns-else-eq-2-clause-none : goal.returns-else-eq-2-clause-none
unfolding version_line
returns-else-eq-2-clause-none c =
    let second = not_from_Decides _ (bytes_eq-Decides c.args.line.now c.as_slice.result.now) (sym c.if-eq.ensures) in
    let first = not_from_Decides _ (bytes_eq-Decides c.args.line.now c.as_slice-else-eq.result.now) (sym c.if-eq-2.ensures) in
    neither c.args.line.now (λ e. second (e ∙ sym c.as_slice.ensures)) (λ e. first (e ∙ sym c.as_slice-else-eq.ensures))
