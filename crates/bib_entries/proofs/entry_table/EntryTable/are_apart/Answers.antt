use Rattle.std.proofs.Common.{◌≤◌, ℕ, sym, subst}
use Rattle.bib_spec.specs.Text.{folded}
use Rattle.bib_entries.specs.EntryTable.{IsTableOf}
use Rattle.bib_entries.proofs.Tables.{holders_counted}
use Rattle.bib_entries.proofs.entry_table.EntryTable.are_apart.Goals as goal

pub returns : goal.returns
returns c apart keys crossrefs t text =
    subst (λ (n : ℕ). n ≤ 1) (holders_counted text keys crossrefs _ (subst (IsTableOf keys crossrefs) (sym c.self.view_is) t)) (c.are_apart.ensures apart (folded text))
