use Rattle.bib_edit.proofs.Words.{◌↔◌, drop, AllHaveValues}
use Rattle.bib_edit.proofs.new_entries.have_values.Given as goal

abbrev pub invariant-entries : goal.invariant-entries
invariant-entries l = AllHaveValues l.entries ↔ AllHaveValues (drop l.entry-index l.entries)
