use Rattle.bib_edit.proofs.Words.{◌≡◌, ◌++◌, drop, entries_text}
use Rattle.bib_edit.proofs.new_text.entries_text.Given as goal

abbrev pub invariant-entries : goal.invariant-entries
invariant-entries l = l.text.items ++ entries_text (drop l.entry-index l.entries) ≡ entries_text l.entries
