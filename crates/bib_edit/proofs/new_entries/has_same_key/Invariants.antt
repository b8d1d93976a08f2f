use Rattle.bib_edit.proofs.SeenNames.{SeenTo}
use Rattle.bib_edit.proofs.new_entries.has_same_key.Given as goal

abbrev pub invariant-entries : goal.invariant-entries
invariant-entries l = SeenTo (λ new. new.key) l.entries l.entry-index l.seen
