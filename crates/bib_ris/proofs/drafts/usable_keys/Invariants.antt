use Rattle.bib_ris.proofs.Words.{◌≡◌, take, usable_keys}
use Rattle.bib_ris.proofs.drafts.usable_keys.Given as goal

abbrev pub invariant-entries : goal.invariant-entries
invariant-entries l = l.keys.items ≡ usable_keys (take l.entry-index l.entries)
