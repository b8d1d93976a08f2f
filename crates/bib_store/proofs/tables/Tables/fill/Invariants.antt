use Rattle.bib_store.proofs.Words.{◌≡◌, ◌≤◌, ◌+◌, length, file_limit}
use Rattle.bib_store.proofs.WalkedFiles.{ReadTo}
use Rattle.bib_store.proofs.tables.Tables.fill.Given as goal

abbrev pub invariant-walk : goal.invariant-walk
invariant-walk l = (l.reader.file ≡ l.bytes) × (l.reader.count ≡ l.n) × (l.n + l.reader.left ≤ length l.bytes) × (length l.bytes ≤ file_limit) × ReadTo l.bytes l.n l.self

abbrev pub decreases-walk : goal.decreases-walk
decreases-walk l = l.reader.left
