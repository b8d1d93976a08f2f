use Rattle.std.proofs.Common.{drop}
use Rattle.bib_value.proofs.FieldTextLemmas.{InText}
use Rattle.bib_value.proofs.spacing.spaced.Given as goal

abbrev pub invariant-loop-byte : goal.invariant-loop-byte
invariant-loop-byte l = InText l.text.items l.apart (drop l.byte-index l.bytes) l.bytes
