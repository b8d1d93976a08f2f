use Rattle.ris_format.proofs.Words.{◌≡◌, false, drop, lacks_and}
use Rattle.ris_format.proofs.people.lacks_and.Given as goal

abbrev pub invariant-loop-byte : goal.invariant-loop-byte
invariant-loop-byte l = lacks_and l.after_space (drop l.byte-index l.text) ≡ lacks_and false l.text
