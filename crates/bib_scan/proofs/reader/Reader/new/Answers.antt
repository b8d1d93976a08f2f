use Rattle.bib_scan.proofs.Words.{arith, name_limit}
use Rattle.bib_spec.specs.Fault.{too_long}
use Rattle.bib_scan.proofs.LayoutLemmas.{commands_start}
use Rattle.bib_scan.proofs.NoteLemmas.{noted_start}
use Rattle.bib_scan.proofs.reader.Reader.new.Goals as goal

pub returns-then-bytes-gt-FILE_LIMIT-clause-fault : goal.returns-then-bytes-gt-FILE_LIMIT-clause-fault
returns-then-bytes-gt-FILE_LIMIT-clause-fault c = too_long (omega (arith, c.if-bytes-gt-FILE_LIMIT.true))

pub invariant_of-result : goal.invariant_of-result
invariant_of-result c =
    let rest = rw c.next_command-front_len.ensures.read at c.text_from.ensures in (
      omega (arith, c.if-bytes-gt-FILE_LIMIT.false),
      c.next_command-front_len.ensures.read,
      rw c.new.ensures.items (commands_start name_limit _ _ rest),
      noted_start _ _ _ _ rest c.new.ensures.items c.new-2.ensures.items,
    )
