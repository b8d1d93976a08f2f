use Rattle.journal_format.proofs.Words.{arith, subst, IsWrongJournal, StopsWhere}
use Rattle.journal_format.proofs.JournalLaws.{one-contents, no_wrong_journal}
use Rattle.journal_format.proofs.Within.{journal_within}
use Rattle.journal_format.proofs.packed_reading.pack_journal.Goals as goal

wrong : (c : goal.In-Err-Wrong) → IsWrongJournal c.args.text.now c.in-Err-Wrong.left
wrong c = subst (StopsWhere (IsWrongJournal c.args.text.now)) c.in-Err-Wrong.field-0-is c.in-Err-Wrong.ensures.wrong

pub overflow_sub-result : goal.overflow_sub-result
overflow_sub-result c = journal_within c.args.text.now c.in-Err-Wrong.left (wrong c)

pub returns-in-Ok-clause-again : goal.returns-in-Ok-clause-again
returns-in-Ok-clause-again c = λ d j. one-contents c.args.text.now _ d c.in-Ok.ensures.read j

pub returns-in-Err-Wrong-clause-refused : goal.returns-in-Err-Wrong-clause-refused
returns-in-Err-Wrong-clause-refused c = record {
  none = λ d j. no_wrong_journal c.args.text.now d c.in-Err-Wrong.left j (wrong c);
  wrong = record {
    left = c.in-Err-Wrong.left;
    wrong = wrong c;
    all = omega (arith, journal_within c.args.text.now c.in-Err-Wrong.left (wrong c));
  };
}

pub returns-in-Err-Wrong-clause-again : goal.returns-in-Err-Wrong-clause-again
returns-in-Err-Wrong-clause-again c = λ d j. absurd (no_wrong_journal c.args.text.now d c.in-Err-Wrong.left j (wrong c))
