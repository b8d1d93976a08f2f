use Rattle.bib_answers.proofs.Words.{length, option_copied}
use Rattle.bib_answers.proofs.WrittenFields.{IsGathering}
use Rattle.bib_answers.proofs.written.Gathered.add_all.Given as goal

abbrev pub invariant-fields : goal.invariant-fields
invariant-fields l = IsGathering (option_copied l.from) l.initial.self.names l.initial.self.fields.items l.item.fields l.fields l.self.names l.self.fields.items

abbrev pub decreases-fields : goal.decreases-fields
decreases-fields l = length l.fields
