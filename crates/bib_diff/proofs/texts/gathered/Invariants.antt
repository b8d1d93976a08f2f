use Rattle.std.proofs.Common.{length}
use Rattle.bib_definitions.specs.MacrosSeen.{macros_seen}
use Rattle.bib_diff.proofs.GatheredTexts.{IsGathering}
use Rattle.bib_diff.proofs.texts.gathered.Given as goal

abbrev pub invariant-fields : goal.invariant-fields
invariant-fields l = IsGathering (macros_seen l.macros) l.fn.fields l.rest l.texts

abbrev pub decreases-fields : goal.decreases-fields
decreases-fields l = length l.rest
