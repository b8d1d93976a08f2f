use Rattle.extract_spec.proofs.ListedEntries.{listed-are_kept}
use Rattle.extract_spec.proofs.extracts.cited_entries_are_kept.Goals as goal

pub returns : goal.returns
returns c = listed-are_kept
