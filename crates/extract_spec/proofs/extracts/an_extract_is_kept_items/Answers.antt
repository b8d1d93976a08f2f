use Rattle.extract_spec.proofs.ExtractReads.{trees-kept, extract-reads, extract-closed}
use Rattle.extract_spec.proofs.extracts.an_extract_is_kept_items.Goals as goal

pub returns-clause-trees : goal.returns-clause-trees
returns-clause-trees c = trees-kept

pub returns-clause-reads : goal.returns-clause-reads
returns-clause-reads c = extract-reads

pub returns-clause-closed : goal.returns-clause-closed
returns-clause-closed c = extract-closed
