use Rattle.extract_spec.proofs.CitedLists.{cited-stay}
use Rattle.extract_spec.proofs.extracts.an_extract_keeps_its_cited_list.Goals as goal

pub returns : goal.returns
returns c = cited-stay
