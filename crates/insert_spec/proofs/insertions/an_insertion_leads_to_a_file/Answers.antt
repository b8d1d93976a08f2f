use Rattle.insert_spec.proofs.PutFiles.{insertion-leads}
use Rattle.insert_spec.proofs.insertions.an_insertion_leads_to_a_file.Goals as goal

pub returns : goal.returns
returns c = insertion-leads
