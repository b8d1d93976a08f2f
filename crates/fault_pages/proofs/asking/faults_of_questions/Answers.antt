use Rattle.fault_pages.specs.Heads.{is_asked, faults_of_requests, faults_of_texts}
use Rattle.fault_pages.proofs.FaultGroups.{group}
use Rattle.fault_pages.proofs.asking.faults_of_questions.Goals as goal

pub returns : goal.returns
returns c = rw (c.or.ensures)
    (group (is_asked c.args.word.now) faults_of_requests faults_of_texts c.faults_of_requests.result c.faults_of_texts.result
    c.faults_of_requests.ensures c.faults_of_texts.ensures)
