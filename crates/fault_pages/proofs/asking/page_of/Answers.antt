use Rattle.fault_pages.specs.Heads.{is_asked, faults_of_bytes, faults_of_limits, faults_of_questions, faults_of_edits, faults_of_journals, faults_of_inputs}
use Rattle.fault_pages.proofs.FaultGroups.{groups}
use Rattle.fault_pages.proofs.asking.page_of.Goals as goal

pub returns : goal.returns
returns c = rw (c.or-5.ensures, c.or-4.ensures, c.or-3.ensures, c.or-2.ensures, c.or.ensures)
    (groups (is_asked c.args.word.now) faults_of_bytes faults_of_limits faults_of_questions faults_of_edits faults_of_journals faults_of_inputs
    c.faults_of_bytes.result c.faults_of_limits.result c.faults_of_questions.result c.faults_of_edits.result c.faults_of_journals.result c.faults_of_inputs.result
    c.faults_of_bytes.ensures c.faults_of_limits.ensures c.faults_of_questions.ensures c.faults_of_edits.ensures c.faults_of_journals.ensures c.faults_of_inputs.ensures)
