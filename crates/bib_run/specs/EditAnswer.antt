-- `edit`: what a script, or the words of one edit, make of a file. (dialect)
use Rattle.std.specs.Prelude.{ℕ, Bool, ◌≡◌, ◌≢◌, ◌==◌, ◌&&◌, not, if◌then◌else◌, List, [], ◌++◌, take, sum_by, slice_index_or, Option, Some, None, option_map, codes}
use Rattle.std.specs.Fmt.{decimal}
use Rattle.bib_spec.specs.Text.{Text}
use Rattle.bib_spec.specs.Texts.{is_empty}
use Rattle.bib_data.specs.declared.request.Request.{Request}
use Rattle.bib_data.specs.declared.request.Request.TheVariants as request
use Rattle.bib_journal.specs.declared.fault.SessionFault.{SessionFault}
use Rattle.bib_journal.specs.declared.fault.SessionFault.TheVariants.{Memory}
use Rattle.bib_journal.specs.declared.saving.Saved.{Saved}
use Rattle.bib_journal.specs.Faults.{fault_number}
use Rattle.bib_journal.specs.Loading.{Saves}
use Rattle.bib_journal.specs.OpenSteps.{SessionState}
use Rattle.bib_journal.specs.Session.{Performs}
use Rattle.bib_script.specs.Script.{Said, said_of}
use Rattle.bib_script.specs.Words.{asked_by_words}
use Rattle.bib_answers.specs.declared.answers.Answer.{Answer}
use Rattle.bib_run.specs.SessionNames.{session_fault_name}
use Rattle.bib_answers.specs.Outcome.{answer_of}
use Rattle.bib_run.specs.Sessions.{fault_line, outcome_after}
use Rattle.bib_run.specs.Inputs.{AnswersSession, AnswersInput}

-- the line `bibkeep: line L: N Name`
abbrev pub script_line : ℕ → ℕ → Text → Text
script_line line number name =
    codes "bibkeep: line " ++ (decimal line ++ (codes ": " ++ (decimal number ++ (codes " " ++ (name ++ codes "\n")))))

-- the message of a refused request: its line in the script, and the fault
abbrev pub refused_line : ℕ → SessionFault → Text
refused_line line fault = script_line line (fault_number fault) (session_fault_name (fault_number fault))

-- the message of a line of a script that is no request
abbrev pub bad_line : ℕ → Text
bad_line line = script_line line 71 (codes "BadScript")

-- Why a script stopped after its first `done` requests, if it did: the next request is refused, or a line is no request.
abbrev pub stop_line : Said → ℕ → Option SessionFault → Option Text
stop_line said done (Some fault) = Some (refused_line (slice_index_or said.lines done 0) fault)
stop_line said done None = option_map bad_line said.bad_line

-- the line `applied N`
abbrev pub applied_line : ℕ → Text
applied_line done = codes "applied " ++ (decimal done ++ codes "\n")

-- how many changes a request is: an edit is one; the begin and the end of a step are none
abbrev pub changes_of : Request → ℕ
changes_of (request.Edit edit) = 1
changes_of (request.Place position edit) = 1
changes_of (request.Insert position text) = 1
changes_of other = 0

-- how many edits there are among the requests
abbrev pub edits_in : List Request → ℕ
edits_in requests = sum_by changes_of requests

-- ---- answers

-- The answer after the first `done` requests: the message says what stopped them, if anything did, and `saved` is the file and the
-- journal that they leave.
abbrev pub edited_answer : List Request → ℕ → Option Text → Saved → Answer
edited_answer requests done message saved =
    let made = edits_in (take done requests) in
    record { output = applied_line made; outcome = outcome_after made message saved }

-- The answer to requests of a session that was opened in this state: they are done in order, up to the first that is refused.
-- `message` gives what is said, from how many were done and the fault of the next one.
pub record HasEdited (requests : List Request) (message : ℕ → Option SessionFault → Option Text) (opened : SessionState) (answer : Answer) : Type 0 where
  pub done : ℕ
  pub fault : Option SessionFault
  pub closed : SessionState
  pub saved : Saved
  pub told : fault ≢ Some Memory
  pub performs : Performs requests done fault opened closed
  pub saves : Saves closed.steps saved
  pub answered : answer ≡ edited_answer requests done (message done fault) saved

-- ---- `edit F`

-- the answer of a session to a script
abbrev pub HasEditedBy : Text → SessionState → Answer → Type 0
HasEditedBy script = HasEdited (said_of script).requests (stop_line (said_of script))

-- `edit F`: the requests of the script are done in order, up to the first line that is refused or is no request; a step that is
-- still open then is ended
abbrev pub IsEditAnswer : Bool → Text → Option Text → Text → Answer → Type 0
IsEditAnswer new_journal file journal input = AnswersSession new_journal (AnswersInput HasEditedBy input) file journal

-- ---- `edit F WORD..`

-- the message of words that say no edit
abbrev pub bad_words_line : Text
bad_words_line = codes "bibkeep: 71 BadScript\n"

-- the message of a fault, if there is one
abbrev pub fault_message : ℕ → Option SessionFault → Option Text
fault_message done fault = option_map fault_line fault

-- the answer of a session to the words of one edit: the edit is made as a step with the words as its label; or they say no edit
pub data HasEditedByWords (words : List Text) (opened : SessionState) (answer : Answer) : Type 0 where
  said : (requests : List Request) → asked_by_words words ≡ Some requests → HasEdited requests fault_message opened answer → HasEditedByWords words opened answer
  bad : asked_by_words words ≡ None → answer ≡ answer_of (applied_line 0) bad_words_line 1 → HasEditedByWords words opened answer

-- `edit F WORD..`: the one edit that the words say
abbrev pub IsWordsAnswer : Bool → List Text → Text → Option Text → Answer → Type 0
IsWordsAnswer new_journal words = AnswersSession new_journal (HasEditedByWords words)

-- ---- `--all-or-nothing`

-- The answer when what was done is taken back: nothing is stored, and the output says that nothing was applied, if anything was
-- said of that. Message and status are unchanged.
abbrev pub taken_back : Answer → Answer
taken_back answer = answer_of (if is_empty answer.output then [] else applied_line 0) answer.outcome.message answer.outcome.status

-- the answer, with `--all-or-nothing` or without: with it all is taken back if anything was refused
abbrev pub whole : Bool → Answer → Answer
whole all_or_nothing answer = if all_or_nothing && not (answer.outcome.status == 0) then taken_back answer else answer
