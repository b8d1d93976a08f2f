-- `insert`: a text is put into a file. (dialect)
use Rattle.std.specs.Prelude.{ℕ, Bool, ◌≡◌, ◌≢◌, ◌-◌, List, [], ◌∷◌, ◌++◌, length, Option, Some, None, codes}
use Rattle.std.specs.Fmt.{decimal}
use Rattle.bib_spec.specs.Text.{Text}
use Rattle.bib_spec.specs.Reading.{bytes_of}
use Rattle.bib_spec.specs.Texts.{months, macros_at}
use Rattle.bib_spec.specs.Records.{entries_of}
use Rattle.bib_data.specs.declared.position.Position.{Position}
use Rattle.bib_data.specs.declared.position.Position.TheVariants as position
use Rattle.bib_edit.specs.Positions.{IsPositionPlace}
use Rattle.bib_edit.specs.declared.fault.EditFault.TheVariants.{BadPosition, NameInUse}
use Rattle.bib_paste.specs.News.{news_of}
use Rattle.bib_script.specs.Script.{position_of}
use Rattle.bib_journal.specs.declared.fault.SessionFault.{SessionFault}
use Rattle.bib_journal.specs.declared.fault.SessionFault.TheVariants.{Unopened, Refused, Memory}
use Rattle.bib_journal.specs.declared.saving.Saved.{Saved}
use Rattle.bib_journal.specs.Loading.{Saves}
use Rattle.bib_journal.specs.OpenSteps.{SessionState}
use Rattle.bib_journal.specs.Renaming.{OfReadings}
use Rattle.bib_journal.specs.Session.{Inserts, RefusesInsertion}
use Rattle.bib_answers.specs.declared.answers.Answer.{Answer}
use Rattle.bib_answers.specs.Outcome.{answer_of}
use Rattle.bib_answers.specs.Messages.{refusal_in}
use Rattle.bib_run.specs.Sessions.{fault_line, outcome_after}
use Rattle.bib_run.specs.Inputs.{AnswersSession, AnswersInput}

-- ---- words

-- the position for which the words ask: the end, if there are none
abbrev pub position_asked : List Text → Option Position
position_asked [] = Some position.End
position_asked (word ∷ words) = position_of word

-- ---- messages

-- the line `added N`
abbrev pub inserted_line : ℕ → Text
inserted_line added = codes "added " ++ (decimal added ++ codes "\n")

-- how a message calls the text
abbrev pub input_name : Text
input_name = codes "standard input"

-- a line that says why the text is not put in; a fault of the text itself has its place there
abbrev pub uninserted_line : SessionFault → Text
uninserted_line (Unopened fault) = refusal_in fault.kind fault.place input_name
uninserted_line other = fault_line other

-- ---- answers

-- the answer when a text with so many entries was put in, and `saved` is the file and the journal
abbrev pub inserted_answer : ℕ → Saved → Answer
inserted_answer added saved = record { output = inserted_line added; outcome = outcome_after 1 None saved }

-- how many entries more than the old file the new one has
abbrev pub IsGain : ℕ → Text → Text → Type 0
IsGain added old new = OfReadings old new (λ db db'. added ≡ length (entries_of db') - length (entries_of db))

-- the answer of a session to a text at a position: it is put in, as one step; or why it can't be
pub data HasPutIn (at : Position) (text : Text) (opened : SessionState) (answer : Answer) : Option SessionFault → Type 0 where
  inserted : (closed : SessionState) (saved : Saved) (added : ℕ) → Inserts at text opened closed → Saves closed.steps saved → IsGain added opened.steps.present closed.steps.present
      → answer ≡ inserted_answer added saved → HasPutIn at text opened answer None
  refused : (fault : SessionFault) → fault ≢ Memory → RefusesInsertion at text opened fault → answer ≡ answer_of [] (uninserted_line fault) 1 → HasPutIn at text opened answer (Some fault)

-- the bytes of what is new of a text at this position of the file
pub record AreNews (at : Position) (file text news : Text) : Type 0 where
  pub place : ℕ
  pub is_place : IsPositionPlace file at place
  pub are : OfReadings file text (λ db new. news ≡ bytes_of (news_of (macros_at months db.items place) new))

-- a text is refused since it defines a macro that the file defines
abbrev pub defined_there : Option SessionFault
defined_there = Some (Refused NameInUse)

-- the answer of a session to a text at a position, of which only what is new is put in if it defines a macro that the file defines
pub data HasPutNews (at : Position) (text : Text) (opened : SessionState) (answer : Answer) : Type 0 where
  whole : (fault : Option SessionFault) → fault ≢ defined_there → HasPutIn at text opened answer fault → HasPutNews at text opened answer
  news : (told : Answer) (news : Text) (fault : Option SessionFault) → HasPutIn at text opened told defined_there → AreNews at opened.steps.present text news → HasPutIn at news opened answer fault
      → HasPutNews at text opened answer

-- the answer of a session to a text and the words of a position; or the words say none
pub data HasInserted (words : List Text) (text : Text) (opened : SessionState) (answer : Answer) : Type 0 where
  asked : (at : Position) → position_asked words ≡ Some at → HasPutNews at text opened answer → HasInserted words text opened answer
  no_position : position_asked words ≡ None → answer ≡ answer_of [] (fault_line (Refused BadPosition)) 1 → HasInserted words text opened answer

-- `insert F [POSITION]`: the text is put in at the position, without definitions that say what the file says if it must be
abbrev pub IsInsertAnswer : Bool → List Text → Text → Option Text → Text → Answer → Type 0
IsInsertAnswer new_journal words file journal input = AnswersSession new_journal (AnswersInput (HasInserted words) input) file journal
