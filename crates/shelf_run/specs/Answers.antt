-- What a command answers to several files that are read as one. (dialect)
use Rattle.std.specs.Prelude.{ℕ, ◌≡◌, ◌≢◌, ◌-◌, List, [], length, Some, slice_index_or, IsSomeAnd}
use Rattle.bib_spec.specs.Text.{Text}
use Rattle.bib_spec.specs.Reading.{Reading}
use Rattle.bib_spec.specs.Texts.{Opens}
use Rattle.aux_text.specs.declared.placing.AuxKeys.{AuxKeys}
use Rattle.bib_words.specs.declared.commands.Command.{Command}
use Rattle.bib_words.specs.declared.verbs.Question.{Question}
use Rattle.bib_words.specs.declared.verbs.Question.TheVariants.{Check, Json}
use Rattle.bib_words.specs.declared.verbs.Verb.{Verb}
use Rattle.bib_words.specs.declared.verbs.Verb.TheVariants.{Asks, Lint, Names}
use Rattle.bib_words.specs.Verbs.{verb_of}
use Rattle.bib_shelf.specs.Joined.{text_of}
use Rattle.bib_shelf.specs.Faults.{AreAccepted, RefusesShelf}
use Rattle.bib_answers.specs.declared.answers.Answer.{Answer}
use Rattle.bib_answers.specs.Check.{check_answer_without}
use Rattle.bib_answers.specs.Raw.{json_answer_in}
use Rattle.bib_answers.specs.Lint.{files_answer, IsFaultAnswer}
use Rattle.bib_answers.specs.Names.{AnswersNames}
use Rattle.bib_answers.specs.Messages.{refusal_in}
use Rattle.bib_answers.specs.Outcome.{answer_of}
use Rattle.bib_run.specs.Answers.{question_answer, key_word, key_words, template_word}

-- What a command answers to what files with these names and bytes say together. `check` counts no seam, and `json` names the file of
-- each entry; else it is the answer to one file with the text of all.
abbrev pub shelf_answer : Question → Command → List Text → List Text → Reading → Answer
shelf_answer Check command names files = check_answer_without (length files - 1)
shelf_answer Json command names files = json_answer_in command.raw (Some (record { names = names; files = files })) command.depth (key_words command)
shelf_answer question command names files = question_answer question command

-- the answer to what files with these names say together, if they are accepted; or, with nothing written, which of them is at fault,
-- and where
pub data AnswersShelf (answers : Reading → Answer → Type 0) (names files : List Text) (answer : Answer) : Type 0 where
  opened : (db : Reading) → Opens (text_of files) db → AreAccepted files → answers db answer → AnswersShelf answers names files answer
  refused : (kind place i : ℕ) → kind ≢ 10 → RefusesShelf files kind place i → answer ≡ answer_of [] (refusal_in kind place (slice_index_or names i [])) 1
      → AnswersShelf answers names files answer

-- `lint` over files with these names, for the keys that aux files cite: the findings whose codes are not ignored, each with its place in
-- its file; or what is wrong with the first file that is at fault
pub data LintsShelf (ignored : List Text) (cited : List AuxKeys) (names files : List Text) (answer : Answer) : Type 0 where
  linted : (db : Reading) → Opens (text_of files) db → AreAccepted files → answer ≡ files_answer ignored cited names files db → LintsShelf ignored cited names files answer
  faulty : (kind place i : ℕ) → kind ≢ 10 → RefusesShelf files kind place i → IsFaultAnswer (slice_index_or names i []) (slice_index_or files i []) kind place answer
      → LintsShelf ignored cited names files answer

-- what each command that reads other files too answers
abbrev pub ShelfAnswers : Verb → Command → List Text → List Text → Answer → Type 0
ShelfAnswers (Asks question) command names files = AnswersShelf (λ db answer. answer ≡ shelf_answer question command names files db) names files
ShelfAnswers Lint command names files = LintsShelf (key_words command) command.cited names files
ShelfAnswers Names command names files = AnswersShelf (AnswersNames command.depth (key_word command) (template_word command)) names files
ShelfAnswers verb command names files = λ answer. ⊥

-- the answer of a command to files with these names and bytes
abbrev pub IsShelfAnswer : Command → List Text → List Text → Answer → Type 0
IsShelfAnswer command names files answer = IsSomeAnd (verb_of command.name) (λ verb. ShelfAnswers verb command names files answer)
