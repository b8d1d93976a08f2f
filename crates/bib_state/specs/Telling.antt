-- What is told of the entries of a session's file. (dialect)
use Rattle.std.specs.Prelude.{◌≡◌, ℕ, List, [], ◌++◌, Some, None, true, false, codes}
use Rattle.std.specs.List.{flat_map}
use Rattle.bib_spec.specs.Text.{Text}
use Rattle.bib_spec.specs.Reading.{Reading}
use Rattle.bib_spec.specs.Records.{entries_of, entry_named, keys_of}
use Rattle.bib_store.specs.Readings.{OfReading}
use Rattle.entry_json.specs.EntryJson.{Told, json_line, is_told_utf8}
use Rattle.bib_journal.specs.OpenSteps.{SessionState}
use Rattle.bib_journal.specs.declared.fault.SessionFault.TheVariants.{Memory}
use Rattle.bib_answers.specs.declared.answers.Answer.{Answer}
use Rattle.bib_answers.specs.Outcome.{answer_of}
use Rattle.bib_answers.specs.Json.{told_at}
use Rattle.bib_state.specs.declared.fault.CallFault.{CallFault}
use Rattle.bib_state.specs.declared.fault.CallFault.TheVariants.{Misuse, NoSuchEntry, NotUtf8, BadScript, Session}

-- a key with a line feed after it
abbrev pub key_line : Text → Text
key_line key = key ++ codes "\n"

-- the keys in order, a line feed after each
abbrev pub key_lines : List Text → Text
key_lines keys = flat_map key_line keys

-- the keys of all entries of the file
abbrev pub GivesKeys : Answer → SessionState → Type 0
GivesKeys answer state = OfReading state.steps.present (λ r. answer ≡ answer_of (key_lines (keys_of (entries_of r))) [] 0)

-- the line of JSON that tells of entry n at this depth
abbrev pub IsLineOf : ℕ → ℕ → Text → Reading → Type 0
IsLineOf depth n line r = (told : Told) → told_at depth (entries_of r) n ≡ Some told → (is_told_utf8 told ≡ true) × (line ≡ json_line told)

-- entry n, told at this depth, has a text that is not UTF-8
abbrev pub IsNoLineOf : ℕ → ℕ → Reading → Type 0
IsNoLineOf depth n r = (told : Told) → told_at depth (entries_of r) n ≡ Some told → is_told_utf8 told ≡ false

-- the line of JSON of the first entry of the file with this key, at this depth
pub record TellsEntry (key : Text) (depth : ℕ) (file : Text) (answer : Answer) : Type 0 where
  pub n : ℕ
  pub line : Text
  pub found : OfReading file (λ r. entry_named (entries_of r) key ≡ Some n)
  pub told : OfReading file (IsLineOf depth n line)
  pub given : answer ≡ answer_of line [] 0

-- the same of the present file
abbrev pub GivesEntry : Text → ℕ → Answer → SessionState → Type 0
GivesEntry key depth answer state = TellsEntry key depth state.steps.present answer

-- the first entry of the file with this key, told at this depth, has a text that is not UTF-8
pub record LacksUtf8 (key : Text) (depth : ℕ) (file : Text) : Type 0 where
  pub n : ℕ
  pub found : OfReading file (λ r. entry_named (entries_of r) key ≡ Some n)
  pub untold : OfReading file (IsNoLineOf depth n)

-- why no entry of the file is told: none has the key; a text is not UTF-8; or memory ran out
abbrev pub TellsNone : Text → ℕ → CallFault → Text → Type 0
TellsNone key depth NoSuchEntry file = OfReading file (λ r. entry_named (entries_of r) key ≡ None)
TellsNone key depth NotUtf8 file = LacksUtf8 key depth file
TellsNone key depth (Session reason) file = reason ≡ Memory
TellsNone key depth Misuse file = ⊥
TellsNone key depth BadScript file = ⊥

-- the same of the present file
abbrev pub RefusesEntry : Text → ℕ → CallFault → SessionState → Type 0
RefusesEntry key depth fault state = TellsNone key depth fault state.steps.present
