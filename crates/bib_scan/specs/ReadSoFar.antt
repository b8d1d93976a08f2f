-- No promise rests on this page: it says what a reader of a file keeps between two items.
use Rattle.std.specs.Prelude.{◌≡◌, ℕ, ◌<◌, ◌≤◌, ◌⊎◌, true, List, [], ◌++◌, length, map, Result, Ok}
use Rattle.bib_spec.specs.Text.{Text}
use Rattle.bib_spec.specs.Clean.{begins_command}
use Rattle.bib_scan.specs.LeftToRight.{Halt, read_commands, read_all_commands, ◌>>=◌}
use Rattle.bib_scan.specs.NotesLeft.{note_at}
use Rattle.bib_scan.specs.declared.layout.Span.{Span}
use Rattle.bib_scan.specs.declared.note.Note.{Note}

-- a text that may follow a clean text: the empty text, or a text that begins with a command
abbrev pub Next : Text → Type 0
Next r = (r ≡ []) ⊎ (begins_command r ≡ true)

-- these spans, and after them the spans that were read
abbrev pub with_spans : List Span → Result (List Span) Halt → Result (List Span) Halt
with_spans spans read = read >>= λ later. Ok (spans ++ later)

-- The commands of `t` are these spans, and then the commands of `rest`.
pub record CommandsOn (limit : ℕ) (t rest : Text) (spans : List Span) : Type 0 where
  pub shorter : length rest ≤ length t
  pub read : (n : ℕ) × (length rest < n) × (read_all_commands limit t ≡ with_spans spans (read_commands limit (length t) n rest))

-- what was read comes before `rest` in the file, and each item's note is the note at its place
pub record NotedOn (file rest : Text) (spans : List Span) (notes : List Note) : Type 0 where
  pub front : Text
  pub split : file ≡ front ++ rest
  pub next : Next rest
  pub notes_are : notes ≡ map (note_at file) spans
