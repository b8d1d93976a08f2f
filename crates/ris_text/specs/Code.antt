-- What the private functions read, line by line from the end. The lemmas lead from it to what a file says.
use Rattle.std.specs.Prelude.{ℕ, suc, ◌+◌, Bool, false, if◌then◌else◌, List, [], ◌∷◌, ◌++◌, Result, Ok, Err}
use Rattle.bib_spec.specs.Text.{Text}
use Rattle.bib_spec.specs.Texts.{is_empty}
use Rattle.ris_text.specs.declared.lines.Class.{Class}
use Rattle.ris_text.specs.declared.lines.Class.TheVariants.{Begin, End, Known, Other, Blank, Untagged}
use Rattle.ris_text.specs.declared.lines.Line.{Line as LineView}
use Rattle.ris_text.specs.declared.records.RisLine.{RisLine}
use Rattle.ris_text.specs.declared.records.RisRecord.{RisRecord}
use Rattle.ris_text.specs.declared.records.RisFile.{RisFile}
use Rattle.ris_text.specs.declared.fault.RisFault.{RisFault}
use Rattle.ris_text.specs.declared.fault.RisFault.TheVariants.{NoStart, NoEnd, EmptyType}
use Rattle.ris_text.specs.Lines.{Line, is_untagged}
use Rattle.ris_text.specs.Trees.{joined}

-- the line that the code has taken
abbrev pub seen : LineView → Line
seen l = record { place = l.place; class = l.class; text = l.text.now }

-- there is a first line, and it has no tag
abbrev pub continues : List Line → Bool
continues [] = false
continues (line ∷ lines) = is_untagged line.class

-- the texts of the lines without a tag at the front
abbrev pub continuation : List Line → List Text
continuation [] = []
continuation (line ∷ lines) = if is_untagged line.class then line.text ∷ continuation lines else []

-- the lines after the lines without a tag at the front
abbrev pub after_continuation : List Line → List Line
after_continuation [] = []
after_continuation (line ∷ lines) = if is_untagged line.class then after_continuation lines else line ∷ lines

-- what a file says, or where it goes wrong
abbrev pub Outcome : Type 0
Outcome = Result RisFile RisFault

-- What lines say inside a record: the lines that the record keeps, how many are skipped, and what the lines after its ER line
-- say, or why there is no ER line.
pub record Inside : Type 0 where
  pub kept : List RisLine
  pub skipped : ℕ
  pub after : Result Outcome RisFault

-- what lines say inside a record, from its three parts
abbrev pub inside : List RisLine → ℕ → Result Outcome RisFault → Inside
inside kept skipped after = record { kept = kept; skipped = skipped; after = after }

-- what lines say outside records, and inside one
pub record Told : Type 0 where
  pub outside : Outcome
  pub inside : Inside

-- what lines say outside records and inside one, from both
abbrev pub told_both : Outcome → Inside → Told
told_both outside inner = record { outside = outside; inside = inner }

-- a file that says these records, where this many lines are skipped
abbrev pub ris_file : List RisRecord → ℕ → RisFile
ris_file records skipped = record { records = records; skipped = skipped }

-- a record of this type, with these lines
abbrev pub ris_record : Text → List RisLine → RisRecord
ris_record kind_name lines = record { kind_name = kind_name; lines = lines }

-- a line with this tag and this value
abbrev pub ris_line : Text → Text → RisLine
ris_line tag value = record { tag = tag; value = value }

-- what a file says if `n` lines before it are skipped
abbrev pub with_skipped : ℕ → Outcome → Outcome
with_skipped n (Ok file) = Ok (ris_file file.records (n + file.skipped))
with_skipped n (Err fault) = Err fault

-- what a file says if a record comes before it
abbrev pub with_record : RisRecord → Outcome → Outcome
with_record r (Ok file) = Ok (ris_file (r ∷ file.records) file.skipped)
with_record r (Err fault) = Err fault

-- the outcome of a record that begins at this place and has this type
abbrev pub whole_record : ℕ → Text → Inside → Result Outcome RisFault → Outcome
whole_record place kind_name i (Err fault) = Err fault
whole_record place kind_name i (Ok outcome) =
    if is_empty kind_name then Err (EmptyType place) else with_record (ris_record kind_name i.kept) (with_skipped i.skipped outcome)

-- what a first line says, by its class, with the lines after it and what they say
abbrev pub told_by : Line → List Line → Class → Told → Told
told_by line lines Begin t =
    told_both (whole_record line.place (joined line.text (continuation lines)) t.inside t.inside.after) (inside [] 0 (Err (NoEnd line.place)))
told_by line lines End t = told_both (Err (NoStart line.place)) (inside [] 0 (Ok t.outside))
told_by line lines (Known tag) t =
    told_both (Err (NoStart line.place)) (inside (ris_line tag (joined line.text (continuation lines)) ∷ t.inside.kept) t.inside.skipped t.inside.after)
told_by line lines Other t = told_both (Err (NoStart line.place)) (inside t.inside.kept (suc t.inside.skipped) t.inside.after)
told_by line lines Blank t = t
told_by line lines Untagged t = told_both (with_skipped 1 t.outside) t.inside

-- what lines say in a file that ends at this place
abbrev pub told : ℕ → List Line → Told
told end [] = told_both (Ok (ris_file [] 0)) (inside [] 0 (Err (NoEnd end)))
told end (line ∷ lines) = told_by line lines line.class (told end lines)

-- what lines say inside a record, in a file that ends at this place
abbrev pub told_inner : ℕ → List Line → Inside
told_inner end lines = (told end lines).inside

-- what a record and the lines after it say, given its TY line and the lines after the TY line
abbrev pub record_told : ℕ → Line → List Line → Outcome
record_told end line lines =
    whole_record line.place (joined line.text (continuation lines)) (told_inner end lines) (told_inner end lines).after

-- what lines say outside records, after these records and `n` skipped lines
abbrev pub with_front : List RisRecord → ℕ → Outcome → Outcome
with_front records n (Ok file) = Ok (ris_file (records ++ file.records) (n + file.skipped))
with_front records n (Err fault) = Err fault
