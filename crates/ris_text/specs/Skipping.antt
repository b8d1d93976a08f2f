-- What the private functions of skipping read, line by line. The lemmas lead from it to the lines that a file skips.
use Rattle.std.specs.Prelude.{ℕ, suc, ◌≡◌, ◌≤◌, ◌<◌, Bool, true, false, if◌then◌else◌, List, [], ◌∷◌, length, map, drop}
use Rattle.bib_spec.specs.Text.{Text}
use Rattle.ris_text.specs.declared.lines.Class.{Class}
use Rattle.ris_text.specs.declared.lines.Class.TheVariants.{Begin, End, Known, Other, Blank, Untagged}
use Rattle.ris_text.specs.Lines.{Line, line_texts, lines_from}
use Rattle.ris_text.specs.Trees.{is_counted, is_other}
use Rattle.ris_text.specs.Skipped.{Standing, standing, number_at}

-- whether the lines after a line of this class are inside a record
abbrev pub inside_after : Bool → Class → Bool
inside_after inside Begin = true
inside_after inside End = false
inside_after inside (Known tag) = inside
inside_after inside Other = inside
inside_after inside Blank = inside
inside_after inside Untagged = inside

-- a line of this class is skipped, inside a record or outside
abbrev pub is_skipped : Bool → Class → Bool
is_skipped inside class = if inside then is_other class else is_counted class

-- the line comes first if it is skipped
abbrev pub with_line : Bool → Line → List Line → List Line
with_line skipped line lines = if skipped then line ∷ lines else lines

-- the lines that are skipped, from inside a record or from outside
abbrev pub skips_from : Bool → List Line → List Line
skips_from inside [] = []
skips_from inside (line ∷ lines) = with_line (is_skipped inside line.class) line (skips_from (inside_after inside line.class) lines)

-- the lines of a file that are skipped from this place on
abbrev pub skips_at : Text → Bool → ℕ → List Standing
skips_at file inside place = map (standing file) (skips_from inside (lines_from place (line_texts (drop place file))))

-- the place is in the file, and a line that begins there has this number
pub record IsNumbered (file : Text) (place number : ℕ) : Type 0 where
  pub within : place ≤ length file
  pub small : number ≤ suc place
  pub is_number : place < length file → number ≡ number_at file place
