-- The lines of a file that are skipped. (dialect)
use Rattle.std.specs.Prelude.{ℕ, suc, ◌≡◌, not, ◌==◌, List, ◌++◌, length, map, take, drop, filter, count_by}
use Rattle.std.specs.List.{flat_map, prefix_len}
use Rattle.bib_spec.specs.Bytes.{line_feed}
use Rattle.bib_spec.specs.Text.{Text}
use Rattle.ris_text.specs.declared.records.RisFile.{RisFile}
use Rattle.ris_text.specs.declared.skipping.SkippedLine.{SkippedLine}
use Rattle.ris_text.specs.Lines.{Line}
use Rattle.ris_text.specs.Trees.{Begun, Block, Tree, is_counted, is_other}
use Rattle.ris_text.specs.Reading.{Reads}

-- ---- which lines are skipped

-- outside records, the lines without a tag are skipped, unless they are blank
abbrev pub outside_skips : List Line → List Line
outside_skips lines = filter (λ line. is_counted line.class) lines

-- inside a record, the tag lines are skipped whose tag is not known
abbrev pub inside_skips : Begun → List Line
inside_skips b = filter (λ line. is_other line.class) (map (λ p. p.head) b.inner)

-- the lines that are skipped inside a record and after it
abbrev pub block_skips : Block → List Line
block_skips b = inside_skips b.begun ++ outside_skips b.after

-- the lines of a file that are skipped, in order
abbrev pub skips : Tree → List Line
skips t = outside_skips t.front ++ flat_map block_skips t.blocks

-- the file says something, and these of its lines are skipped
pub record AreSkipped (file : Text) (lines : List Line) : Type 0 where
  pub said : RisFile
  pub reads : Reads file said
  pub skipped : skips reads.tree ≡ lines

-- ---- how a line stands in its file

-- the number of the line that begins at this place, from 1: one more than the line feeds before it
abbrev pub number_at : Text → ℕ → ℕ
number_at file place = suc (count_by (λ b. b == line_feed) (take place file))

-- the bytes from this place to the next line feed, or to the end if there is none
abbrev pub bytes_at : Text → ℕ → Text
bytes_at file place = take (prefix_len (λ b. not (b == line_feed)) (drop place file)) (drop place file)

-- a line as it stands in its file: its number, the place of its first byte, and its bytes without its line feed
pub record Standing : Type 0 where
  pub number : ℕ
  pub place : ℕ
  pub bytes : Text

-- the line as it stands in this file
abbrev pub standing : Text → Line → Standing
standing file line = record { number = number_at file line.place; place = line.place; bytes = bytes_at file line.place }

-- the line that the code gives
abbrev pub stands : SkippedLine → Standing
stands l = record { number = l.number; place = l.place; bytes = l.bytes.now }

-- ---- laws

-- a file skips one list of lines at most
abbrev pub SkipsOne : Type 0
SkipsOne = (file : Text) (lines others : List Line) → AreSkipped file lines → AreSkipped file others → lines ≡ others

-- a file skips as many lines as it says
abbrev pub SkippedAreCounted : Type 0
SkippedAreCounted = (file : Text) (said : RisFile) (lines : List Line) → Reads file said → AreSkipped file lines → length lines ≡ said.skipped
