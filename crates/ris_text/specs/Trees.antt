-- Files taken apart: tag lines with what continues them, records, and lines outside records. (dialect)
use Rattle.std.specs.Prelude.{ℕ, ◌≡◌, ◌+◌, Bool, true, false, ◌&&◌, not, List, [], ◌∷◌, ◌++◌, Option, Some, None, map, filter, filter_map, count_by, sum_by}
use Rattle.std.specs.List.{list_all, flat_map, join_with_byte}
use Rattle.bib_spec.specs.Bytes.{space}
use Rattle.bib_spec.specs.Text.{Text}
use Rattle.bib_spec.specs.Texts.{is_empty}
use Rattle.ris_text.specs.declared.lines.Class.{Class}
use Rattle.ris_text.specs.declared.lines.Class.TheVariants.{Begin, End, Known, Other, Blank, Untagged}
use Rattle.ris_text.specs.declared.records.RisLine.{RisLine}
use Rattle.ris_text.specs.declared.records.RisRecord.{RisRecord}
use Rattle.ris_text.specs.declared.records.RisFile.{RisFile}
use Rattle.ris_text.specs.Lines.{Line, is_untagged}

-- the value with the texts that continue it: all that are not empty, with a space between one and the next
unfoldable pub joined : Text → List Text → Text
joined value texts = join_with_byte space (filter (λ text. not (is_empty text)) (value ∷ texts))

-- ---- paragraphs

-- a tag line, and the lines without a tag after it, which continue it
pub record Paragraph : Type 0 where
  pub head : Line
  pub more : List Line

-- the lines of a paragraph
abbrev pub paragraph_lines : Paragraph → List Line
paragraph_lines p = p.head ∷ p.more

-- the value of a tag line with what continues it
abbrev pub value_of : Paragraph → Text
value_of p = joined p.head.text (map (λ line. line.text) p.more)

-- none of the lines has a tag
abbrev pub all_untagged : List Line → Bool
all_untagged lines = list_all (λ line. is_untagged line.class) lines

-- a line of this class may be inside a record, after its TY line
abbrev pub is_inner : Class → Bool
is_inner Begin = false
is_inner End = false
is_inner (Known tag) = true
is_inner Other = true
is_inner Blank = false
is_inner Untagged = false

-- a paragraph that may be inside a record
abbrev pub is_inner_paragraph : Paragraph → Bool
is_inner_paragraph p = is_inner p.head.class && all_untagged p.more

-- the line that a record keeps of a paragraph, if the tag is known
abbrev pub line_with : Class → Text → Option RisLine
line_with (Known tag) value = Some (record { tag = tag; value = value })
line_with Begin value = None
line_with End value = None
line_with Other value = None
line_with Blank value = None
line_with Untagged value = None

-- what a record keeps of a paragraph
abbrev pub kept_line : Paragraph → Option RisLine
kept_line p = line_with p.head.class (value_of p)

-- the tag is not known
abbrev pub is_other : Class → Bool
is_other Other = true
is_other Begin = false
is_other End = false
is_other (Known tag) = false
is_other Blank = false
is_other Untagged = false

-- ---- records

-- a record that has begun: the paragraph of its TY line, and the paragraphs after it
pub record Begun : Type 0 where
  pub first : Paragraph
  pub inner : List Paragraph

-- a record begins with a TY line, no other TY line and no ER line follows, and lines without a tag continue a line with one
pub record IsBegun (b : Begun) : Type 0 where
  pub begins : b.first.head.class ≡ Begin
  pub continued : all_untagged b.first.more ≡ true
  pub inner : list_all is_inner_paragraph b.inner ≡ true

-- the lines of a record that has begun
abbrev pub begun_lines : Begun → List Line
begun_lines b = paragraph_lines b.first ++ flat_map paragraph_lines b.inner

-- what the record says: its type is the value of its TY line, and lines with other than known tags are skipped
abbrev pub record_of : Begun → RisRecord
record_of b = record { kind_name = value_of b.first; lines = filter_map kept_line b.inner }

-- how many of its lines are skipped
abbrev pub skipped_inside : Begun → ℕ
skipped_inside b = count_by (λ p. is_other p.head.class) b.inner

-- a record with its ER line, and the lines after it that belong to no record
pub record Block : Type 0 where
  pub begun : Begun
  pub last : Line
  pub after : List Line

-- a whole record: its type is not empty, it ends with an ER line, and the lines after the ER line have no tag
pub record IsBlock (b : Block) : Type 0 where
  pub begun : IsBegun b.begun
  pub typed : is_empty (record_of b.begun).kind_name ≡ false
  pub ends : b.last.class ≡ End
  pub after : all_untagged b.after ≡ true

-- the lines of a record, with its ER line and the lines after it that belong to no record
abbrev pub block_lines : Block → List Line
block_lines b = begun_lines b.begun ++ (b.last ∷ b.after)

-- ---- files

-- the lines before the first record, and the records
pub record Tree : Type 0 where
  pub front : List Line
  pub blocks : List Block

-- all are blocks
pub data AreBlocks : List Block → Type 0 where
  none : AreBlocks []
  more : {b : Block} {bs : List Block} → IsBlock b → AreBlocks bs → AreBlocks (b ∷ bs)

-- lines without a tag, and then blocks
pub record IsTree (t : Tree) : Type 0 where
  pub front : all_untagged t.front ≡ true
  pub blocks : AreBlocks t.blocks

-- the lines of a file
abbrev pub tree_lines : Tree → List Line
tree_lines t = t.front ++ flat_map block_lines t.blocks

-- outside records a line without a tag is skipped, and counted unless it is blank
abbrev pub is_counted : Class → Bool
is_counted Untagged = true
is_counted Blank = false
is_counted Begin = false
is_counted End = false
is_counted (Known tag) = false
is_counted Other = false

-- how many lines are skipped outside records
abbrev pub skipped_outside : List Line → ℕ
skipped_outside lines = count_by (λ line. is_counted line.class) lines

-- how many lines are skipped inside a record and after it
abbrev pub skipped_by : Block → ℕ
skipped_by b = skipped_inside b.begun + skipped_outside b.after

-- what a file says
abbrev pub file_of : Tree → RisFile
file_of t = record { records = map (λ b. record_of b.begun) t.blocks; skipped = skipped_outside t.front + sum_by skipped_by t.blocks }
