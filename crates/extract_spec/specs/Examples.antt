-- What the definitions say of small files.
use Rattle.std.specs.Prelude.{◌≡◌, List, [], ◌∷◌, codes, None}
use Rattle.bib_spec.specs.Text.{Text}
use Rattle.bib_spec.specs.Tree.{Part, Braced, Digits, Macro, Link, Value, Assignment, Row, Brace, Opening, CommentTree, DefinitionTree, EntryTree}
use Rattle.bib_spec.specs.Reading.{Item, Reading, bytes_of}
use Rattle.extract_spec.specs.Extract.{extract_of}

-- ---- small files

-- `@` and the type, and an opening brace
abbrev pub opening : Text → Opening
opening kind = record { head = record { space_before_type = []; type_name = kind }; space_before_delimiter = []; delimiter = Brace; space_after = [] }

-- a value of one part
abbrev pub value : Part → Value
value part = record { first = part; links = [] }

-- `#` and a part
abbrev pub link : Part → Link
link part = record { space_before_hash = []; space_after_hash = []; part = part }

-- `name=value`
abbrev pub assignment : Text → Value → Assignment
assignment name v = record { name = name; space_before_equals = []; space_before_value = []; value = v; space_after = [] }

-- `,name=value`
abbrev pub row : Text → Value → Row
row name v = record { space_before_name = []; assignment = assignment name v }

-- `@string{name=value}` with this trail
abbrev pub string_item : Text → Value → Text → Item
string_item name v trail = record { tree = DefinitionTree (record { opening = opening (codes "string"); assignment = assignment name v }); trail = trail }

-- `@misc{key,..}` with this trail
abbrev pub misc_item : Text → List Row → Text → Item
misc_item key rows trail = record {
  tree = EntryTree (record { opening = opening (codes "misc"); key = key; space_after_key = []; rows = rows; last_comma = None });
  trail = trail;
}

-- `@comment` with this trail
abbrev pub comment_item : Text → Item
comment_item trail = record { tree = CommentTree (record { space_before_type = []; type_name = codes "comment" }); trail = trail }

-- ---- extracts

-- `@string{p={A}}@misc{a,t=p}@string{p={B}}@misc{b,t=p}`
abbrev pub defined_twice : Reading
defined_twice =
    let p_of = λ (text : Text). string_item (codes "p") (value (Braced text)) [] in
    let uses_p = λ (key : Text). misc_item key (row (codes "t") (value (Macro (codes "p"))) ∷ []) [] in
    record { front = []; items = p_of (codes "A") ∷ (uses_p (codes "a") ∷ (p_of (codes "B") ∷ (uses_p (codes "b") ∷ []))) }

-- the definition before the use is kept, and no other
abbrev pub LastDefinitionBeforeUse : Text → Text → Type 0
LastDefinitionBeforeUse key text = bytes_of (extract_of defined_twice (key ∷ [])) ≡ text

-- `@misc{a,month=jan}@string{jan=jan#{x}}@misc{b,month=jan}`
abbrev pub month_defined : Reading
month_defined =
    let in_jan = λ (key : Text). misc_item key (row (codes "month") (value (Macro (codes "jan"))) ∷ []) [] in
    let jan : Value = record { first = Macro (codes "jan"); links = link (Braced (codes "x")) ∷ [] } in
    record { front = []; items = in_jan (codes "a") ∷ (string_item (codes "jan") jan [] ∷ (in_jan (codes "b") ∷ [])) }

-- a use of a month keeps no later definition of it
abbrev pub MonthBeforeDefinition : Text → Text → Type 0
MonthBeforeDefinition key text = bytes_of (extract_of month_defined (key ∷ [])) ≡ text

-- `@misc{a,crossref={b}}@misc{b,crossref={a}}@misc{c}`: a ring of parents
abbrev pub ring : Reading
ring =
    let child = λ (key of : Text). misc_item key (row (codes "crossref") (value (Braced of)) ∷ []) [] in
    record { front = []; items = child (codes "a") (codes "b") ∷ (child (codes "b") (codes "a") ∷ (misc_item (codes "c") [] [] ∷ [])) }

-- a ring is kept whole
abbrev pub RingIsKept : Type 0
RingIsKept = bytes_of (extract_of ring (codes "a" ∷ [])) ≡ codes "@misc{a,crossref={b}}\n@misc{b,crossref={a}}\n"

-- `@misc{a}@comment{x}@misc{A,t=1}@string{m=1}`: the one key `*` keeps a repeated entry, and neither the comment nor the macro
abbrev pub StarKeepsEntries : Type 0
StarKeepsEntries =
    let one : Value = value (Digits (codes "1")) in
    let db : Reading = record {
      front = [];
      items = misc_item (codes "a") [] [] ∷ (comment_item (codes "{x}") ∷ (misc_item (codes "A") (row (codes "t") one ∷ []) [] ∷ (string_item (codes "m") one [] ∷ [])));
    } in
    bytes_of (extract_of db (codes "*" ∷ [])) ≡ codes "@misc{a}\n@misc{A,t=1}\n"
