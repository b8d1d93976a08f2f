-- What the definitions say of small files.
use Rattle.std.specs.Prelude.{ℕ, ◌≡◌, true, false, List, [], ◌∷◌, codes, map, Option, None, Some}
use Rattle.bib_spec.specs.Text.{Text}
use Rattle.bib_spec.specs.Tree.{Part, Braced, Quoted, Digits, Value, Row, Brace, Opening, EntryTree}
use Rattle.bib_spec.specs.Reading.{Item, Reading}
use Rattle.merge_spec.specs.Units.{Label, units_of, first_space, EntryLabel}
use Rattle.merge_spec.specs.ThreeWay.{Outcome, Ours, Theirs, Mixed, Gone, Both}
use Rattle.merge_spec.specs.Merged.{Place, merged_bytes, is_merge}
use Rattle.merge_spec.specs.Conflicts.{ChangedPart, Whole, TheType, TheField, Changed, Conflict, conflicts_of}
use Rattle.merge_spec.specs.Names.{parent_key, may_name}

-- ---- small files

-- `@` and the type, and an opening brace
abbrev pub opening : Text → Opening
opening kind = record { head = record { space_before_type = []; type_name = kind }; space_before_delimiter = []; delimiter = Brace; space_after = [] }

-- a value of one part
abbrev pub value : Part → Value
value part = record { first = part; links = [] }

-- the digits as a value
abbrev pub digits : Text → Value
digits t = value (Digits t)

-- the text in braces as a value
abbrev pub braced : Text → Value
braced t = value (Braced t)

-- `,`, LF, two spaces, `name = value`, and this white space
abbrev pub line : Text → Value → Text → Row
line name v space = record {
  space_before_name = codes "\n  ";
  assignment = record { name = name; space_before_equals = codes " "; space_before_value = codes " "; value = v; space_after = space };
}

-- `, name = value`
abbrev pub row : Text → Value → Row
row name v = record {
  space_before_name = codes " ";
  assignment = record { name = name; space_before_equals = codes " "; space_before_value = codes " "; value = v; space_after = [] };
}

-- an entry of this type with this trail
abbrev pub entry : Text → Text → List Row → Text → Item
entry kind key rows trail = record {
  tree = EntryTree (record { opening = opening kind; key = key; space_after_key = []; rows = rows; last_comma = None });
  trail = trail;
}

-- `@misc{key,..}` and LF
abbrev pub misc : Text → List Row → Item
misc key rows = entry (codes "misc") key rows (codes "\n")

-- a file of these items
abbrev pub file : List Item → Reading
file items = record { front = []; items = items }

-- the rows of an entry with `t` and `u`, each on its line
abbrev pub rows : Value → Value → List Row
rows t u = line (codes "t") t [] ∷ (line (codes "u") u (codes "\n") ∷ [])

-- the entry `a` of the common file
abbrev pub a : Item
a = misc (codes "a") (rows (digits (codes "1")) (digits (codes "2")))

-- the same entry with the key `k`
abbrev pub k : Item
k = misc (codes "k") (rows (digits (codes "1")) (digits (codes "2")))

-- a place where these units meet
abbrev pub place : Option ℕ → Option ℕ → Option ℕ → Outcome → Text → Place
place b o t outcome space = record { base = b; ours = o; theirs = t; outcome = outcome; space = space }

-- the places are a merge of the three files, in which the sides gave units these labels, and these are its bytes
pub record MergesWith (given : List Label) (base ours theirs : Reading) (places : List Place) (text : Text) : Type 0 where
  pub merge : is_merge given (units_of base) (units_of ours) (units_of theirs) places ≡ true
  pub bytes : merged_bytes (units_of ours) (units_of theirs) (first_space ours) places ≡ text

-- the same, where no side gave a unit its label
abbrev pub Merges : Reading → Reading → Reading → List Place → Text → Type 0
Merges = MergesWith []

-- the places are no merge of the three files, in which the sides gave units these labels
abbrev pub MergesNotWith : List Label → Reading → Reading → Reading → List Place → Type 0
MergesNotWith given base ours theirs places = is_merge given (units_of base) (units_of ours) (units_of theirs) places ≡ false

-- the same, where no side gave a unit its label
abbrev pub MergesNot : Reading → Reading → Reading → List Place → Type 0
MergesNot = MergesNotWith []

-- LF
abbrev pub lf : Text
lf = codes "\n"

-- ---- entries that are added

-- each side adds an entry at the end: both are there
abbrev pub BothAreAdded : Type 0
BothAreAdded =
    let added : Text → Item = λ key. entry (codes "misc") key [] (codes "\n") in
    let space : Item → Item = λ item. record item { trail = codes "\n\n" } in
    Merges (file (a ∷ [])) (file (space a ∷ (added (codes "o") ∷ []))) (file (space a ∷ (added (codes "p") ∷ [])))
    (place (Some 0) (Some 0) (Some 0) Ours (codes "\n\n") ∷ (place None (Some 1) None Ours (codes "\n\n") ∷ (place None None (Some 1) Theirs lf ∷ [])))
    (codes "@misc{a,\n  t = 1,\n  u = 2\n}\n\n@misc{o}\n\n@misc{p}\n")

-- each side adds the same entry, in its own layout: it is there once, as ours
abbrev pub SameIsAddedOnce : Type 0
SameIsAddedOnce =
    Merges (file (a ∷ [])) (file (a ∷ (misc (codes "n") (row (codes "t") (braced (codes "x  y")) ∷ []) ∷ [])))
    (file (entry (codes "Misc") (codes "N") (line (codes "T") (value (Quoted (codes "x y"))) lf ∷ []) lf ∷ (a ∷ [])))
    (place (Some 0) (Some 0) (Some 1) Ours lf ∷ (place None (Some 1) (Some 0) Ours lf ∷ []))
    (codes "@misc{a,\n  t = 1,\n  u = 2\n}\n@misc{n, t = {x  y}}\n")

-- the places of two entries of one key, one from each side
abbrev pub one_from_each : List Place
one_from_each = place (Some 0) (Some 0) (Some 1) Ours lf ∷ (place None (Some 1) None Ours lf ∷ (place None None (Some 0) Theirs lf ∷ []))

-- our file with an entry behind `a`
abbrev pub with_ours : Value → Reading
with_ours v = file (a ∷ (misc (codes "n") (row (codes "t") v ∷ []) ∷ []))

-- their file with an entry of the same key before `a`
abbrev pub with_theirs : Value → Reading
with_theirs v = file (misc (codes "N") (row (codes "t") v ∷ []) ∷ (a ∷ []))

-- each side adds an entry of the same key, and they differ: they are in conflict, and are not there one after the other
pub record DifferentAreInConflict : Type 0 where
  pub conflict : Merges (file (a ∷ [])) (with_ours (digits (codes "1"))) (with_theirs (digits (codes "2")))
      (place (Some 0) (Some 0) (Some 1) Ours lf ∷ (place None (Some 1) (Some 0) Both lf ∷ []))
      (codes "@misc{a,\n  t = 1,\n  u = 2\n}\n<<<<<<< ours\n@misc{n, t = 1}\n=======\n@misc{N, t = 2}\n>>>>>>> theirs\n")
  pub twice : MergesNot (file (a ∷ [])) (with_ours (digits (codes "1"))) (with_theirs (digits (codes "2"))) one_from_each

-- ---- fields of one entry

-- the file of the entry `a` with these rows
abbrev pub a_with : List Row → Reading
a_with rows = file (misc (codes "a") rows ∷ [])

-- the entry `a` of three files, with these rows
abbrev pub mixed_to : List Row → List Place
mixed_to rows = place (Some 0) (Some 0) (Some 0) (Mixed (codes "misc") (codes "a") [] rows) lf ∷ []

-- `1`
abbrev pub one : Value
one = digits (codes "1")

-- `2`
abbrev pub two : Value
two = digits (codes "2")

-- `{x}`
abbrev pub x : Value
x = braced (codes "x")

-- `{y}`
abbrev pub y : Value
y = braced (codes "y")

-- each side sets another field: both are set
abbrev pub BothFieldsAreSet : Type 0
BothFieldsAreSet = Merges (file (a ∷ [])) (a_with (rows x two)) (a_with (rows one y)) (mixed_to (rows x y)) (codes "@misc{a,\n  t = {x},\n  u = {y}\n}\n")

-- one side sets a field, the other adds one
abbrev pub FieldIsAdded : Type 0
FieldIsAdded =
    let more : Value → List Row = λ t. line (codes "t") t [] ∷ (line (codes "u") two [] ∷ (line (codes "v") (digits (codes "3")) lf ∷ [])) in
    Merges (file (a ∷ [])) (a_with (rows x two)) (a_with (more one)) (mixed_to (more x)) (codes "@misc{a,\n  t = {x},\n  u = 2,\n  v = 3\n}\n")

-- one side sets a field, the other drops one: the dropped field is gone, and does not come back
pub record FieldIsDropped : Type 0 where
  pub gone : Merges (file (a ∷ [])) (a_with (rows x two)) (a_with (line (codes "t") one lf ∷ [])) (mixed_to (line (codes "t") x lf ∷ [])) (codes "@misc{a,\n  t = {x}\n}\n")
  pub back : MergesNot (file (a ∷ [])) (a_with (rows x two)) (a_with (line (codes "t") one lf ∷ [])) (mixed_to (rows x two))

-- each side sets the same field: a conflict, and neither value is taken
pub record FieldIsInConflict : Type 0 where
  pub conflict : Merges (file (a ∷ [])) (a_with (rows x two)) (a_with (rows y two)) (place (Some 0) (Some 0) (Some 0) Both lf ∷ [])
      (codes "<<<<<<< ours\n@misc{a,\n  t = {x},\n  u = 2\n}\n=======\n@misc{a,\n  t = {y},\n  u = 2\n}\n>>>>>>> theirs\n")
  pub ours : MergesNot (file (a ∷ [])) (a_with (rows x two)) (a_with (rows y two)) (mixed_to (rows x two))
  pub theirs : MergesNot (file (a ∷ [])) (a_with (rows x two)) (a_with (rows y two)) (mixed_to (rows y two))

-- both versions of an entry of three files
abbrev pub both_of_one : List Place
both_of_one = place (Some 0) (Some 0) (Some 0) Both lf ∷ []

-- a conflict over these parts of the entry `a`
abbrev pub over_a : List ChangedPart → List Conflict
over_a parts = record { change = Changed parts; label = EntryLabel (codes "a") } ∷ []

-- the entry `a` of this type alone in a file
abbrev pub typed : Text → List Row → Reading
typed kind rows = file (entry kind (codes "a") rows lf ∷ [])

-- what is told: each field in conflict and the type before them, or the entry if a field is there twice
pub record PartsAreTold : Type 0 where
  pub field : conflicts_of (units_of (file (a ∷ []))) (units_of (a_with (rows x two))) (units_of (a_with (rows y two))) both_of_one ≡ over_a (TheField (codes "t") ∷ [])
  pub each : conflicts_of (units_of (file (a ∷ []))) (units_of (typed (codes "book") (rows x (braced (codes "2 b")))))
      (units_of (typed (codes "Online") (row (codes "U") y ∷ (row (codes "T") y ∷ [])))) both_of_one
      ≡ over_a (TheType ∷ (TheField (codes "t") ∷ (TheField (codes "u") ∷ [])))
  pub dropped : conflicts_of (units_of (file (a ∷ []))) (units_of (a_with (row (codes "u") two ∷ []))) (units_of (a_with (rows y two))) both_of_one ≡ over_a (TheField (codes "t") ∷ [])
  pub whole : conflicts_of (units_of (file (a ∷ []))) (units_of (a_with (rows x two))) (units_of (a_with (row (codes "t") y ∷ (row (codes "T") y ∷ [])))) both_of_one ≡ over_a (Whole ∷ [])

-- one side sets a field, the other writes the same value in other bytes: ours is there
abbrev pub OtherBytesAreNoChange : Type 0
OtherBytesAreNoChange = Merges (file (a ∷ [])) (a_with (rows x two)) (a_with (rows (braced (codes "1")) two)) (place (Some 0) (Some 0) (Some 0) Ours lf ∷ []) (codes "@misc{a,\n  t = {x},\n  u = 2\n}\n")

-- ---- entries that are removed

-- one side removes an entry, the other changes it: a conflict, and the entry does not go
pub record RemovedIsInConflict : Type 0 where
  pub conflict : Merges (file (a ∷ [])) (file []) (a_with (rows y two)) (place (Some 0) None (Some 0) Both lf ∷ [])
      (codes "<<<<<<< ours\n=======\n@misc{a,\n  t = {y},\n  u = 2\n}\n>>>>>>> theirs\n")
  pub gone : MergesNot (file (a ∷ [])) (file []) (a_with (rows y two)) (place (Some 0) None (Some 0) Gone lf ∷ [])

-- one side removes an entry, the other writes it in other bytes: it goes
abbrev pub RemovedGoes : Type 0
RemovedGoes = Merges (file (a ∷ [])) (file []) (a_with (rows (braced (codes "1")) two)) (place (Some 0) None (Some 0) Gone lf ∷ []) []

-- we gave the entry `a` the key `k`, and they removed it: a conflict, and the entry does not go
pub record RenamedIsInConflict : Type 0 where
  pub conflict : MergesWith (EntryLabel (codes "k") ∷ []) (file (k ∷ [])) (file (k ∷ [])) (file []) (place (Some 0) (Some 0) None Both lf ∷ [])
      (codes "<<<<<<< ours\n@misc{k,\n  t = 1,\n  u = 2\n}\n=======\n>>>>>>> theirs\n")
  pub gone : MergesNotWith (EntryLabel (codes "k") ∷ []) (file (k ∷ [])) (file (k ∷ [])) (file []) (place (Some 0) (Some 0) None Gone lf ∷ [])

-- ---- order

-- one side moves an entry, the other sets a field of it
abbrev pub MovedAndSet : Type 0
MovedAndSet =
    let z : Item = entry (codes "misc") (codes "z") [] lf in
    Merges (file (a ∷ (z ∷ []))) (file (z ∷ (a ∷ []))) (file (misc (codes "a") (rows one y) ∷ (z ∷ [])))
    (place (Some 1) (Some 0) (Some 1) Ours lf ∷ (place (Some 0) (Some 1) (Some 0) Theirs lf ∷ []))
    (codes "@misc{z}\n@misc{a,\n  t = 1,\n  u = {y}\n}\n")

-- ---- names

-- the entry `c`, whose crossref names `a`
abbrev pub child : Item
child = misc (codes "c") (row (codes "crossref") (braced (codes "a")) ∷ [])

-- One side removes a parent, the other adds a child of it. The entries are a merge, but the crossref of the child names the parent
-- on its side, and nothing in the merge: a conflict.
pub record ChildHasLostItsParent : Type 0 where
  pub merge : Merges (file (a ∷ [])) (file []) (file (a ∷ (child ∷ []))) (place (Some 0) None (Some 0) Gone lf ∷ (place None None (Some 1) Theirs lf ∷ []))
      (codes "@misc{c, crossref = {a}}\n")
  pub there : map (parent_key (units_of (file (a ∷ (child ∷ []))))) (units_of (file (child ∷ []))) ≡ Some (codes "a") ∷ []
  pub here : map (parent_key (units_of (file (child ∷ [])))) (units_of (file (child ∷ []))) ≡ None ∷ []
  pub lost : may_name (Some (codes "a")) None ≡ false
