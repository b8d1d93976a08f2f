-- No promise rests on this page: it says how the code walks over the at-signs of a file.
use Rattle.std.specs.Prelude.{ℕ, ◌≡◌, ◌+◌, ◌<◌, ◌≤◌, Bool, true, false, List, [], ◌∷◌, ◌++◌, length, drop, nat_le, Option, None, Some, Result, Ok, Err}
use Rattle.std.specs.List.{list_any, flat_map}
use Rattle.bib_spec.specs.Bytes.{at_sign}
use Rattle.bib_spec.specs.Text.{Text, same}
use Rattle.bib_spec.specs.Tree.{Tree, CommentTree, DefinitionTree, PreambleTree, EntryTree}
use Rattle.bib_spec.specs.Reading.{Item, Reading, item_bytes, bytes_of}
use Rattle.bibtex_spec.specs.Plain.{is_foreign, is_in_last_line, AtSign, at_signs_in, inner_signs, key_in, first_breach}

-- ---- what follows

-- the rest of the file, of which it is known whether an item begins it, or the file is over
abbrev pub Follows : Bool → Text → Type 0
Follows true more = (rest : Text) × (more ≡ at_sign ∷ rest)
Follows false more = more ≡ []

-- the text begins with a byte that BibTeX takes into a name, and the dialect does not
abbrev pub begins_foreign : Text → Bool
begins_foreign [] = false
begins_foreign (b ∷ t) = is_foreign b

-- ---- lines

-- the last line begins at this place, or is over before the text begins, where the text begins at a place of the file and goes on to
-- its end
abbrev pub IsLastFrom : ℕ → ℕ → Text → Type 0
IsLastFrom last at text = (k : ℕ) → k ≤ length text → is_in_last_line (drop k text) ≡ nat_le last (at + k)

-- the last line begins at byte k of the text, after a byte that ends a line
pub record BeginsAt (text : Text) (k : ℕ) : Type 0 where
  pub before : ℕ
  pub next : k ≡ before + 1
  pub within : k ≤ length text
  pub here : is_in_last_line (drop k text) ≡ true
  pub no_earlier : is_in_last_line (drop before text) ≡ false

-- where the last line begins in the text, if it begins there
abbrev pub IsLineOf : Text → Option ℕ → Type 0
IsLineOf text None = is_in_last_line text ≡ true
IsLineOf text (Some k) = BeginsAt text k

-- where the last line of the file begins, if it begins in item n or after it
abbrev pub IsLineFrom : Reading → ℕ → Option ℕ → Type 0
IsLineFrom r n None = is_in_last_line (flat_map item_bytes (drop n r.items)) ≡ true
IsLineFrom r n (Some place) = BeginsAt (bytes_of r) place

-- ---- at-signs

-- from this place of the text on, there is no at-sign
abbrev pub NoSignFrom : Text → ℕ → Type 0
NoSignFrom text from = (inside : Bool) (at : ℕ) (more : Text) → at_signs_in inside (at + from) (drop from text) more ≡ []

-- from this place of the text on, the first at-sign is byte k
pub record IsSignFrom (text : Text) (from k : ℕ) : Type 0 where
  pub order : from ≤ k
  pub within : k < length text
  pub signs : (inside : Bool) (at : ℕ) (more : Text) → at_signs_in inside (at + from) (drop from text) more
      ≡ record { place = at + k; after = drop (k + 1) text ++ more; rest = drop (k + 1) text ++ more; is_inside = inside }
      ∷ at_signs_in inside (at + (k + 1)) (drop (k + 1) text) more

-- the first at-sign from this place of the text on, if there is one
abbrev pub IsNextSign : Text → ℕ → Option ℕ → Type 0
IsNextSign text from None = NoSignFrom text from
IsNextSign text from (Some k) = IsSignFrom text from k

-- how the walk goes on after these at-signs: it ends with the place of one of them, or goes on to later at-signs
abbrev pub GoesOn : Bool → List AtSign → Result Bool ℕ → Type 0
GoesOn is_over signs (Ok over) = (later : List AtSign) → first_breach is_over (signs ++ later) ≡ first_breach over later
GoesOn is_over signs (Err place) = (later : List AtSign) → first_breach is_over (signs ++ later) ≡ Some place

-- ---- entries

-- one of these keys is that of the item, if it is an entry
abbrev pub repeats : List Text → Tree → Bool
repeats keys (EntryTree e) = list_any (same e.key) keys
repeats keys (CommentTree h) = false
repeats keys (DefinitionTree d) = false
repeats keys (PreambleTree p) = false

-- the first at-sign inside an item after these keys is byte k of its body
pub record IsFirstInside (keys : List Text) (tree : Tree) (k : ℕ) : Type 0 where
  pub signs : (at : ℕ) (more : Text) → (sign : AtSign) × (later : List AtSign) × (inner_signs keys at tree more ≡ sign ∷ later) × (sign.place ≡ at + k) × (sign.is_inside ≡ true)

-- the first at-sign inside an item after these keys, if there is one
abbrev pub IsInnerSign : List Text → Tree → Option ℕ → Type 0
IsInnerSign keys tree None = (at : ℕ) (more : Text) → inner_signs keys at tree more ≡ []
IsInnerSign keys tree (Some k) = IsFirstInside keys tree k

-- the keys of the entries among these items
abbrev pub keys_in : List Item → List Text
keys_in items = flat_map (λ i. key_in i.tree) items
