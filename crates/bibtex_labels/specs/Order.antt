-- The order of a bibliography, and the letters by which labels in it differ.
use Rattle.std.specs.Prelude.{ℕ, ◌+◌, ◌≡◌, Bool, false, not, ◌&&◌, ◌==◌, nat_lt, List, [], ◌∷◌, ◌++◌, take, if◌then◌else◌}
use Rattle.std.specs.List.{take_while}
use Rattle.std.specs.List.Sorted.{IsPermutation, IsSortedByKey, IsStableByKey}
use Rattle.std.specs.Cmp.Lexicographic.{slice_cmp}
use Rattle.std.specs.Ordering.{nat_cmp, is_lt}
use Rattle.std.specs.Str.{bytes_eq}
use Rattle.std.specs.declared.cmp.Ordering.{Ordering}
use Rattle.bib_spec.specs.Bytes.{delete}
use Rattle.bib_spec.specs.Text.{Text}
use Rattle.bibtex_labels.specs.declared.ordering.Labelled.{Labelled}

-- ---- what a style keeps

-- the most bytes that a style keeps of a text of an entry (bibtex: `ent_str_size`)
abbrev pub kept_limit : ℕ
kept_limit = 500

-- what a style has of a text that it kept for an entry: so many bytes, and of these none from a DEL on, which ends kept texts (bibtex 291)
abbrev pub kept : Text → Text
kept text = take_while (λ byte. not (byte == delete)) (take kept_limit text)

-- ---- order

-- texts are compared byte by byte
abbrev pub text_cmp : Text → Text → Ordering
text_cmp = slice_cmp nat_cmp

-- the sort key of the first entry is below that of the second
abbrev pub is_below : Labelled → Labelled → Bool
is_below entry other = is_lt (text_cmp entry.sort_key other.sort_key)

-- the member before the first one that is not below it
abbrev pub put_by : {X : Type 0} → (X → X → Bool) → X → List X → List X
put_by below x [] = x ∷ []
put_by below x (y ∷ ys) = if below y x then y ∷ put_by below x ys else x ∷ y ∷ ys

-- the members in rising order; those of which none is below the other stay in their order
abbrev pub sorted_by : {X : Type 0} → (X → X → Bool) → List X → List X
sorted_by below [] = []
sorted_by below (x ∷ xs) = put_by below x (sorted_by below xs)

-- the entries in the order of their sort keys; those with one sort key stay in their order
abbrev pub in_order : List Labelled → List Labelled
in_order entries = sorted_by is_below entries

-- the new list has the same entries, their sort keys rise, and those with one sort key are in their old order
pub record IsOrderOf (entries ordered : List Labelled) : Type 0 where
  pub same : IsPermutation entries ordered
  pub rising : IsSortedByKey (λ entry. entry.sort_key) text_cmp ordered
  pub stable : IsStableByKey (λ entry. entry.sort_key) text_cmp entries ordered

-- each list has one such order: `in_order`
pub record HasOneOrder (entries : List Labelled) : Type 0 where
  pub is : IsOrderOf entries (in_order entries)
  pub one : (ordered : List Labelled) → IsOrderOf entries ordered → ordered ≡ in_order entries

abbrev pub one_order : Type 0
one_order = (entries : List Labelled) → HasOneOrder entries

-- ---- letters

-- the first two entries have one sort label
abbrev pub is_followed : List Labelled → Bool
is_followed [] = false
is_followed (entry ∷ []) = false
is_followed (entry ∷ next ∷ entries) = bytes_eq entry.sort_label next.sort_label

-- The letter of an entry with this number, from 0, among the neighbours that have its sort label: none, if it is the only one of
-- them. The letters are `a` and the bytes after it up to `~`; further entries have none. (alpha.bst: `forward.pass`, `reverse.pass`)
abbrev pub letter : ℕ → Bool → Text
letter number followed =
    if number == 0 && not followed then []
    else if nat_lt number 30 then (97 + number) ∷ []
    else []

-- the labels of entries, the first of which has this number among the neighbours that have its sort label
abbrev pub lettered_from : ℕ → List Labelled → List Text
lettered_from number [] = []
lettered_from number (entry ∷ entries) =
    let followed = is_followed (entry ∷ entries) in
    kept (entry.label ++ letter number followed) ∷ lettered_from (if followed then number + 1 else 0) entries

-- the labels of a bibliography's entries, in order
abbrev pub lettered : List Labelled → List Text
lettered entries = lettered_from 0 entries
