-- The uses in an entry, as they are read field by field and part by part.
use Rattle.std.proofs.Common.{◌≡◌, ℕ, ◌+◌, ◌≤◌, List, [], ◌∷◌, ◌++◌, Some, map, slice_get, length, take, All, refl, sym, ◌∙◌, ap, append-nil, append_assoc}
use Rattle.std.specs.List.{flat_map}
use Rattle.std.proofs.lemmas.List.{take_all, take_more, map-append}
use Rattle.std.proofs.lemmas.Option.{slice_get_within, get_or_from_slice_get}
use Rattle.std.proofs.lemmas.Grind.{flat_map-append}
use Rattle.std.proofs.lemmas.List.Elements.{All-head, All-tail}
use Rattle.bib_spec.specs.Bytes.{name_limit}
use Rattle.bib_spec.specs.Text.{Text}
use Rattle.bib_spec.specs.Tree.{Part, Row, IsRow, row_bytes}
use Rattle.bib_spec.specs.Texts.{parts_of}
use Rattle.bib_scan.specs.View.{fields_after}
use Rattle.bib_value.specs.Raw.{OfValue}
use Rattle.extract_spec.specs.Extract.{name_in, names_in}
use Rattle.bib_uses.specs.Uses.{Use, use_in, uses_in_row, uses_in}
use Rattle.bib_uses.specs.Seen.{AreAdded}

-- one element more
pub take-next : {X : Type 0} (xs : List X) (n : ℕ) (x : X) → slice_get xs n ≡ Some x → take (n + 1) xs ≡ take n xs ++ x ∷ []
take-next xs n x at = take_more xs n x (slice_get_within xs n x at) ∙ ap (λ y. take n xs ++ y ∷ []) (get_or_from_slice_get xs n x x at)

-- ---- parts

-- the uses in the first n parts of the field's value are added
abbrev pub HaveAdded : Text → Text → List Use → ℕ → List Use → Type 0
HaveAdded field value old n new = OfValue value (λ v. new ≡ old ++ map (use_in field value) (flat_map name_in (take n (parts_of v))))

pub added-begin : (field value : Text) (old : List Use) → HaveAdded field value old 0 old
added-begin field value old v ok same = sym (append-nil old)

pub added-part : (field value : Text) (old mid new : List Use) (n : ℕ) (p : Part) → OfValue value (λ v. slice_get (parts_of v) n ≡ Some p) → new ≡ mid ++ map (use_in field value) (name_in p) →
    HaveAdded field value old n mid → HaveAdded field value old (n + 1) new
added-part field value old mid new n p at is so_far v ok same =
    is ∙ ap (λ (l : List Use). l ++ map (use_in field value) (name_in p)) (so_far v ok same)
    ∙ append_assoc old (map (use_in field value) (flat_map name_in (take n (parts_of v)))) (map (use_in field value) (name_in p))
    ∙ ap (λ (l : List Use). old ++ l)
    (sym (map-append (use_in field value) (flat_map name_in (take n (parts_of v))) (name_in p))
    ∙ ap (map (use_in field value)) (ap (λ (l : List Text). flat_map name_in (take n (parts_of v)) ++ l) (sym (append-nil (name_in p))) ∙ sym (flat_map-append name_in (take n (parts_of v)) (p ∷ [])) ∙ ap (flat_map name_in) (sym (take-next (parts_of v) n p (at v ok same)))))

pub added-all : (field value : Text) (old new : List Use) (n : ℕ) → OfValue value (λ v. length (parts_of v) ≤ n) → HaveAdded field value old n new → OfValue value (λ v. new ≡ old ++ map (use_in field value) (names_in v))
added-all field value old new n past so_far v ok same = so_far v ok same ∙ ap (λ (ps : List Part). old ++ map (use_in field value) (flat_map name_in ps)) (take_all n (parts_of v) (past v ok same))

-- ---- fields

-- the uses in the fields of rows are those in the rows
pub rows-added : (before : Text) (rows : List Row) (old new : List Use) → All (IsRow name_limit) rows → AreAdded (fields_after before rows) old new → new ≡ old ++ uses_in rows
rows-added before [] old new ok is = is ∙ sym (append-nil old)
rows-added before (row ∷ rows) old new ok is =
    let this : IsRow name_limit row = All-head (IsRow name_limit) row rows ok in
    rows-added (before ++ row_bytes row) rows is.0 new (All-tail (IsRow name_limit) row rows ok) is.2
    ∙ ap (λ (l : List Use). l ++ uses_in rows) (is.1 row.assignment.value this.assignment.value refl)
    ∙ append_assoc old (uses_in_row row) (uses_in rows)
