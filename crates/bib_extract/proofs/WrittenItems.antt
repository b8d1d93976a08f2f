-- The bytes of marked items, one after another.
use Rattle.std.proofs.Common.{◌≡◌, ℕ, ◌+◌, ◌≤◌, ◌<◌, zero, suc, Bool, true, false, List, [], ◌∷◌, ◌++◌, Some, slice_get, get_or, length, drop, refl, sym, ◌∙◌, ap, ap₂, append_assoc, append-nil, not-suc-le-zero, le_of_suc-le-suc}
use Rattle.std.proofs.lemmas.List.{drop_all, drop_more}
use Rattle.std.proofs.lemmas.Option.{slice_get_within, get_or_from_slice_get}
use Rattle.bib_spec.specs.Text.{Text}
use Rattle.bib_spec.specs.Reading.{Item, item_bytes}
use Rattle.extract_spec.specs.Extract.{on_its_line}
use Rattle.bib_extract.specs.Written.{marked_bytes}

pub drop-next : {X : Type 0} (xs : List X) (n : ℕ) (x : X) → slice_get xs n ≡ Some x → drop n xs ≡ x ∷ drop (n + 1) xs
drop-next xs n x at = drop_more xs n x (slice_get_within xs n x at) ∙ ap (λ y. y ∷ drop (n + 1) xs) (get_or_from_slice_get xs n x x at)

-- with the items from number n on, the text is that of all
abbrev pub IsWrittenTo : List Bool → List Item → ℕ → Text → Type 0
IsWrittenTo marks items n out = out ++ marked_bytes (drop n marks) (drop n items) ≡ marked_bytes marks items

pub slice_get-within : {X : Type 0} (xs : List X) (n : ℕ) → n < length xs → (x : X) × (slice_get xs n ≡ Some x)
slice_get-within [] n lt = absurd (not-suc-le-zero lt)
slice_get-within (x ∷ xs) zero lt = (x, refl)
slice_get-within (x ∷ xs) (suc n) lt = slice_get-within xs n (le_of_suc-le-suc lt)

pub got : {X : Type 0} (xs : List X) (n : ℕ) (d : X) → n < length xs → slice_get xs n ≡ Some (get_or xs n d)
got [] n d lt = absurd (not-suc-le-zero lt)
got (x ∷ xs) zero d lt = refl
got (x ∷ xs) (suc n) d lt = got xs n d (le_of_suc-le-suc lt)

first_and_rest : (mark : Bool) (marks : List Bool) (i : Item) (items : List Item) → marked_bytes (mark ∷ marks) (i ∷ items) ≡ marked_bytes (mark ∷ []) (i ∷ []) ++ marked_bytes marks items
first_and_rest true marks i items = ap (λ t. t ++ marked_bytes marks items) (sym (append-nil (item_bytes (on_its_line i))))
first_and_rest false marks i items = refl

pub written-more : (marks : List Bool) (items : List Item) (n : ℕ) (mark : Bool) (i : Item) (old new : Text) → slice_get marks n ≡ Some mark → slice_get items n ≡ Some i →
    new ≡ old ++ marked_bytes (mark ∷ []) (i ∷ []) → IsWrittenTo marks items n old → IsWrittenTo marks items (n + 1) new
written-more marks items n mark i old new marked at is so_far =
    let rest = marked_bytes (drop (n + 1) marks) (drop (n + 1) items) in
    ap (λ t. t ++ rest) is
    ∙ append_assoc old (marked_bytes (mark ∷ []) (i ∷ [])) rest
    ∙ ap (λ t. old ++ t) (sym (first_and_rest mark (drop (n + 1) marks) i (drop (n + 1) items)))
    ∙ ap₂ (λ (ms : List Bool) (is : List Item). old ++ marked_bytes ms is) (sym (drop-next marks n mark marked)) (sym (drop-next items n i at))
    ∙ so_far

pub written-all : (marks : List Bool) (items : List Item) (n : ℕ) (out : Text) → length marks ≤ n → IsWrittenTo marks items n out → out ≡ marked_bytes marks items
written-all marks items n out past is = sym (append-nil out) ∙ ap (λ (ms : List Bool). out ++ marked_bytes ms (drop n items)) (sym (drop_all n marks past)) ∙ is
