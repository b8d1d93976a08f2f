-- The bytes of items that are not known, one after another.
use Rattle.std.proofs.Common.{◌≡◌, ℕ, ◌+◌, ◌≤◌, ◌<◌, true, false, not, List, [], ◌∷◌, ◌++◌, Some, slice_get, length, drop, filter, flat_map, if◌then◌else◌, refl, sym, ◌∙◌, ap, append_assoc, append-nil, ⊎_elim, subst, arith}
use Rattle.std.proofs.lemmas.Bool.{cases_Bool}
use Rattle.std.proofs.lemmas.List.{drop_all, drop_more}
use Rattle.std.proofs.lemmas.Option.{slice_get_cases, slice_get_within, get_or_from_slice_get}
use Rattle.bib_spec.specs.Bytes.{name_limit}
use Rattle.bib_spec.specs.Text.{Text}
use Rattle.bib_spec.specs.Tree.{IsTree}
use Rattle.bib_spec.specs.Reading.{Item, Reading, Reads, item_bytes, bytes_of}
use Rattle.bib_spec.specs.Texts.{Macros}
use Rattle.bib_paste.specs.News.{is_known, bytes_unless_known, news_of}

-- the item at a place
pub at-place : {X : Type 0} (xs : List X) (n : ℕ) → n < length xs → (x : X) × (slice_get xs n ≡ Some x)
at-place xs n lt = ⊎_elim (λ found. (found.0, found.2)) (λ past. let le = past.0 in absurd (omega (arith, lt, le))) (slice_get_cases xs n).1

-- an item of a file is one of the grammar
pub tree-in : (file : Text) (db : Reading) (n : ℕ) (i : Item) → Reads file db → slice_get db.items n ≡ Some i → IsTree name_limit i.tree
tree-in file db n i reads at =
    subst (λ (j : Item). IsTree name_limit j.tree) (get_or_from_slice_get db.items n i i at) (reads.items n i (slice_get_within db.items n i at)).tree

-- what is not known, item by item
news-items : (macros : Macros) (items : List Item) → flat_map (bytes_unless_known macros) items ≡ flat_map item_bytes (filter (λ item. not (is_known macros item)) items)
news-items macros [] = refl
news-items macros (i ∷ items) = ⊎_elim
    (λ (t : is_known macros i ≡ true).
    ap (λ b. (if b then [] else item_bytes i) ++ flat_map (bytes_unless_known macros) items) t
    ∙ news-items macros items
    ∙ sym (ap (λ b. flat_map item_bytes (if not b then i ∷ filter (λ item. not (is_known macros item)) items else filter (λ item. not (is_known macros item)) items)) t))
    (λ (f : is_known macros i ≡ false).
    ap (λ b. (if b then [] else item_bytes i) ++ flat_map (bytes_unless_known macros) items) f
    ∙ ap (λ t. item_bytes i ++ t) (news-items macros items)
    ∙ sym (ap (λ b. flat_map item_bytes (if not b then i ∷ filter (λ item. not (is_known macros item)) items else filter (λ item. not (is_known macros item)) items)) f))
    (cases_Bool (is_known macros i))

-- with what is not known of the items from number n on, the text is that of all
abbrev pub IsWrittenTo : Macros → Reading → ℕ → Text → Type 0
IsWrittenTo macros text n out = out ++ flat_map (bytes_unless_known macros) (drop n text.items) ≡ bytes_of (news_of macros text)

pub written-none : (macros : Macros) (text : Reading) → IsWrittenTo macros text 0 text.front
written-none macros text = ap (λ t. text.front ++ t) (news-items macros text.items)

pub written-more : (macros : Macros) (text : Reading) (n : ℕ) (i : Item) (old new : Text) → slice_get text.items n ≡ Some i → new ≡ old ++ bytes_unless_known macros i → IsWrittenTo macros text n old →
    IsWrittenTo macros text (n + 1) new
written-more macros text n i old new at is so_far =
    let rest = flat_map (bytes_unless_known macros) (drop (n + 1) text.items) in
    let next : drop n text.items ≡ i ∷ drop (n + 1) text.items =
    drop_more text.items n i (slice_get_within text.items n i at) ∙ ap (λ (j : Item). j ∷ drop (n + 1) text.items) (get_or_from_slice_get text.items n i i at) in
    ap (λ t. t ++ rest) is
    ∙ append_assoc old (bytes_unless_known macros i) rest
    ∙ ap (λ is. old ++ flat_map (bytes_unless_known macros) is) (sym next)
    ∙ so_far

pub written-all : (macros : Macros) (text : Reading) (n : ℕ) (out : Text) → length text.items ≤ n → IsWrittenTo macros text n out → out ≡ bytes_of (news_of macros text)
written-all macros text n out past is =
    sym (append-nil out) ∙ ap (λ is. out ++ flat_map (bytes_unless_known macros) is) (sym (drop_all n text.items past)) ∙ is
