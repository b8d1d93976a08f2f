-- The items of a file and their places.
use Rattle.std.proofs.Common.{◌≡◌, ◌∙◌, ℕ, zero, suc, ◌+◌, ◌<◌, ◌≤◌, Bool, eqb, nat_lt, List, [], ◌∷◌, ◌++◌, take, drop, length, Some, slice_get, refl, sym, ap, subst, arith, append_assoc, length-append, not-suc-le-zero, le_of_suc-le-suc, ⊎_elim}
use Rattle.std.specs.List.{flat_map}
use Rattle.std.proofs.lemmas.Bool.{cases_Bool, cases_lt, lt-ltb, le-ltb, eqb-true, eq-eqb, both_ways}
use Rattle.std.proofs.lemmas.List.{drop_more, drop_all, take-append-drop}
use Rattle.std.proofs.lemmas.Option.{get_or_from_slice_get, slice_get_within}
use Rattle.std.proofs.lemmas.Grind.{flat_map-append}
use Rattle.bib_spec.specs.Bytes.{file_limit, name_limit}
use Rattle.bib_spec.specs.Text.{Text}
use Rattle.bib_spec.specs.Texts.{is_empty, IsOpenable}
use Rattle.bib_spec.specs.Tree.{Tree, CommentTree, DefinitionTree, PreambleTree, EntryTree, tree_bytes}
use Rattle.bib_spec.specs.Reading.{Item, Reading, Reads, IsItem, item_bytes, bytes_of}
use Rattle.bib_scan.specs.Layout.{start_of}
use Rattle.bib_scan.specs.View.{View, view_of}
use Rattle.bib_store.specs.Readings.{OfReading, IsItemNumber}
use Rattle.bibtex_plain.specs.Walking.{Follows}

pub item_within : {X : Type 0} (xs : List X) (n : ℕ) → n < length xs → (x : X) × (slice_get xs n ≡ Some x)
item_within [] n lt = absurd (not-suc-le-zero lt)
item_within (x ∷ xs) zero lt = (x, refl)
item_within (x ∷ xs) (suc n) lt = item_within xs n (le_of_suc-le-suc lt)

-- the items from an item on
pub items_from : (items : List Item) (n : ℕ) (i : Item) → slice_get items n ≡ Some i → drop n items ≡ i ∷ drop (n + 1) items
items_from items n i at = drop_more items n i (slice_get_within items n i at) ∙ ap (λ (x : Item). x ∷ drop (n + 1) items) (get_or_from_slice_get items n i i at)

-- the bytes before item n
abbrev pub before_item : Reading → ℕ → Text
before_item r n = r.front ++ flat_map item_bytes (take n r.items)

pub split_at_item : (r : Reading) (n : ℕ) (i : Item) → slice_get r.items n ≡ Some i → bytes_of r ≡ before_item r n ++ (item_bytes i ++ flat_map item_bytes (drop (n + 1) r.items))
split_at_item r n i at =
    ap (λ (l : List Item). r.front ++ flat_map item_bytes l) (sym (take-append-drop n r.items))
    ∙ ap (λ (t : Text). r.front ++ t) (flat_map-append item_bytes (take n r.items) (drop n r.items))
    ∙ sym (append_assoc r.front (flat_map item_bytes (take n r.items)) (flat_map item_bytes (drop n r.items)))
    ∙ ap (λ (l : List Item). before_item r n ++ flat_map item_bytes l) (items_from r.items n i at)

pub length-before_item : (r : Reading) (n : ℕ) → length (before_item r n) ≡ start_of r n
length-before_item r n = length-append r.front (flat_map item_bytes (take n r.items))

-- an item ends in the file
item_fits : (file : Text) (r : Reading) (n : ℕ) (i : Item) → Reads file r → slice_get r.items n ≡ Some i → (start_of r n + length (tree_bytes i.tree)) + length i.trail ≤ length file
item_fits file r n i reads at =
    let whole = ap (length {A = ℕ}) (sym reads.bytes ∙ split_at_item r n i at) in
    let one = length-append (before_item r n) (item_bytes i ++ flat_map item_bytes (drop (n + 1) r.items)) in
    let two = length-before_item r n in
    let three = length-append (item_bytes i) (flat_map item_bytes (drop (n + 1) r.items)) in
    let four = length-append (tree_bytes i.tree) i.trail in
    omega (arith, whole, one, two, three, four)

-- the file is small
pub item_small : (file : Text) (n place : ℕ) (view : View) → IsOpenable file → IsItemNumber file n → OfReading file (λ r. (i : Item) → slice_get r.items n ≡ Some i → view ≡ view_of i) → OfReading file (λ r. place ≡ start_of r n)
    → (place + length view.body) + length view.trail ≤ file_limit
item_small file n place view opened number viewed is =
    let r = opened.0 in
    let reads = opened.1.reads in
    let one = item_within r.items n (number r reads) in
    let seen = viewed r reads one.0 one.1 in
    let fits = item_fits file r n one.0 reads one.1 in
    let short = opened.1.short in
    let begins = is r reads in
    let body = ap (λ (v : View). length v.body) seen in
    let trail = ap (λ (v : View). length v.trail) seen in
    omega (arith, fits, short, begins, body, trail)

pub front_small : (file front : Text) → IsOpenable file → OfReading file (λ r. front ≡ r.front) → length front ≤ file_limit
front_small file front opened is =
    let r = opened.0 in
    let same = ap (length {A = ℕ}) (is r opened.1.reads) in
    let whole = ap (length {A = ℕ}) (opened.1.reads).bytes in
    let parts = length-append r.front (flat_map item_bytes r.items) in
    let short = opened.1.short in
    omega (arith, same, whole, parts, short)

-- ---- the items that follow

begins_sign : (tree : Tree) (more : Text) → (rest : Text) × (tree_bytes tree ++ more ≡ 64 ∷ rest)
begins_sign (CommentTree h) more = (drop 1 (tree_bytes (CommentTree h)) ++ more, refl)
begins_sign (DefinitionTree d) more = (drop 1 (tree_bytes (DefinitionTree d)) ++ more, refl)
begins_sign (PreambleTree p) more = (drop 1 (tree_bytes (PreambleTree p)) ++ more, refl)
begins_sign (EntryTree e) more = (drop 1 (tree_bytes (EntryTree e)) ++ more, refl)

item_begins : (i : Item) (items : List Item) → (rest : Text) × (flat_map item_bytes (i ∷ items) ≡ 64 ∷ rest)
item_begins i items =
    let one = begins_sign i.tree (i.trail ++ flat_map item_bytes items) in
    (one.0, append_assoc (tree_bytes i.tree) i.trail (flat_map item_bytes items) ∙ one.1)

-- at an item
rest_begins : (items : List Item) (n : ℕ) → n < length items → (rest : Text) × (flat_map item_bytes (drop n items) ≡ 64 ∷ rest)
rest_begins items n lt =
    let one = item_within items n lt in
    let begins = item_begins one.0 (drop (n + 1) items) in
    (begins.0, ap (flat_map item_bytes) (items_from items n one.0 one.1) ∙ begins.1)

-- after the last item
rest_none : (items : List Item) (n : ℕ) → length items ≤ n → flat_map item_bytes (drop n items) ≡ []
rest_none items n le = ap (flat_map item_bytes) (drop_all n items le)

-- whether an item follows
pub follows_items : (items : List Item) (n count : ℕ) → count ≡ length items → Follows (nat_lt n count) (flat_map item_bytes (drop n items))
follows_items items n count is = ⊎_elim
    (λ (lt : n < length items). subst (λ (b : Bool). Follows b (flat_map item_bytes (drop n items))) (sym (lt-ltb n count (omega (arith, lt, is)))) (rest_begins items n lt))
    (λ (le : length items ≤ n). subst (λ (b : Bool). Follows b (flat_map item_bytes (drop n items))) (sym (le-ltb n count (omega (arith, le, is)))) (rest_none items n le))
    (cases_lt n (length items))

-- whether the file is over
pub over_items : (items : List Item) (n count : ℕ) → count ≡ length items → n ≤ length items → eqb n count ≡ is_empty (flat_map item_bytes (drop n items))
over_items items n count is within = ⊎_elim
    (λ (lt : n < length items).
    ⊎_elim (λ same. absurd (let equal = eqb-true n count same in omega (arith, equal, is, lt))) (λ differ. differ) (cases_Bool (eqb n count)) ∙ sym (ap is_empty (rest_begins items n lt).1))
    (λ (le : length items ≤ n). eq-eqb n count (omega (arith, is, le, within)) ∙ sym (ap is_empty (rest_none items n le)))
    (cases_lt n (length items))

eqb_flip : (a b : ℕ) → eqb a b ≡ eqb b a
eqb_flip a b = ⊎_elim
    (λ same. same ∙ sym (eq-eqb b a (sym (eqb-true a b same))))
    (λ differ. differ ∙ sym (⊎_elim (λ same. absurd (both_ways (eqb a b) differ (eq-eqb a b (sym (eqb-true b a same))))) (λ other. other) (cases_Bool (eqb b a))))
    (cases_Bool (eqb a b))

-- whether the file has no item
pub over_all : (items : List Item) (count : ℕ) → count ≡ length items → eqb count 0 ≡ is_empty (flat_map item_bytes items)
over_all items count is = eqb_flip count 0 ∙ over_items items 0 count is (omega arith)

-- an item of a reading is one of the grammar
pub item_is : (file : Text) (r : Reading) (n : ℕ) (i : Item) → Reads file r → slice_get r.items n ≡ Some i → IsItem name_limit i
item_is file r n i reads at = subst (IsItem name_limit) (get_or_from_slice_get r.items n i i at) (reads.items n i (slice_get_within r.items n i at))
