-- The keys of the entries before an item.
use Rattle.std.proofs.Common.{◌≡◌, ◌∙◌, ℕ, zero, suc, ◌+◌, ◌≤◌, Bool, true, false, ◌||◌, nat_lt, List, [], ◌∷◌, ◌++◌, length, take, count_by, Option, Some, slice_get, refl, sym, ap, ap₂, arith, length-append, append_assoc}
use Rattle.std.specs.List.{list_any}
use Rattle.std.specs.Option.{option_map_or}
use Rattle.std.proofs.lemmas.Option.{same_Some, none-some}
use Rattle.std.proofs.lemmas.List.{take-map}
use Rattle.bib_spec.specs.Text.{Text, same}
use Rattle.bib_spec.specs.Tree.{Tree, CommentTree, DefinitionTree, PreambleTree, EntryTree}
use Rattle.bib_spec.specs.Texts.{is_empty, Macros, months, macros_after, gathered}
use Rattle.bib_spec.specs.Reading.{Item, Reading}
use Rattle.bib_spec.specs.Records.{EntryTexts, entry_in, entries_of, keys_of, is_named, first_named}
use Rattle.bib_spec.proofs.Names.{same_comm}
use Rattle.bib_scan.specs.View.{kind_of, key_of}
use Rattle.bib_scan.specs.declared.view.Kind.TheVariants as kind
use Rattle.bib_store.specs.Readings.{is_entry_tree}
use Rattle.bib_store.proofs.RepeatedKeys.{named_before, apart-unrepeated}
use Rattle.bibtex_spec.specs.Plain.{key_in}
use Rattle.bibtex_plain.specs.Walking.{repeats, keys_in}

-- ---- entries by their keys

entry_with : (entries : List EntryTexts) (n : ℕ) (key : Text) → slice_get (keys_of entries) n ≡ Some key → (entry : EntryTexts) × (slice_get entries n ≡ Some entry) × (entry.key ≡ key)
entry_with [] n key at = absurd (none-some key at)
entry_with (first ∷ entries) zero key at = (first, refl, same_Some first.key key at)
entry_with (first ∷ entries) (suc n) key at = entry_with entries n key at

-- if no two entries have the same key, no earlier entry has it
pub apart_unnamed : (entries : List EntryTexts) (n : ℕ) (key : Text) → slice_get (keys_of entries) n ≡ Some key → ((text : Text) → count_by (is_named text) (keys_of entries) ≤ 1) → false ≡ list_any (is_named key) (take n (keys_of entries))
apart_unnamed entries n key at apart =
    let e = entry_with entries n key at in
    sym (ap (list_any (is_named key)) (take-map (λ (entry : EntryTexts). entry.key) n entries)
    ∙ ap (λ (k : Text). list_any (is_named k) (keys_of (take n entries))) (sym e.2)
    ∙ sym (ap (λ (o : Option EntryTexts). option_map_or (λ (entry : EntryTexts). list_any (is_named entry.key) (keys_of (take n entries))) o false) e.1)
    ∙ apart-unrepeated entries n e.0 e.1 apart)

-- the first entry with the key is an earlier one
pub first_earlier : (keys : List Text) (n : ℕ) (key : Text) (first : Option ℕ) → first_named key keys ≡ first → option_map_or (λ m. nat_lt m n) first false ≡ list_any (is_named key) (take n keys)
first_earlier keys n key first is = ap (λ (o : Option ℕ). option_map_or (λ m. nat_lt m n) o false) (sym is) ∙ sym (named_before key keys n)

-- ---- keys of a list of items

keys_gathered : (macros : Macros) (items : List Item) → keys_of (gathered entry_in macros items) ≡ keys_in items
keys_gathered macros [] = refl
keys_gathered macros (i ∷ items) = along i.tree (λ m. keys_gathered m items)
  where
    along : (tree : Tree) → ((m : Macros) → keys_of (gathered entry_in m items) ≡ keys_in items) → keys_of (entry_in macros tree ++ gathered entry_in (macros_after macros tree) items) ≡ key_in tree ++ keys_in items
    along (CommentTree h) later = later (macros_after macros (CommentTree h))
    along (DefinitionTree d) later = later (macros_after macros (DefinitionTree d))
    along (PreambleTree p) later = later (macros_after macros (PreambleTree p))
    along (EntryTree e) later = ap (λ (keys : List Text). e.key ∷ keys) (later (macros_after macros (EntryTree e)))

-- the keys of a file's entries
pub keys_of_file : (r : Reading) → keys_of (entries_of r) ≡ keys_in r.items
keys_of_file r = keys_gathered months r.items

-- with one item more
keys_next : (items : List Item) (n : ℕ) (i : Item) → slice_get items n ≡ Some i → keys_in (take (suc n) items) ≡ keys_in (take n items) ++ key_in i.tree
keys_next [] n i at = absurd (none-some i at)
keys_next (first ∷ items) zero i at = first_alone (key_in first.tree) ∙ ap (λ (it : Item). key_in it.tree) (same_Some first i at)
  where
    first_alone : (keys : List Text) → keys ++ [] ≡ keys
    first_alone [] = refl
    first_alone (key ∷ keys) = ap (λ (ks : List Text). key ∷ ks) (first_alone keys)
keys_next (first ∷ items) (suc n) i at =
    ap (λ (ks : List Text). key_in first.tree ++ ks) (keys_next items n i at) ∙ sym (append_assoc (key_in first.tree) (keys_in (take n items)) (key_in i.tree))

pub keys_more : (items : List Item) (n : ℕ) (i : Item) → slice_get items n ≡ Some i → keys_in (take (n + 1) items) ≡ keys_in (take n items) ++ key_in i.tree
keys_more items n i at = ap (λ (m : ℕ). keys_in (take m items)) (let it : n + 1 ≡ suc n = omega arith in it) ∙ keys_next items n i at

-- the key of an entry, among the keys of all
pub key_stands : (items : List Item) (n : ℕ) (i : Item) (key : Text) (more : List Text) → slice_get items n ≡ Some i → key_in i.tree ≡ key ∷ more
    → (slice_get (keys_in items) (length (keys_in (take n items))) ≡ Some key) × (take (length (keys_in (take n items))) (keys_in items) ≡ keys_in (take n items))
key_stands [] n i key more at is = absurd (none-some i at)
key_stands (first ∷ items) zero i key more at is =
    let all : key_in first.tree ++ keys_in items ≡ key ∷ (more ++ keys_in items) = ap (λ (it : Item). key_in it.tree ++ keys_in items) (same_Some first i at) ∙ ap (λ (ks : List Text). ks ++ keys_in items) is in
    (ap (λ (ks : List Text). slice_get ks 0) all, refl)
key_stands (first ∷ items) (suc n) i key more at is =
    let later = key_stands items n i key more at is in
    let len = length-append (key_in first.tree) (keys_in (take n items)) in (
      ap (slice_get (key_in first.tree ++ keys_in items)) len ∙ get_past (key_in first.tree) (keys_in items) (length (keys_in (take n items))) ∙ later.0,
      ap (λ (k : ℕ). take k (key_in first.tree ++ keys_in items)) len ∙ take_past (key_in first.tree) (keys_in items) (length (keys_in (take n items))) ∙ ap (λ (ks : List Text). key_in first.tree ++ ks) later.1,
    )
  where
    get_past : (a b : List Text) (k : ℕ) → slice_get (a ++ b) (length a + k) ≡ slice_get b k
    get_past [] b k = ap (slice_get b) (omega arith)
    get_past (x ∷ a) b k = ap (slice_get (x ∷ (a ++ b))) (let it : length (x ∷ a) + k ≡ suc (length a + k) = omega arith in it) ∙ get_past a b k

    take_past : (a b : List Text) (k : ℕ) → take (length a + k) (a ++ b) ≡ a ++ take k b
    take_past [] b k = ap (λ (m : ℕ). take m b) (omega arith)
    take_past (x ∷ a) b k = ap (λ (m : ℕ). take m (x ∷ (a ++ b))) (let it : length (x ∷ a) + k ≡ suc (length a + k) = omega arith in it) ∙ ap (λ (ks : List Text). x ∷ ks) (take_past a b k)

-- ---- keys that are the same

-- a key that is not empty is the same as a key that it names
named_same : (key : Text) (keys : List Text) → is_empty key ≡ false → list_any (is_named key) keys ≡ list_any (same key) keys
named_same [] keys some = cc
named_same (b ∷ key) [] some = refl
named_same (b ∷ key) ([] ∷ keys) some = named_same (b ∷ key) keys some
named_same (b ∷ key) ((c ∷ other) ∷ keys) some = ap₂ (λ (x y : Bool). x || y) (same_comm (c ∷ other) (b ∷ key)) (named_same (b ∷ key) keys some)

-- an empty key is the same as an empty key
empty_same : (keys : List Text) → list_any is_empty keys ≡ list_any (same []) keys
empty_same [] = refl
empty_same ([] ∷ keys) = refl
empty_same ((b ∷ key) ∷ keys) = empty_same keys

-- ---- one item

pub no_entry : (tree : Tree) (keys : List Text) → false ≡ is_entry_tree tree → false ≡ repeats keys tree
no_entry (CommentTree h) keys is = refl
no_entry (DefinitionTree d) keys is = refl
no_entry (PreambleTree p) keys is = refl
no_entry (EntryTree e) keys is = cc

pub repeats_entry : (tree : Tree) (keys : List Text) → repeats keys tree ≡ true → kind_of tree ≡ kind.Entry
repeats_entry (CommentTree h) keys is = cc
repeats_entry (DefinitionTree d) keys is = cc
repeats_entry (PreambleTree p) keys is = cc
repeats_entry (EntryTree e) keys is = refl

-- an entry whose key is empty
pub empty_repeats : (tree : Tree) (keys : List Text) (key : Text) (has : Bool) → true ≡ is_entry_tree tree → key ≡ key_of tree → true ≡ is_empty key → has ≡ list_any is_empty keys → has ≡ repeats keys tree
empty_repeats (CommentTree h) keys key has is is_key none counted = cc
empty_repeats (DefinitionTree d) keys key has is is_key none counted = cc
empty_repeats (PreambleTree p) keys key has is is_key none counted = cc
empty_repeats (EntryTree e) keys key has is is_key none counted = counted ∙ along e.key (none ∙ ap is_empty is_key)
  where
    along : (k : Text) → true ≡ is_empty k → list_any is_empty keys ≡ list_any (same k) keys
    along [] none = empty_same keys
    along (b ∷ k) none = cc

entry_key : (tree : Tree) (key : Text) → true ≡ is_entry_tree tree → key ≡ key_of tree → key_in tree ≡ key ∷ []
entry_key (CommentTree h) key is is_key = cc
entry_key (DefinitionTree d) key is is_key = cc
entry_key (PreambleTree p) key is is_key = cc
entry_key (EntryTree e) key is is_key = ap (λ (k : Text). k ∷ []) (sym is_key)

same_repeats : (tree : Tree) (keys : List Text) (key : Text) → true ≡ is_entry_tree tree → key ≡ key_of tree → list_any (same key) keys ≡ repeats keys tree
same_repeats (CommentTree h) keys key is is_key = cc
same_repeats (DefinitionTree d) keys key is is_key = cc
same_repeats (PreambleTree p) keys key is is_key = cc
same_repeats (EntryTree e) keys key is is_key = ap (λ (k : Text). list_any (same k) keys) is_key

-- the key of an entry, by the number of the entry
pub key_numbered : (r : Reading) (n entries : ℕ) (i : Item) (key : Text) → slice_get r.items n ≡ Some i → true ≡ is_entry_tree i.tree → key ≡ key_of i.tree → entries ≡ length (keys_in (take n r.items))
    → slice_get (keys_of (entries_of r)) entries ≡ Some key
key_numbered r n entries i key at is is_key counted =
    ap₂ (λ (ks : List Text) (m : ℕ). slice_get ks m) (keys_of_file r) counted ∙ (key_stands r.items n i key [] at (entry_key i.tree key is is_key)).0

-- an entry whose key is not empty
pub key_repeats : (r : Reading) (n entries : ℕ) (i : Item) (key : Text) (repeated : Bool) → slice_get r.items n ≡ Some i → true ≡ is_entry_tree i.tree → key ≡ key_of i.tree → entries ≡ length (keys_in (take n r.items))
    → false ≡ is_empty key → repeated ≡ list_any (is_named key) (take entries (keys_of (entries_of r))) → repeated ≡ repeats (keys_in (take n r.items)) i.tree
key_repeats r n entries i key repeated at is is_key counted some named =
    named
    ∙ ap₂ (λ (ks : List Text) (m : ℕ). list_any (is_named key) (take m ks)) (keys_of_file r) counted
    ∙ ap (list_any (is_named key)) (key_stands r.items n i key [] at (entry_key i.tree key is is_key)).1
    ∙ named_same key (keys_in (take n r.items)) (sym some)
    ∙ same_repeats i.tree (keys_in (take n r.items)) key is is_key
