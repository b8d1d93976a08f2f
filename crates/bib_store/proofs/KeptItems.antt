-- What is kept of a file, and what the file says.
use Rattle.bib_store.proofs.Words.{◌≡◌, ℕ, ◌+◌, ◌<◌, List, [], ◌∷◌, ◌++◌, length, take, get_or, Some, option_map, refl, sym, ◌∙◌, ap, ap₂, subst, arith, flat_map, AllByRecursion, All-head, All-tail, slice_get-map, slice_get_within, get_or_from_slice_get, length-map, take-map, name_limit, Text, Tree}
use Rattle.bib_store.proofs.Words.{IsTree, tree_bytes, Reading, Reads, IsItem, item_bytes, bytes_of, start_of, View, view_of, one_reading, Tables, item, item_at, stored, all_stored, kept_bytes, Opens, file_of, IsKeptAs, IsKept}
use Rattle.std.proofs.Common.{slice_get}
use Rattle.std.specs.List.{All}
use Rattle.std.proofs.lemmas.Option.{slice_get_read}
use Rattle.std.proofs.lemmas.List.Folds.{flat_map-map}
use Rattle.bib_spec.specs.Reading as reading
use Rattle.bib_items.specs.declared.list.Item.{Item}
use Rattle.bib_store.specs.Stored.{SayTheSameOf}

-- what is kept is of the file's one reading
pub kept_as : (front : Text) (items : List Item) (t : Tables) (file : Text) → IsKept front items t → file_of front items ≡ file → (db : Reading) → Reads file db → IsKeptAs db front items t
kept_as front items t file k same db r =
    let other : Reads file k.db = subst (λ (f : Text). Reads f k.db) same k.is.opens.reads in
    subst (λ (d : Reading). IsKeptAs d front items t) (one_reading name_limit file k.db db other r) k.is

-- the file has a reading, and what is kept is that reading's
pub kept_reading : (front : Text) (items : List Item) (t : Tables) (file : Text) → IsKept front items t → file_of front items ≡ file → (db : Reading) × Reads file db × IsKeptAs db front items t
kept_reading front items t file k same = (k.db, subst (λ (f : Text). Reads f k.db) same k.is.opens.reads, k.is)

-- tables that say the same are kept as well
pub kept_same : (front : Text) (items new : List Item) (t u : Tables) → IsKept front items t → new ≡ items → SayTheSameOf items t u → IsKept front new u
kept_same front items new t u k e s = record {
  db = k.db;
  is = record {
    opens = subst (λ (l : List Item). Opens (file_of front l) k.db) (sym e) k.is.opens;
    front = k.is.front;
    items = e ∙ k.is.items;
    tables = s.tables k.db front k.is;
    len = s.len ∙ k.is.len ∙ ap (λ (l : List Item). length (file_of front l)) (sym e);
  };
}

pub same_self : (items : List Item) (t : Tables) → SayTheSameOf items t t
same_self items t = record { len = refl; tables = λ db front k. k.tables }

-- ---- items

pub length-stored : (items : List reading.Item) → length (all_stored items) ≡ length items
length-stored items = length-map items stored

pub count_kept : (db : Reading) (front : Text) (items : List Item) (t : Tables) → IsKeptAs db front items t → length items ≡ length db.items
count_kept db front items t k = ap (length {A = Item}) k.items ∙ length-stored db.items

pub stored_at : (items : List reading.Item) (n : ℕ) (i : reading.Item) → slice_get items n ≡ Some i → item_at (all_stored items) n ≡ stored i
stored_at items n i at = get_or_from_slice_get (all_stored items) n (stored i) (item [] []) (slice_get-map stored items n ∙ ap (option_map stored) at)

-- the item at n is in the list
pub item_in : (P : reading.Item → Type 0) (items : List reading.Item) (n : ℕ) (i : reading.Item) → All P items → slice_get items n ≡ Some i → P i
item_in P items n i all at = subst P (get_or_from_slice_get items n i i at) (all n i (slice_get_within items n i at))

-- what is seen of the bytes of item n is the item
pub item_seen : (db : Reading) (front : Text) (items : List Item) (t : Tables) (n : ℕ) (body trail : Text) (seen : View) → IsKeptAs db front items t →
    body ≡ (item_at items n).body → trail ≡ (item_at items n).trail →
    ((tree : Tree) → IsTree name_limit tree → tree_bytes tree ≡ body → seen ≡ view_of (record { tree = tree; trail = trail })) →
    (i : reading.Item) → slice_get db.items n ≡ Some i → seen ≡ view_of i
item_seen db front items t n body trail seen k body_is trail_is sees i at =
    let is : item_at items n ≡ stored i = ap (λ (l : List Item). item_at l n) k.items ∙ stored_at db.items n i at in
    let good : IsItem name_limit i = item_in (IsItem name_limit) db.items n i k.opens.reads.items at in
    sees i.tree good.tree (sym (body_is ∙ ap (λ (x : Item). x.body) is))
    ∙ ap (λ (u : Text). let it : reading.Item = record { tree = i.tree; trail = u } in view_of it) (trail_is ∙ ap (λ (x : Item). x.trail) is)

-- ---- places

pub bytes-stored : (items : List reading.Item) → flat_map kept_bytes (all_stored items) ≡ flat_map item_bytes items
bytes-stored items = flat_map-map kept_bytes stored items

-- the front and the items kept are the file
pub file-stored : (db : Reading) → file_of db.front (all_stored db.items) ≡ bytes_of db
file-stored db = ap (λ (u : Text). db.front ++ u) (bytes-stored db.items)

pub start_kept : (db : Reading) (front : Text) (items : List Item) (t : Tables) (n place : ℕ) (lent : Text) → IsKeptAs db front items t → lent ≡ front →
    place ≡ length lent + length (flat_map kept_bytes (take n items)) → place ≡ start_of db n
start_kept db front items t n place lent k same is =
    is ∙ ap (λ (u : Text). length u + length (flat_map kept_bytes (take n items))) same
    ∙ ap₂ (λ (u v : Text). length u + length v) k.front (ap (λ (l : List Item). flat_map kept_bytes (take n l)) k.items ∙ ap (flat_map kept_bytes) (take-map stored n db.items) ∙ bytes-stored (take n db.items))

-- ---- numbers

-- a number that is read from a list of numbers
pub number_read : (xs ys : List ℕ) (len n m : ℕ) → xs ≡ ys → len ≡ length xs → n < length ys → m ≡ get_or xs n m → slice_get ys n ≡ Some m
number_read xs ys len n m same is within read =
    let inside : n < len = omega (arith, ap (length {A = ℕ}) same, is, within) in
    ap (λ (l : List ℕ). slice_get l n) (sym same) ∙ slice_get_read xs len n m is inside read

pub number_within : (xs ys : List ℕ) (len n : ℕ) → xs ≡ ys → len ≡ length xs → n < length ys → n < len
number_within xs ys len n same is within = omega (arith, ap (length {A = ℕ}) same, is, within)

-- items that stand in a file have trees that a file may have
pub trees_good : (xs : List reading.Item) → All (IsItem name_limit) xs → AllByRecursion (λ i. IsTree name_limit i.tree) xs
trees_good [] all = tt
trees_good (x ∷ xs) all = ((All-head (IsItem name_limit) x xs all).tree, trees_good xs (All-tail (IsItem name_limit) x xs all))
