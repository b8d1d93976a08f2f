-- The file that a change makes: its reading, and what is kept of it.
use Rattle.bib_store.proofs.Words.{◌≡◌, ℕ, ◌≤◌, Bool, true, false, List, [], ◌++◌, length, take, drop, None, refl, sym, subst, ◌∙◌, ap, ap₂, append_assoc, map-append, take-map, drop-map, All-append, All-take, All-drop, flat_map, name_limit, file_limit, Text, IsClean, Reading, Reads, IsItem}
use Rattle.bib_store.proofs.Words.{item_bytes, bytes_of, too_long_at, IsOpenable, Piece, Fit, applied, one_reading, Window, Change, Tables, stored, all_stored, kept_bytes, HasItems, AreTables, file_of, IsKept, IsWindow, Serve, front_before, bytes_before, bytes_after, exchanged, joined, OfJoined}
use Rattle.std.proofs.lemmas.List.Concat.{flat_map-append}
use Rattle.std.specs.List.{All}
use Rattle.bib_items.specs.declared.list.Item.{Item}
use Rattle.bib_store.specs.Windows.{IsChange, front_after}
use Rattle.bib_store.proofs.KeptItems.{bytes-stored, file-stored}

-- its items are kept in the place of the others
pub stored-joined : (w : Window) (db inner : Reading) (items : List Item) → items ≡ all_stored db.items → all_stored (joined w db inner).items ≡ exchanged w inner.items items
stored-joined w db inner items k =
    map-append stored (take w.from db.items) (inner.items ++ drop w.to db.items)
    ∙ ap₂ ◌++◌
    (sym (take-map stored w.from db.items) ∙ ap (take w.from) (sym k))
    (map-append stored inner.items (drop w.to db.items) ∙ ap (λ l. all_stored inner.items ++ l) (sym (drop-map stored w.to db.items) ∙ ap (drop w.to) (sym k)))

-- the file is what stands before the window, the text in it, and what stands after it
front_joined : (b : Bool) (old new x y z : Text) → (b ≡ true → x ≡ []) → (b ≡ false → new ≡ []) → front_after b old new ++ (x ++ (y ++ z)) ≡ (front_before b old ++ x) ++ ((new ++ y) ++ z)
front_joined true old new x y z e f =
    ap (λ l. new ++ (l ++ (y ++ z))) (e refl) ∙ sym (append_assoc new y z) ∙ ap (λ l. l ++ ((new ++ y) ++ z)) (sym (e refl))
front_joined false old new x y z e f =
    sym (append_assoc old x (y ++ z)) ∙ ap (λ l. (old ++ x) ++ ((l ++ y) ++ z)) (sym (f refl))

pub bytes-joined : (w : Window) (front : Text) (items : List Item) (inner : Reading) → IsWindow items w → (w.with_front ≡ false → inner.front ≡ [])
    → file_of (front_after w.with_front front inner.front) (exchanged w inner.items items) ≡ bytes_before w front items ++ (bytes_of inner ++ bytes_after w items)
bytes-joined w front items inner is begins =
    ap (λ l. front_after w.with_front front inner.front ++ l)
    (flat_map-append kept_bytes (take w.from items) (all_stored inner.items ++ drop w.to items)
    ∙ ap (λ l. flat_map kept_bytes (take w.from items) ++ l)
    (flat_map-append kept_bytes (all_stored inner.items) (drop w.to items) ∙ ap (λ l. l ++ flat_map kept_bytes (drop w.to items)) (bytes-stored inner.items)))
    ∙ front_joined w.with_front front inner.front (flat_map kept_bytes (take w.from items)) (flat_map item_bytes inner.items) (bytes_after w items)
    (λ b. ap (λ n. flat_map kept_bytes (take n items)) (is.begins b)) begins

clean_after : (b : Bool) (old new : Text) → IsClean old → IsClean new → IsClean (front_after b old new)
clean_after true old new c d = d
clean_after false old new c d = c

-- the reading of items joined: no item looks past its trail
pub items-joined : (limit : ℕ) (w : Window) (db inner : Reading) → All (IsItem limit) db.items → All (IsItem limit) inner.items → All (IsItem limit) (joined w db inner).items
items-joined limit w db inner a b =
    All-append (IsItem limit) (take w.from db.items) (inner.items ++ drop w.to db.items) (All-take (IsItem limit) w.from db.items a)
    (All-append (IsItem limit) inner.items (drop w.to db.items) b (All-drop (IsItem limit) w.to db.items a))

-- what the change of a kept file makes
pub record IsSpliced (ps : List Piece) (front : Text) (items : List Item) (t : Tables) (c : Change) (inner db : Reading) : Type 0 where
  pub reads : Reads (applied ps (file_of front items)) db
  pub has : HasItems (length (front_after c.window.with_front front inner.front)) (exchanged c.window inner.items items) db
  pub front_is : front_after c.window.with_front front inner.front ≡ db.front
  pub made : file_of (front_after c.window.with_front front inner.front) (exchanged c.window inner.items items) ≡ applied ps (file_of front items)

pub spliced : (ps : List Piece) (front : Text) (items : List Item) (t : Tables) (c : Change) (inner : Reading) → (k : IsKept front items t) → IsChange ps front items c → Reads c.text inner
    → IsSpliced ps front items t c inner (joined c.window k.db inner)
spliced ps front items t c inner k is reads =
    let db : Reading = k.db in
    let w : Window = c.window in
    let new : Reading = joined w db inner in
    let front_is : front_after w.with_front front inner.front ≡ new.front = ap (λ f. front_after w.with_front f inner.front) k.is.front in
    let made : file_of (front_after w.with_front front inner.front) (exchanged w inner.items items) ≡ applied ps (file_of front items)
    = bytes-joined w front items inner is.window (λ b. is.begins b inner reads)
    ∙ ap (λ l. bytes_before w front items ++ (l ++ bytes_after w items)) reads.bytes
    ∙ sym is.made in
    let kept : all_stored new.items ≡ exchanged w inner.items items = stored-joined w db inner items k.is.items in
    let bytes : bytes_of new ≡ applied ps (file_of front items) = sym (file-stored new) ∙ ap₂ file_of (sym front_is) kept ∙ made in
    let all : All (IsItem name_limit) new.items = items-joined name_limit w db inner k.is.opens.reads.items reads.items in
    record {
      reads = record { bytes = bytes; front = clean_after w.with_front db.front inner.front k.is.opens.reads.front reads.front; items = all };
      has = record { items = all; same = kept; front = ap length (sym front_is); file = subst (λ (x : Text). length x ≤ file_limit) (sym bytes) is.short };
      front_is = front_is;
      made = made;
    }

-- with its tables it is kept
pub spliced_kept : (ps : List Piece) (front new_front : Text) (items new_items : List Item) (t new_t : Tables) (c : Change) (inner db : Reading) → IsChange ps front items c → IsSpliced ps front items t c inner db
    → new_front ≡ front_after c.window.with_front front inner.front → new_items ≡ exchanged c.window inner.items items → AreTables db new_t → new_t.file_len ≡ c.file_len → too_long_at db ≡ None → IsKept new_front new_items new_t
spliced_kept ps front new_front items new_items t new_t c inner db is s f i tables len short =
    let made : file_of new_front new_items ≡ applied ps (file_of front items) = ap₂ file_of f i ∙ s.made in
    record {
      db = db;
      is = record {
        opens = record {
          reads = subst (λ (x : Text). Reads x db) (sym made) s.reads;
          short = subst (λ (x : Text). length x ≤ file_limit) (sym made) is.short;
          texts = short;
        };
        front = f ∙ s.front_is;
        items = i ∙ sym s.has.same;
        tables = tables;
        len = len ∙ is.len ∙ ap (length {A = ℕ}) (sym made);
      };
    }

-- if a raw text of it is too long, it is no file
pub spliced_refused : (ps : List Piece) (front : Text) (items : List Item) (t : Tables) (c : Change) (inner db : Reading) → IsSpliced ps front items t c inner db
    → (too_long_at db ≡ None → ⊥) → IsOpenable (applied ps (file_of front items)) → ⊥
spliced_refused ps front items t c inner db s long file =
    let same : file.0 ≡ db = one_reading name_limit (applied ps (file_of front items)) file.0 db file.1.reads s.reads in
    long (subst (λ (d : Reading). too_long_at d ≡ None) same file.1.texts)

-- a file that pieces lead to is served
pub file_served : (ps : List Piece) (file : Text) → Fit ps file → IsOpenable (applied ps file) → Serve ps file
file_served ps file f is = record { fit = f; reads = (is.0, is.1.reads); short = is.1.short }

-- ---- the database

-- what is kept after pieces are replaced
pub record IsAfter (ps : List Piece) (file front : Text) (items : List Item) (t : Tables) : Type 0 where
  pub made : file_of front items ≡ applied ps file
  pub kept : IsKept front items t

pub after_splice : (ps : List Piece) (file front lent new_front : Text) (front_len : ℕ) (items new_items : List Item) (t new_t : Tables) (c : Change) → IsKept front items t → file_of front items ≡ file
    → lent ≡ front → IsChange ps lent items c → ((inner : Reading) → Reads c.text inner → new_front ≡ front_after c.window.with_front front inner.front) → front_len ≡ length new_front
    → ((inner : Reading) → Reads c.text inner → new_items ≡ exchanged c.window inner.items items)
    → OfJoined c front_len items t (λ db. AreTables db new_t × (too_long_at db ≡ None)) → new_t.file_len ≡ c.file_len
    → IsAfter ps file new_front new_items new_t
after_splice ps file front lent new_front front_len items new_items t new_t c k same e change begins long puts made len =
    let is : IsChange ps front items c = subst (λ (x : Text). IsChange ps x items c) e change in
    let inner : Reading = is.layout.0 in
    let reads : Reads c.text inner = is.layout.1 in
    let db : Reading = joined c.window k.db inner in
    let s : IsSpliced ps front items t c inner db = spliced ps front items t c inner k is reads in
    let front_is : new_front ≡ front_after c.window.with_front front inner.front = begins inner reads in
    let has : HasItems front_len (exchanged c.window inner.items items) db = subst (λ (n : ℕ). HasItems n (exchanged c.window inner.items items) db) (sym (long ∙ ap length front_is)) s.has in
    let both = made front k.db inner k.is reads has in
    record {
      made = ap₂ file_of front_is (puts inner reads) ∙ s.made ∙ ap (applied ps) same;
      kept = spliced_kept ps front new_front items new_items t new_t c inner db is s front_is (puts inner reads) both.0 len both.1;
    }

pub after_refusal : (ps : List Piece) (file front lent new_front : Text) (front_len : ℕ) (items : List Item) (t : Tables) (c : Change) → IsKept front items t → file_of front items ≡ file
    → lent ≡ front → IsChange ps lent items c → ((inner : Reading) → Reads c.text inner → new_front ≡ front_after c.window.with_front front inner.front) → front_len ≡ length new_front
    → OfJoined c front_len items t (λ db. too_long_at db ≡ None → ⊥)
    → IsOpenable (applied ps file) → ⊥
after_refusal ps file front lent new_front front_len items t c k same e change begins long refused file_is =
    let is : IsChange ps front items c = subst (λ (x : Text). IsChange ps x items c) e change in
    let inner : Reading = is.layout.0 in
    let reads : Reads c.text inner = is.layout.1 in
    let db : Reading = joined c.window k.db inner in
    let s : IsSpliced ps front items t c inner db = spliced ps front items t c inner k is reads in
    let has : HasItems front_len (exchanged c.window inner.items items) db = subst (λ (n : ℕ). HasItems n (exchanged c.window inner.items items) db) (sym (long ∙ ap length (begins inner reads))) s.has in
    spliced_refused ps front items t c inner db s (refused front k.db inner k.is reads has)
    (subst (λ (x : Text). IsOpenable (applied ps x)) (sym same) file_is)
