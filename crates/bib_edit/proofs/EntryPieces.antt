-- The pieces of entries that get new keys, entry by entry.
use Rattle.bib_edit.proofs.Words.{◌≡◌, ℕ, zero, suc, ◌+◌, ◌-◌, ◌≤◌, ◌<◌, Bool, true, List, [], ◌∷◌, ◌++◌, Option, Some, None, length, filter, take, slice_get, option_and_then, ⊎_elim, refl, sym, ◌∙◌, ap, ap₂, subst, arith, append_assoc, append-nil, length-append, zero-add, add-zero, flat_map, take_at}
use Rattle.bib_edit.proofs.Words.{range_with_len, option_map_or, cases_Bool, cond-true, cond-false, cases_lt, length-map, none-some, same_Some, slice_get_within, Text, tree_bytes, file_limit, Item, Reading, Reads, item_bytes, entries_of, entry_named, target, crossref_text, Piece, pieces_from}
use Rattle.bib_edit.proofs.Words.{option_cases, View, view_of, start_of, refers, referrers, numbers_from, numbered_first, numbered_later, is_entry_tree, entry_items, entry_numbers, length-entry_items, length-entry_numbers, entry_at, entry_stands, key_of, new_target, key_piece, crossref_piece}
use Rattle.bib_edit.proofs.Words.{IsEntrySeen, rekeying, entry_pieces, pieces_at, pieces_after, RefersAt, ArePassed, AreQuiet, HavePieces, NewKeys, item-ends}
use Rattle.std.proofs.lemmas.Grind.{flat_map-append}
use Rattle.bib_store.specs.Tables.{crossrefs_of}
use Rattle.bib_edit.proofs.KeyPieces.{keyed_chunks, pieces-other, pieces-more, entry-is}
use Rattle.bib_edit.proofs.Referrers.{one-later, numbers-ascend, none-after, target-referrer}
use Rattle.bib_edit.proofs.FirstItems.{stands-after}

-- ---- the number of an entry

module _ {X : Type 0} (passes : X → Bool) where
  -- what passes has the number of those before it, and stands after as many that pass as there are
  number-of : (b : ℕ) (before : List X) (x : X) (xs : List X) → passes x ≡ true → slice_get (numbers_from passes b (before ++ x ∷ xs)) (length (filter passes before)) ≡ Some (b + length before)
  number-of b [] x xs t = ap (λ (l : List ℕ). slice_get l 0) (numbered_first passes b x xs t) ∙ ap Some (sym (add-zero b))
  number-of b (y ∷ before) x xs t = ⊎_elim
      (λ s. ap₂ (λ (l : List ℕ) (fs : List X). slice_get l (length fs)) (numbered_first passes b y (before ++ x ∷ xs) s) (cond-true (passes y) (y ∷ filter passes before) (filter passes before) s)
      ∙ number-of (b + 1) before x xs t ∙ ap Some (one-later b (length before)))
      (λ s. ap₂ (λ (l : List ℕ) (fs : List X). slice_get l (length fs)) (numbered_later passes b y (before ++ x ∷ xs) s) (cond-false (passes y) (y ∷ filter passes before) (filter passes before) s)
      ∙ number-of (b + 1) before x xs t ∙ ap Some (one-later b (length before)))
      (cases_Bool (passes y))

  filter-more : (before : List X) (x : X) → length (filter passes (before ++ x ∷ [])) ≡ length (filter passes before) + length (filter passes (x ∷ []))
  filter-more [] x = sym (zero-add (length (filter passes (x ∷ []))))
  filter-more (y ∷ before) x = ⊎_elim
      (λ s. let more = filter-more before x in
      let a = ap (length {A = X}) (cond-true (passes y) (y ∷ filter passes (before ++ x ∷ [])) (filter passes (before ++ x ∷ [])) s) in
      let c = ap (length {A = X}) (cond-true (passes y) (y ∷ filter passes before) (filter passes before) s) in
      omega (arith, more, a, c))
      (λ s. let more = filter-more before x in
      let a = ap (length {A = X}) (cond-false (passes y) (y ∷ filter passes (before ++ x ∷ [])) (filter passes (before ++ x ∷ [])) s) in
      let c = ap (length {A = X}) (cond-false (passes y) (y ∷ filter passes before) (filter passes before) s) in
      omega (arith, more, a, c))
      (cases_Bool (passes y))

few-numbers : {X : Type 0} (passes : X → Bool) (b : ℕ) (xs : List X) → length (numbers_from passes b xs) ≤ length xs
few-numbers passes b [] = omega arith
few-numbers passes b (x ∷ xs) = ⊎_elim
    (λ t. let rest = few-numbers passes (b + 1) xs in let is = ap (length {A = ℕ}) (numbered_first passes b x xs t) in omega (arith, rest, is))
    (λ t. let rest = few-numbers passes (b + 1) xs in let is = ap (length {A = ℕ}) (numbered_later passes b x xs t) in omega (arith, rest, is))
    (cases_Bool (passes x))

-- ---- those that refer to a key

module _ (db : Reading) (key : Text) where
  abbrev refs : List ℕ
  refs = referrers key (crossrefs_of db)

  -- one that refers before another is before it
  sooner : (j k n m : ℕ) → j < k → RefersAt db key j n → RefersAt db key k m → n < m
  sooner j k n m lt e f = numbers-ascend (refers key) 0 (crossrefs_of db) j k n m lt e f

  -- those from number k on are not before entry n, where number k is not
  all-after : (k n : ℕ) → ((m : ℕ) → RefersAt db key k m → n ≤ m) → (j m : ℕ) → k ≤ j → RefersAt db key j m → n ≤ m
  all-after k n first j m le at = ⊎_elim
      (λ none. absurd (none-some m (sym (none-after refs k j le none) ∙ at)))
      (λ some. ⊎_elim
      (λ lt. let low = first some.0 some.1 in let after = sooner k j some.0 m lt some.1 at in omega (arith, low, after))
      (λ ge. let same : j ≡ k = omega (arith, le, ge) in first m (ap (slice_get refs) (sym same) ∙ at))
      (cases_lt k j))
      (option_cases (slice_get refs k))

  pub none-passed : ArePassed db key 0 0
  none-passed = record { before = λ j m lt at. absurd (omega (arith, lt)); after = λ j m le at. omega arith }

  pub after-with : (k n : ℕ) → ArePassed db key k n → RefersAt db key k n → ArePassed db key (k + 1) (n + 1)
  after-with k n passed at = record {
    before = λ j m lt there. ⊎_elim
        (λ few. let before = passed.before j m few there in omega (arith, before))
        (λ many. let same : j ≡ k = omega (arith, lt, many) in let is : m ≡ n = same_Some m n (sym there ∙ ap (slice_get refs) same ∙ at) in omega (arith, is))
        (cases_lt j k);
    after = λ j m le there. (let later = sooner k j n m (omega (arith, le)) at there in omega (arith, later));
  }

  pub after-without : (k n : ℕ) → ArePassed db key k n → (RefersAt db key k n → ⊥) → ArePassed db key k (n + 1)
  after-without k n passed other = record {
    before = λ j m lt there. (let before = passed.before j m lt there in omega (arith, before));
    after = all-after k (n + 1) (λ m at.
        let low = passed.after k m (omega arith) at in
        omega (arith, low, (λ (same : m ≡ n). other (subst (λ (x : ℕ). RefersAt db key k x) same at))));
  }

  -- no more refer than there are entries
  pub refers-within : (j m : ℕ) → RefersAt db key j m → j < length (entries_of db)
  refers-within j m at =
      let within = slice_get_within refs j m at in
      let few = few-numbers (refers key) 0 (crossrefs_of db) in
      let all = length-map (entries_of db) crossref_text in
      omega (arith, within, few, all)

  few-refer : (j m : ℕ) → length (entries_of db) ≤ j → RefersAt db key j m → ⊥
  few-refer j m le at = let within = refers-within j m at in omega (arith, le, within)

-- ---- all entries

module _ (new : NewKeys) (db : Reading) where
  abbrev count : ℕ
  count = length (entries_of db)

  pub after-next : (n : ℕ) → n < count → pieces_after new db n ≡ pieces_at new db n ++ pieces_after new db (n + 1)
  after-next n lt = ap (λ (k : ℕ). flat_map (pieces_at new db) (range_with_len n k)) (one_more n count lt)
    where
      one_more : (n k : ℕ) → n < k → k - n ≡ suc (k - (n + 1))
      one_more n k lt = omega (arith, lt)

  pub after-last : (n : ℕ) → count ≤ n → pieces_after new db n ≡ []
  after-last n le = ap (λ (k : ℕ). flat_map (pieces_at new db) (range_with_len n k)) (none n count le)
    where
      none : (n k : ℕ) → k ≤ n → k - n ≡ 0
      none n k le = omega (arith, le)

  -- entries without pieces are passed
  skip : (d a : ℕ) → a + d ≤ count → ((n : ℕ) → a ≤ n → n < a + d → pieces_at new db n ≡ []) → pieces_after new db a ≡ pieces_after new db (a + d)
  skip zero a le none = ap (pieces_after new db) (sym (add-zero a))
  skip (suc d) a le none =
      after-next a (omega (arith, le)) ∙ ap (λ ps. ps ++ pieces_after new db (a + 1)) (none a (omega arith) (omega arith))
      ∙ skip d (a + 1) (omega (arith, le)) (λ n low high. none n (omega (arith, low)) (omega (arith, high))) ∙ ap (pieces_after new db) (one-later a d)

  skip-to : (a b : ℕ) → a ≤ b → b ≤ count → ((n : ℕ) → a ≤ n → n < b → pieces_at new db n ≡ []) → pieces_after new db a ≡ pieces_after new db b
  skip-to a b le high none =
      let there : a + (b - a) ≡ b = omega (arith, le) in
      skip (b - a) a (omega (arith, there, high)) (λ n low lt. none n low (omega (arith, lt, there))) ∙ ap (pieces_after new db) there

  -- the items from one on have the pieces of the entries among them
  items-pieces : (before items : List Item) → db.items ≡ before ++ items →
      pieces_from (length db.front + length (flat_map item_bytes before)) (keyed_chunks (key_of new) (entries_of db) (length (entry_items before)) items) ≡ pieces_after new db (length (entry_items before))
  items-pieces before [] is =
      let all = ap (λ (l : List Item). length (entry_items l)) (sym (is ∙ append-nil before)) ∙ length-entry_items db in
      sym (after-last (length (entry_items before)) (omega (arith, all)))
  items-pieces before (item ∷ items) is = ⊎_elim
      (λ t.
      let e = entry-is item t in
      let one : length (entry_items (before ++ item ∷ [])) ≡ k + 1 = filter-more such before item ∙ ap (λ (l : List Item). k + length l) (cond-true (is_entry_tree item.tree) (item ∷ []) [] t) in
      let numbered : slice_get (entry_numbers db.items) k ≡ Some (length before) = ap (λ (l : List Item). slice_get (entry_numbers l) k) is ∙ number-of such 0 before item items t ∙ ap Some (zero-add (length before)) in
      let low : k < count = subst (λ (m : ℕ). k < m) (length-entry_numbers db) (slice_get_within (entry_numbers db.items) k (length before) numbered) in
      let its : pieces_at new db k ≡ entry_pieces new db k start item
      = ap (λ (o : Option ℕ). option_map_or (λ i. option_map_or (entry_pieces new db k (start_of db i)) (slice_get db.items i) []) o []) numbered
      ∙ ap (λ (o : Option Item). option_map_or (entry_pieces new db k (start_of db (length before))) o []) (ap (λ (l : List Item). slice_get l (length before)) is ∙ stands-after before item items)
      ∙ ap (λ (l : List Item). entry_pieces new db k (length db.front + length (flat_map item_bytes l)) item) (ap (take (length before)) is ∙ take_at before (item ∷ items) (length before) refl) in
      ap (λ (x : Item). pieces_from start (keyed_chunks (key_of new) (entries_of db) k (x ∷ items))) e.1
      ∙ pieces-more (key_of new) (entries_of db) start k e.0 item.trail items
      ∙ ap (λ (x : Item). entry_pieces new db k start x ++ pieces_from (start + (length (tree_bytes x.tree) + length x.trail)) (keyed_chunks (key_of new) (entries_of db) (k + 1) items)) (sym e.1)
      ∙ ap₂ (λ (here later : List Piece). here ++ later) (sym its)
      (ap₂ (λ (s m : ℕ). pieces_from s (keyed_chunks (key_of new) (entries_of db) m items)) (sym ends) (sym one)
      ∙ items-pieces (before ++ item ∷ []) items moved ∙ ap (pieces_after new db) one)
      ∙ sym (after-next k low))
      (λ t.
      let one : length (entry_items (before ++ item ∷ [])) ≡ k = filter-more such before item ∙ ap (λ (l : List Item). k + length l) (cond-false (is_entry_tree item.tree) (item ∷ []) [] t) ∙ add-zero k in
      pieces-other (key_of new) (entries_of db) start k item items t
      ∙ ap₂ (λ (s m : ℕ). pieces_from s (keyed_chunks (key_of new) (entries_of db) m items)) (sym ends) (sym one)
      ∙ items-pieces (before ++ item ∷ []) items moved ∙ ap (pieces_after new db) one)
      (cases_Bool (is_entry_tree item.tree))
    where
      such : Item → Bool
      such i = is_entry_tree i.tree

      k : ℕ
      k = length (entry_items before)

      start : ℕ
      start = length db.front + length (flat_map item_bytes before)

      moved : db.items ≡ (before ++ item ∷ []) ++ items
      moved = is ∙ sym (append_assoc before (item ∷ []) items)

      ends : length db.front + length (flat_map item_bytes (before ++ item ∷ [])) ≡ length db.front + length (flat_map item_bytes before) + (length (tree_bytes item.tree) + length item.trail)
      ends =
          let long = ap (length {A = ℕ}) (flat_map-append item_bytes before (item ∷ [])) in
          let both = length-append (flat_map item_bytes before) (flat_map item_bytes (item ∷ [])) in
          let one = length-append (item_bytes item) [] in
          let parts = length-append (tree_bytes item.tree) item.trail in
          omega (arith, long, both, one, parts)

  pub after-first : pieces_after new db 0 ≡ rekeying new db
  after-first =
      sym (items-pieces [] db.items refl)
      ∙ ap (λ (at : ℕ). pieces_from at (keyed_chunks (key_of new) (entries_of db) 0 db.items)) (add-zero (length db.front) ∙ sym (zero-add (length db.front)))

  -- the pieces of all entries, in turn
  pub first-pieces : (done : List Piece) → done ≡ [] → done ++ pieces_after new db 0 ≡ rekeying new db
  first-pieces done none = ap (λ ps. ps ++ pieces_after new db 0) none ∙ after-first

  pub next-pieces : (n : ℕ) (done more : List Piece) → n < count → done ++ pieces_after new db n ≡ rekeying new db → more ≡ done ++ pieces_at new db n → more ++ pieces_after new db (n + 1) ≡ rekeying new db
  next-pieces n done more lt is more_is =
      ap (λ ps. ps ++ pieces_after new db (n + 1)) more_is ∙ append_assoc done (pieces_at new db n) (pieces_after new db (n + 1))
      ∙ ap (λ ps. done ++ ps) (sym (after-next n lt)) ∙ is

  pub all-pieces : (n : ℕ) (done : List Piece) → count ≤ n → done ++ pieces_after new db n ≡ rekeying new db → done ≡ rekeying new db
  all-pieces n done le is = sym (append-nil done) ∙ ap (λ ps. done ++ ps) (sym (after-last n le)) ∙ is

  -- what is seen of entry n has its pieces
  pub pieces-seen : (n i start : ℕ) (view : View) → n < count → slice_get (entry_numbers db.items) n ≡ Some i → start ≡ start_of db i → ((item : Item) → slice_get (entry_items db.items) n ≡ Some item → view ≡ view_of item)
      → key_piece start view (key_of new n) ++ crossref_piece start view (new_target new db n) ≡ pieces_at new db n
  pieces-seen n i start view lt numbered at seen =
      let e = entry_at db n lt in
      ap₂ (λ (s : ℕ) (v : View). key_piece s v (key_of new n) ++ crossref_piece s v (new_target new db n)) at (seen e.0 e.1.listed)
      ∙ sym (ap (λ (o : Option ℕ). option_map_or (λ j. option_map_or (entry_pieces new db n (start_of db j)) (slice_get db.items j) []) o []) numbered
      ∙ ap (λ (o : Option Item). option_map_or (entry_pieces new db n (start_of db i)) o []) (entry_stands db n i e.0 numbered e.1.listed))

  pub entry-seen : (file : Text) (n i start : ℕ) (view : View) → Reads file db → length file ≤ file_limit → n < count → slice_get (entry_numbers db.items) n ≡ Some i → start ≡ start_of db i
      → ((item : Item) → slice_get (entry_items db.items) n ≡ Some item → view ≡ view_of item) → IsEntrySeen start view
  entry-seen file n i start view reads short lt numbered at seen =
      let e = entry_at db n lt in
      let it = entry-is e.0 (ap is_entry_tree e.1.is) in
      let ends = item-ends file db i e.0 reads (entry_stands db n i e.0 numbered e.1.listed) in
      let long = ap (λ (x : Item). length (item_bytes x)) it.1 in
      record { entry = it.0; trail = e.0.trail; is = seen e.0 e.1.listed ∙ ap view_of it.1; within = omega (arith, ends, long, short, at) }

  -- ---- up to those that refer to a key

  module _ (key : Text) where
    -- entries up to the next that refers, or to the end, are passed
    pub pieces-to : (k a b : ℕ) (done : List Piece) → a ≤ b → b ≤ count → AreQuiet new db key a b → HavePieces new db key k a done → ((m : ℕ) → RefersAt db key k m → b ≤ m) → HavePieces new db key k b done
    pieces-to k a b done le high quiet have first =
        let passed = have.passed in
        let after = all-after db key k b first in
        record {
          pieces = ap (λ ps. done ++ ps) (sym (skip-to a b le high (λ n low lt. quiet n low lt (λ j at. ⊎_elim
              (λ few. let before = passed.before j n few at in omega (arith, before, low))
              (λ many. let later = after j n many at in omega (arith, later, lt))
              (cases_lt j k))))) ∙ have.pieces;
          passed = record { before = λ j m lt at. (let before = passed.before j m lt at in omega (arith, before, le)); after = after };
        }

    -- the next that refers is there too
    pub pieces-with : (k n : ℕ) (done more : List Piece) → n < count → HavePieces new db key k n done → RefersAt db key k n → more ≡ done ++ pieces_at new db n → HavePieces new db key (k + 1) (n + 1) more
    pieces-with k n done more lt have at more_is =
        let passed = have.passed in
        record {
          pieces = next-pieces n done more lt have.pieces more_is;
          passed = after-with db key k n passed at;
        }

    -- entries up to one that refers as number k, or to a later one, have their pieces, and none but those that refer gets any up
    -- to the end
    pub record IsReached (k end : ℕ) (done : List Piece) : Type 0 where
      pub at : ℕ
      pub within : at ≤ end
      pub quiet : AreQuiet new db key at end
      pub have : HavePieces new db key k at done

    pub reached-more : (k end n : ℕ) (done more : List Piece) → IsReached k end done → end ≤ count → n < end → RefersAt db key k n → more ≡ done ++ pieces_at new db n → IsReached (k + 1) end more
    reached-more k end n done more is high lt refers more_is =
        let have = is.have in
        let passed = have.passed in
        let quiet = is.quiet in
        let low : is.at ≤ n = passed.after k n (omega arith) refers in
        record {
          at = n + 1;
          within = omega (arith, lt);
          quiet = λ i above below alone. quiet i (omega (arith, low, above)) below alone;
          have = pieces-with k n done more (omega (arith, lt, high))
              (pieces-to k is.at n done low (omega (arith, lt, high)) (λ i above below alone. quiet i above (omega (arith, below, lt)) alone) have
              (λ m there. (let same : n ≡ m = same_Some n m (sym refers ∙ there) in omega (arith, same)))) refers more_is;
        }

    pub reached-end : (k end : ℕ) (done : List Piece) → IsReached k end done → end ≤ count → ((m : ℕ) → RefersAt db key k m → end ≤ m) → HavePieces new db key k end done
    reached-end k end done is high first = pieces-to k is.at end done is.within high is.quiet is.have first

    pub reached-all : (k end : ℕ) (done : List Piece) → IsReached k end done → end ≤ count → count ≤ k → HavePieces new db key count end done
    reached-all k end done is high le =
        let have = is.have in
        let passed = have.passed in
        let all : HavePieces new db key count is.at done = record {
          pieces = have.pieces;
          passed = record { before = λ j m lt at. passed.before j m (omega (arith, lt, le)) at; after = λ j m many at. absurd (few-refer db key j m many at) };
        } in
        pieces-to count is.at end done is.within high is.quiet all (λ m at. absurd (few-refer db key count m (omega arith) at))

    -- ---- the one that the key names

    module _ (n : ℕ) (named : entry_named (entries_of db) key ≡ Some n) (alone : (m : ℕ) → (m ≡ n → ⊥) → key_of new m ≡ None) where
      untouched : (i : ℕ) → (i ≡ n → ⊥) → ((j : ℕ) → RefersAt db key j i → ⊥) → pieces_at new db i ≡ []
      untouched i other quiet =
          ap₂ (λ (k t : Option Text). option_map_or (λ p. option_map_or (λ (item : Item). key_piece (start_of db p) (view_of item) k ++ crossref_piece (start_of db p) (view_of item) t) (slice_get db.items p) []) (slice_get (entry_numbers db.items) i) [])
          (alone i other) no_target
          ∙ nothing (slice_get (entry_numbers db.items) i)
        where
          no_target : new_target new db i ≡ None
          no_target = ⊎_elim
              (λ none. ap (option_and_then (key_of new)) none)
              (λ some. ap (option_and_then (key_of new)) some.1 ∙ alone some.0 (λ same.
              let found = target-referrer (entries_of db) key n named i (some.1 ∙ ap Some same) in quiet found.0 found.1))
              (option_cases (target (entries_of db) i))

          inner : (p : ℕ) (o : Option Item) → option_map_or (λ (item : Item). key_piece (start_of db p) (view_of item) None ++ crossref_piece (start_of db p) (view_of item) None) o [] ≡ []
          inner p None = refl
          inner p (Some item) = refl

          nothing : (o : Option ℕ) → option_map_or (λ p. option_map_or (λ (item : Item). key_piece (start_of db p) (view_of item) None ++ crossref_piece (start_of db p) (view_of item) None) (slice_get db.items p) []) o [] ≡ []
          nothing None = refl
          nothing (Some p) = inner p (slice_get db.items p)

      pub quiet-before : AreQuiet new db key 0 n
      quiet-before i low lt quiet = untouched i (λ same. omega (arith, lt, same)) quiet

      pub quiet-after : AreQuiet new db key (n + 1) count
      quiet-after i low lt quiet = untouched i (λ same. omega (arith, low, same)) quiet
