-- Tables that follow while items come into a list, or go from it.
use Rattle.bib_store.proofs.Words.{◌≡◌, inl, ℕ, ◌+◌, ◌-◌, ◌≤◌, ◌<◌, ◌^◌, List, [], ◌++◌, length, map, take, drop, None, refl, sym, subst, ◌∙◌, ap, ap₂, arith, append_assoc, length-append, take-append-drop, flat_map, map-append, take-map, drop-map, take_at, drop_at, take-take, All-append, All-take}
use Rattle.bib_store.proofs.Words.{All-drop, name_limit, file_limit, Text, IsClean, Reading, Reads, IsItem, bytes_of, Macros, months, macros_at, raw_texts_from, kept_bytes, stored, all_stored, without_range, Tables, AreTablesOf, texts_at, first_too_long, IsFirm, AreItemsOf, AreOthersOf}
use Rattle.bib_store.proofs.Words.{HaveShortTexts, MayPass, IsMeasured, AreFollowed, file_of, IsKept, macros_in_front}
use Rattle.std.proofs.Common.{length-drop}
use Rattle.std.specs.List.{All}
use Rattle.std.proofs.lemmas.List.Concat.{flat_map-append}
use Rattle.bib_spec.specs.Reading as reading
use Rattle.bib_items.specs.declared.list.Item.{Item}
use Rattle.bib_store.proofs.Appended.{trees, trees_of, trees_between, tables_alike, fit_alike}
use Rattle.bib_store.proofs.FollowedFiles.{bodies-stored, moved_fits}
use Rattle.bib_store.proofs.KeptItems.{length-stored, file-stored, bytes-stored, trees_good}
use Rattle.bib_store.proofs.WindowLaws.{bytes-split}

-- ---- a file

-- a file that is kept is followed and measured
pub followed_of : (front : Text) (items : List Item) (t : Tables) → IsKept front items t → AreFollowed items t
followed_of front items t k = record {
  all = k.db.items;
  good = k.is.opens.reads.items;
  same = k.is.items;
  tables = k.is.tables;
  texts = fit_alike (length k.db.front) 0 months k.db.items k.db.items refl k.is.opens.texts;
}

pub measured_of : (front : Text) (items : List Item) (t : Tables) → IsKept front items t → IsMeasured front items t
measured_of front items t k =
    let len = k.is.len in
    let short = k.is.opens.short in
    record { len = len; short = omega (arith, len, short) }

-- with the same front, others that are followed and measured are kept
pub kept_again : (front new_front : Text) (items new : List Item) (t u : Tables) → IsKept front items t → (IsClean front → IsClean new_front) → AreFollowed new u → IsMeasured new_front new u → IsKept new_front new u
kept_again front new_front items new t u k clean f m =
    let db : Reading = record { front = new_front; items = f.all } in
    let bytes : bytes_of db ≡ file_of new_front new = sym (file-stored db) ∙ ap (file_of new_front) (sym f.same) in
    let len = m.len in
    let short = m.short in
    record {
      db = db;
      is = record {
        opens = record {
          reads = record { bytes = bytes; front = clean (subst IsClean (sym k.is.front) k.is.opens.reads.front); items = f.good };
          short = omega (arith, len, short);
          texts = fit_alike 0 (length new_front) months f.all f.all refl f.texts;
        };
        front = refl;
        items = f.same;
        tables = f.tables;
        len = len;
      };
    }

-- ---- how long it is

pub come_len : (front : Text) (old now : List Item) (new : List reading.Item) (from : ℕ) → now ≡ take from old ++ (all_stored new ++ drop from old)
    → length (file_of front now) ≡ length (file_of front old) + length (flat_map kept_bytes (all_stored new))
come_len front old now new from put =
    let first : Text = flat_map kept_bytes (take from old) in
    let last : Text = flat_map kept_bytes (drop from old) in
    let mid : Text = flat_map kept_bytes (all_stored new) in
    let bytes : flat_map kept_bytes now ≡ first ++ (mid ++ last)
    = ap (flat_map kept_bytes) put ∙ flat_map-append kept_bytes (take from old) (all_stored new ++ drop from old) ∙ ap (λ (l : Text). first ++ l) (flat_map-append kept_bytes (all_stored new) (drop from old)) in
    omega (
      arith,
      ap (length {A = ℕ}) bytes,
      ap (length {A = ℕ}) (bytes-split old from),
      length-append front (flat_map kept_bytes now),
      length-append front (flat_map kept_bytes old),
      length-append first last,
      length-append first (mid ++ last),
      length-append mid last,
    )

-- measured with the items of a text more
pub come_measured : (front : Text) (old now : List Item) (t u : Tables) (inner : Reading) (from : ℕ) (text : Text) → IsMeasured front old t → now ≡ take from old ++ (all_stored inner.items ++ drop from old)
    → Reads text inner → u.file_len ≡ t.file_len + (length text - length inner.front) → u.file_len ≤ file_limit → IsMeasured front now u
come_measured front old now t u inner from text m put reads len short =
    let bytes : inner.front ++ flat_map kept_bytes (all_stored inner.items) ≡ text
    = ap (λ (x : Text). inner.front ++ x) (bytes-stored inner.items) ∙ reads.bytes in
    let was = m.len in
    record { len = omega (arith, len, was, come_len front old now inner.items from put, ap (length {A = ℕ}) bytes, length-append inner.front (flat_map kept_bytes (all_stored inner.items))); short = short }

-- the bytes of the items before a number are no more than the file's
pub len-within : (front : Text) (items : List Item) (to : ℕ) → length (flat_map kept_bytes (take to items)) ≤ length (file_of front items)
len-within front items to =
    omega (
      arith,
      ap (length {A = ℕ}) (bytes-split items to),
      length-append (flat_map kept_bytes (take to items)) (flat_map kept_bytes (drop to items)),
      length-append front (flat_map kept_bytes items),
    )

-- and no fewer than those before an earlier one
pub len-ordered : (items : List Item) (from to : ℕ) → from ≤ to → length (flat_map kept_bytes (take from items)) ≤ length (flat_map kept_bytes (take to items))
len-ordered items from to order =
    let first = take-take from to items order in
    omega (
      arith,
      ap (λ (l : List Item). length (flat_map kept_bytes l)) first,
      ap (length {A = ℕ}) (bytes-split (take to items) from),
      length-append (flat_map kept_bytes (take from (take to items))) (flat_map kept_bytes (drop from (take to items))),
    )

pub go_len : (front : Text) (old : List Item) (from to : ℕ) → from ≤ to
    → length (file_of front (without_range from to old)) ≡ length (file_of front old) - (length (flat_map kept_bytes (take to old)) - length (flat_map kept_bytes (take from old)))
go_len front old from to order =
    let first : Text = flat_map kept_bytes (take from old) in
    let last : Text = flat_map kept_bytes (drop to old) in
    omega (
      arith,
      ap (length {A = ℕ}) (flat_map-append kept_bytes (take from old) (drop to old)),
      ap (length {A = ℕ}) (bytes-split old to),
      length-append front (flat_map kept_bytes (without_range from to old)),
      length-append front (flat_map kept_bytes old),
      length-append first last,
      length-append (flat_map kept_bytes (take to old)) last,
      len-ordered old from to order,
    )

-- ---- items that are kept, in two parts

-- items that are kept as these two lists
pub record AreParts (a b : List Item) (all : List reading.Item) : Type 0 where
  pub first : List reading.Item
  pub last : List reading.Item
  pub whole : all ≡ first ++ last
  pub first_is : all_stored first ≡ a
  pub last_is : all_stored last ≡ b

pub parts_of : (a b : List Item) (all : List reading.Item) → a ++ b ≡ all_stored all → AreParts a b all
parts_of a b all e = record {
  first = take (length a) all;
  last = drop (length a) all;
  whole = sym (take-append-drop (length a) all);
  first_is = sym (take-map stored (length a) all) ∙ ap (take (length a)) (sym e) ∙ take_at a b (length a) refl;
  last_is = sym (drop-map stored (length a) all) ∙ ap (drop (length a)) (sym e) ∙ drop_at a b (length a) refl;
}

abbrev pub bodies_in : List Item → List Text
bodies_in items = map (λ (i : Item). i.body) items

pub good_first : (xs ys all : List reading.Item) → all ≡ xs ++ ys → All (IsItem name_limit) all → All (IsItem name_limit) xs
good_first xs ys all e good =
    subst (All (IsItem name_limit)) (ap (take (length xs)) e ∙ take_at xs ys (length xs) refl) (All-take (IsItem name_limit) (length xs) all good)

pub good_last : (xs ys all : List reading.Item) → all ≡ xs ++ ys → All (IsItem name_limit) all → All (IsItem name_limit) ys
good_last xs ys all e good =
    subst (All (IsItem name_limit)) (ap (drop (length xs)) e ∙ drop_at xs ys (length xs) refl) (All-drop (IsItem name_limit) (length xs) all good)

long_parts : (a : List Item) (xs : List reading.Item) → all_stored xs ≡ a → length xs ≡ length a
long_parts a xs e = sym (length-stored xs) ∙ ap (length {A = Item}) e

-- tables that say as much follow as well
pub followed_same : (items new : List Item) (t u : Tables) → AreFollowed items t → items ≡ new → ((all : List reading.Item) → AreTablesOf all t → AreTablesOf all u) → AreFollowed new u
followed_same items new t u f e same = record { all = f.all; good = f.good; same = sym e ∙ f.same; tables = same f.all f.tables; texts = f.texts }

-- ---- items with other trails

-- between the same neighbours, with the same bodies
pub followed_alike : (before old new after : List Item) (t : Tables) (news : List reading.Item) → AreFollowed (before ++ (old ++ after)) t → all_stored news ≡ new → All (IsItem name_limit) news
    → bodies_in old ≡ bodies_in new → AreFollowed (before ++ (new ++ after)) t
followed_alike before old new after t news f news_are news_good same =
    let p = parts_of before (old ++ after) f.all f.same in
    let q = parts_of old after p.last (sym p.last_is) in
    let rest_good = good_last p.first p.last f.all p.whole f.good in
    let alike : trees q.first ≡ trees news
    = trees_of q.first news (good_first q.first q.last p.last q.whole rest_good) news_good
    (sym (bodies-stored q.first) ∙ ap bodies_in q.first_is ∙ same ∙ ap bodies_in (sym news_are) ∙ bodies-stored news) in
    let whole : f.all ≡ p.first ++ (q.first ++ q.last) = p.whole ∙ ap (λ (l : List reading.Item). p.first ++ l) q.whole in
    let trees_are : trees f.all ≡ trees (p.first ++ (news ++ q.last)) = ap trees whole ∙ trees_between p.first q.first news q.last alike in
    record {
      all = p.first ++ (news ++ q.last);
      good = All-append (IsItem name_limit) p.first (news ++ q.last) (good_first p.first p.last f.all p.whole f.good) (All-append (IsItem name_limit) news q.last news_good (good_last q.first q.last p.last q.whole rest_good));
      same =
          sym (map-append stored p.first (news ++ q.last)
          ∙ ap₂ (λ (x y : List Item). x ++ y) p.first_is (map-append stored news q.last ∙ ap₂ (λ (x y : List Item). x ++ y) news_are q.last_is));
      tables = tables_alike f.all (p.first ++ (news ++ q.last)) t trees_are f.tables;
      texts = fit_alike 0 0 months f.all (p.first ++ (news ++ q.last)) trees_are f.texts;
    }

-- ---- items that come

-- Items come after these and after the lead, which has the bodies of the first of them: with those it gets their trails.
module _ (before stay after rest : List Item) (new : List reading.Item) (at : ℕ) (t : Tables) (bodies : List Text)
    (f : AreFollowed (before ++ (stay ++ (after ++ rest))) t) (good : All (IsItem name_limit) new) (low : length stay ≤ length new) (long : at ≡ length before + length stay)
    (same : bodies_in stay ≡ bodies_in (take (length stay) (all_stored new))) (bodies_are : bodies ≡ bodies_in (drop (length stay) (all_stored new)))
    (may : (all : List reading.Item) → AreItemsOf bodies all → MayPass t bodies all) (few : length before + (length new + (length after + length rest)) < 2 ^ 64) where
  abbrev lead : ℕ
  lead = length stay

  abbrev p : AreParts before (stay ++ (after ++ rest)) f.all
  p = parts_of before (stay ++ (after ++ rest)) f.all f.same

  abbrev q : AreParts stay (after ++ rest) p.last
  q = parts_of stay (after ++ rest) p.last (sym p.last_is)

  abbrev kept : List reading.Item
  kept = p.first ++ q.first

  abbrev come : List reading.Item
  come = drop lead new

  whole : f.all ≡ kept ++ q.last
  whole = p.whole ∙ ap (λ (l : List reading.Item). p.first ++ l) q.whole ∙ sym (append_assoc p.first q.first q.last)

  long_kept : length kept ≡ at
  long_kept = omega (arith, long, length-append p.first q.first, long_parts before p.first p.first_is, long_parts stay q.first q.first_is)

  come_are : AreItemsOf bodies come
  come_are = record {
    trees = trees_good come (All-drop (IsItem name_limit) lead new good);
    same = sym (bodies_are ∙ ap bodies_in (drop-map stored lead new) ∙ bodies-stored come);
  }

  come_may : MayPass t bodies come
  come_may = may come come_are

  come_fit : at + (length come + length q.last) < 2 ^ 64
  come_fit = omega (arith, few, low, long, length-drop lead new, long_parts (after ++ rest) q.last q.last_is, length-append after rest)

  old_tables : AreTablesOf (kept ++ q.last) t
  old_tables = subst (λ (l : List reading.Item). AreTablesOf l t) whole f.tables

  sees : texts_at t.definitions at ≡ macros_at months kept (length kept)
  sees =
      let inside : at ≤ length kept = omega (arith, long_kept) in
      f.tables.definitions.texts at ∙ ap (λ (l : List reading.Item). macros_at months l at) whole ∙ macros_in_front months kept q.last at inside
      ∙ ap (macros_at months kept) (sym long_kept)

  -- they come without the trails of the lead
  come_beside : (learnt : Tables) → (IsFirm t → IsFirm learnt)
      → ((before new after : List reading.Item) → length before ≡ at → MayPass t bodies new → at + (length new + length after) < 2 ^ 64 → AreTablesOf (before ++ after) t → AreTablesOf (before ++ (new ++ after)) learnt)
      → ((new : List reading.Item) → AreOthersOf bodies new → HaveShortTexts (texts_at t.definitions at) new)
      → AreFollowed (before ++ (stay ++ (all_stored come ++ (after ++ rest)))) learnt
  come_beside learnt firm add_to_tables short =
      let last_good = good_last p.first p.last f.all p.whole f.good in
      let good_all : All (IsItem name_limit) (kept ++ (come ++ q.last)) =
      All-append (IsItem name_limit) kept (come ++ q.last)
      (All-append (IsItem name_limit) p.first q.first (good_first p.first p.last f.all p.whole f.good) (good_first q.first q.last p.last q.whole last_good))
      (All-append (IsItem name_limit) come q.last (All-drop (IsItem name_limit) lead new good) (good_last q.first q.last p.last q.whole last_good)) in
      let tables : AreTablesOf (kept ++ (come ++ q.last)) learnt = add_to_tables kept come q.last long_kept come_may come_fit old_tables in
      record {
        all = kept ++ (come ++ q.last);
        good = good_all;
        same =
            sym (map-append stored kept (come ++ q.last)
            ∙ ap₂ (λ (x y : List Item). x ++ y)
            (map-append stored p.first q.first ∙ ap₂ (λ (x y : List Item). x ++ y) p.first_is q.first_is)
            (map-append stored come q.last ∙ ap (λ (l : List Item). all_stored come ++ l) q.last_is)
            ∙ append_assoc before stay (all_stored come ++ (after ++ rest)));
        tables = tables;
        texts = moved_fits t learnt firm kept [] come q.last (inl tt) come_may.may
            (λ plain. subst (λ (m : Macros). HaveShortTexts m come) sees (short come (record { are = come_are; others = plain }))) good_all tables
            (subst (λ (l : List reading.Item). first_too_long (raw_texts_from 0 months l) ≡ None) whole f.texts);
      }

  pub come_followed : (learnt : Tables) → (IsFirm t → IsFirm learnt)
      → ((before new after : List reading.Item) → length before ≡ at → MayPass t bodies new → at + (length new + length after) < 2 ^ 64 → AreTablesOf (before ++ after) t → AreTablesOf (before ++ (new ++ after)) learnt)
      → ((new : List reading.Item) → AreOthersOf bodies new → HaveShortTexts (texts_at t.definitions at) new)
      → AreFollowed (before ++ (all_stored new ++ (after ++ rest))) learnt
  come_followed learnt firm add_to_tables short =
      let again : List Item = take lead (all_stored new) in
      let parts : again ++ all_stored come ≡ all_stored new
      = ap (λ (l : List Item). again ++ l) (sym (drop-map stored lead new)) ∙ take-append-drop lead (all_stored new) in
      subst (λ (l : List Item). AreFollowed (before ++ l) learnt)
      (sym (append_assoc again (all_stored come) (after ++ rest)) ∙ ap (λ (l : List Item). l ++ (after ++ rest)) parts)
      (followed_alike before stay again (all_stored come ++ (after ++ rest)) learnt (take lead new) (come_beside learnt firm add_to_tables short)
      (sym (take-map stored lead new)) (All-take (IsItem name_limit) lead new good) same)

  -- the tables say what they said
  pub come_back : (back : Tables)
      → ((before new after : List reading.Item) → length before ≡ at → MayPass t bodies new → at + (length new + length after) < 2 ^ 64 → AreTablesOf (before ++ after) t → AreTablesOf (before ++ after) back)
      → AreFollowed (before ++ (stay ++ (after ++ rest))) back
  come_back back same = record {
    all = f.all;
    good = f.good;
    same = f.same;
    tables = subst (λ (l : List reading.Item). AreTablesOf l back) (sym whole) (same kept come q.last long_kept come_may come_fit old_tables);
    texts = f.texts;
  }

-- ---- items that go

pub go_followed : (before gone rest : List Item) (at : ℕ) (t forgot : Tables) (bodies : List Text) → AreFollowed (before ++ (gone ++ rest)) t → length before ≡ at → bodies ≡ bodies_in gone
    → ((all : List reading.Item) → AreItemsOf bodies all → MayPass t bodies all) → at + (length gone + length rest) < 2 ^ 64 → (IsFirm t → IsFirm forgot)
    → ((before gone after : List reading.Item) → length before ≡ at → MayPass t bodies gone → at + (length gone + length after) < 2 ^ 64 → AreTablesOf (before ++ (gone ++ after)) t → AreTablesOf (before ++ after) forgot)
    → AreFollowed (before ++ rest) forgot
go_followed before gone rest at t forgot bodies f long bodies_are may few firm remove_from_tables =
    let p = parts_of before (gone ++ rest) f.all f.same in
    let q = parts_of gone rest p.last (sym p.last_is) in
    let whole : f.all ≡ p.first ++ (q.first ++ q.last) = p.whole ∙ ap (λ (l : List reading.Item). p.first ++ l) q.whole in
    let last_good = good_last p.first p.last f.all p.whole f.good in
    let pass : MayPass t bodies q.first = may q.first (record {
      trees = trees_good q.first (good_first q.first q.last p.last q.whole last_good);
      same = sym (bodies_are ∙ ap bodies_in (sym q.first_is) ∙ bodies-stored q.first);
    }) in
    let good : All (IsItem name_limit) (p.first ++ q.last)
    = All-append (IsItem name_limit) p.first q.last (good_first p.first p.last f.all p.whole f.good) (good_last q.first q.last p.last q.whole last_good) in
    let tables : AreTablesOf (p.first ++ q.last) forgot
    = remove_from_tables p.first q.first q.last (long_parts before p.first p.first_is ∙ long) pass
    (omega (arith, few, long_parts gone q.first q.first_is, long_parts rest q.last q.last_is)) (subst (λ (l : List reading.Item). AreTablesOf l t) whole f.tables) in
    record {
      all = p.first ++ q.last;
      good = good;
      same = sym (map-append stored p.first q.last ∙ ap₂ (λ (x y : List Item). x ++ y) p.first_is q.last_is);
      tables = tables;
      texts = moved_fits t forgot firm p.first q.first [] q.last pass.may (inl tt) (λ plain. tt) good tables
          (subst (λ (l : List reading.Item). first_too_long (raw_texts_from 0 months l) ≡ None) whole f.texts);
    }
