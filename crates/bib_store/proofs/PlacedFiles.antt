-- The list and the file of a change whose items each replace one of its window.
use Rattle.bib_store.proofs.Words.{◌≡◌, ℕ, ◌+◌, ◌-◌, ◌≤◌, ◌<◌, List, [], ◌∷◌, ◌++◌, length, map, take, drop, set, Some, None, refl, sym, subst, ◌∙◌, ap, ap₂, arith, take-append-drop, between, take-map, drop-map, drop-drop, All-take, All-drop, name_limit, Text, tree_bytes, Reading, Reads, IsItem}
use Rattle.bib_store.proofs.Words.{months, raw_texts_from, too_long_at, IsLayoutOf, one_reading, item, stored, all_stored, Change, Tables, AreTables, AreTablesOf, bodies_between, AreItemsOf, TakePlaces, first_too_long, IsWindow, OfJoined, exchanged, joined}
use Rattle.std.proofs.Common.{slice_get, All}
use Rattle.std.proofs.lemmas.List.{take-set, drop-set, length-take-le}
use Rattle.bib_spec.specs.Reading as reading
use Rattle.bib_scan.specs.Layout.{places_of}
use Rattle.bib_scan.proofs.LayoutLaws.{length-places}
use Rattle.bib_items.specs.declared.list.Item.{Item}
use Rattle.bib_store.proofs.Appended.{fit_alike}
use Rattle.bib_store.proofs.FollowedFiles.{bodies-stored}
use Rattle.bib_store.proofs.KeptItems.{count_kept, trees_good}
use Rattle.bib_store.proofs.KeptRuns.{bodies_in}
use Rattle.bib_store.proofs.WalkedFiles.{with_len}

-- ---- the list

pub only_one : {X : Type 0} (xs : List X) → length xs ≡ 1 → (x : X) × (xs ≡ x ∷ [])
only_one [] h = absurd (omega (arith, h))
only_one (x ∷ []) h = (x, refl)
only_one (x ∷ y ∷ xs) h = absurd (omega (arith, h))

-- the reading of a change's text has as many items as its layout
pub counted_in : (c : Change) → IsLayoutOf c.text c.layout → (inner : Reading) → Reads c.text inner → length inner.items ≡ length c.layout.items
counted_in c is inner reads = sym (length-places inner) ∙ ap (λ p. length p.items) (sym (is.2 ∙ ap places_of (one_reading name_limit c.text is.0 inner is.1 reads)))

coming_item : (c : Change) → IsLayoutOf c.text c.layout → length c.layout.items ≡ 1 → (inner : Reading) → Reads c.text inner → (i : reading.Item) × (inner.items ≡ i ∷ [])
coming_item c is one inner reads = only_one inner.items (counted_in c is inner reads ∙ one)

-- the one item of a change in the place of the one in its window
pub one_exchanged : (c : Change) (items new : List Item) (body trail : Text) → IsWindow items c.window → IsLayoutOf c.text c.layout → c.window.to ≡ c.window.from + 1 → length c.layout.items ≡ 1
    → ((db : Reading) (i : reading.Item) → Reads c.text db → slice_get db.items 0 ≡ Some i → body ≡ tree_bytes i.tree)
    → ((db : Reading) (i : reading.Item) → Reads c.text db → slice_get db.items 0 ≡ Some i → trail ≡ i.trail)
    → new ≡ set items c.window.from (item body trail) → (inner : Reading) → Reads c.text inner → new ≡ exchanged c.window inner.items items
one_exchanged c items new body trail is layout goes comes body_is trail_is new_is inner reads =
    let n : ℕ = c.window.from in
    let within : c.window.to ≤ length items = is.within in
    let low : n < length items = omega (arith, within, goes) in
    let it = coming_item c layout comes inner reads in
    let at : slice_get inner.items 0 ≡ Some it.0 = ap (λ (l : List reading.Item). slice_get l 0) it.1 in
    let same : item body trail ≡ stored it.0 = ap₂ (λ (b t : Text). item b t) (body_is inner it.0 reads at) (trail_is inner it.0 reads at) in
    new_is
    ∙ sym (take-append-drop n (set items n (item body trail)))
    ∙ ap₂ (λ (a b : List Item). a ++ b) (take-set items n (item body trail)) (drop-set items n (item body trail) low ∙ ap₂ (λ (x : Item) (k : ℕ). x ∷ drop k items) same (sym goes))
    ∙ ap (λ (l : List reading.Item). take n items ++ (all_stored l ++ drop c.window.to items)) (sym it.1)

-- ---- the file

module _ (c : Change) (old : List Item) (is : IsWindow old c.window) where
  abbrev from : ℕ
  from = c.window.from

  abbrev to : ℕ
  to = c.window.to

  gone_bodies : (db : Reading) → old ≡ all_stored db.items → map (λ (i : reading.Item). tree_bytes i.tree) (between from to db.items) ≡ bodies_between from to old
  gone_bodies db kept =
      let same : between from to old ≡ all_stored (between from to db.items)
      = ap (between from to) kept ∙ ap (take (to - from)) (drop-map stored from db.items) ∙ take-map stored (to - from) (drop from db.items) in
      sym (bodies-stored (between from to db.items)) ∙ ap bodies_in (sym same)

  -- the tables that the items leave are those of the file, in which no raw text is too long
  pub placed_file : (t new : Tables) → ((inner : Reading) → Reads c.text inner → TakePlaces from (bodies_between from to old) inner.items t new)
      → (front_len : ℕ) → OfJoined c front_len old t (λ db. AreTables db (record { file_len = c.file_len; entries = new.entries; preambles = new.preambles; named = new.named; definitions = new.definitions; bounds = new.bounds }) × (too_long_at db ≡ None))
  placed_file t new placed front_len front db inner k reads has =
      let before : List reading.Item = take from db.items in
      let gone : List reading.Item = between from to db.items in
      let after : List reading.Item = drop to db.items in
      let order = is.ordered in
      let within = is.within in
      let whole : from + (to - from) ≡ to = omega (arith, order) in
      let long : length before ≡ from = length-take-le from db.items (omega (arith, order, within, count_kept db front old t k)) in
      let parts : db.items ≡ before ++ (gone ++ after)
      = sym (take-append-drop from db.items)
      ∙ ap (λ (l : List reading.Item). before ++ l)
      (sym (take-append-drop (to - from) (drop from db.items)) ∙ ap (λ (l : List reading.Item). gone ++ l) (drop-drop (to - from) from db.items ∙ ap (λ (n : ℕ). drop n db.items) whole)) in
      let gone_items : AreItemsOf (bodies_between from to old) gone
      = record { trees = trees_good gone (All-take (IsItem name_limit) (to - from) (drop from db.items) (All-drop (IsItem name_limit) from db.items k.opens.reads.items)); same = gone_bodies db k.items } in
      let takes = placed inner reads in
      let old_tables : AreTablesOf (before ++ (gone ++ after)) t = subst (λ (l : List reading.Item). AreTablesOf l t) parts k.tables in
      let old_fits : first_too_long (raw_texts_from 0 months (before ++ (gone ++ after))) ≡ None
      = subst (λ (l : List reading.Item). first_too_long (raw_texts_from 0 months l) ≡ None) parts (fit_alike (length db.front) 0 months db.items db.items refl k.opens.texts) in
      let all : List reading.Item = (joined c.window db inner).items in (
        with_len all new c.file_len (takes.tables before gone after long gone_items old_tables),
        fit_alike 0 (length (joined c.window db inner).front) months all all refl
            (takes.texts before gone after long gone_items old_tables (subst (All (IsItem name_limit)) parts k.opens.reads.items) old_fits),
      )
