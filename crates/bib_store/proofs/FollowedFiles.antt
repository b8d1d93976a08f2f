-- The file of a change whose items come and go: its tables, and its raw texts.
use Rattle.bib_store.proofs.Words.{◌≡◌, ◌≢◌, ◌⊎◌, ⊎_elim, inl, inr, ℕ, ◌+◌, ◌-◌, ◌≤◌, ◌<◌, ◌^◌, List, [], ◌∷◌, ◌++◌, length, map, take, drop, None, sym, subst, ◌∙◌, ap, ap₂, refl, arith, append_assoc, length-append, take-append-drop, AllByRecursion, flat_map, option_or, map-append, length-map}
use Rattle.bib_store.proofs.Words.{take-map, drop-map, drop_at, drop-drop, All-take, All-drop, name_limit, Text, Tree, IsTree, CommentTree, DefinitionTree, PreambleTree, EntryTree, tree_bytes, Reading, Reads, IsItem, item_bytes, Macros, months, macros_after, macros_at, raw_texts_from, too_long_at}
use Rattle.bib_store.proofs.Words.{kind_of, stored, all_stored, Change, Tables, texts_at, IsFirm, first_too_long, AreTablesOf, IsKeptAs, IsLead, ArePut, joined, bodies_between, AreOthersOf, DefineNothing, HaveShortTexts, MayPass, MayPassBetween, macros_in_front}
use Rattle.std.specs.List.{All}
use Rattle.std.proofs.lemmas.List.{length-take-le, length-drop}
use Rattle.bib_spec.specs.Reading as reading
use Rattle.bib_scan.specs.declared.view.Kind.TheVariants as kind
use Rattle.bib_items.specs.declared.list.Item.{Item}
use Rattle.bib_store.proofs.FirmTables.{firm_short}
use Rattle.bib_store.proofs.KeptItems.{count_kept, trees_good}
use Rattle.bib_store.proofs.OneItemMore.{raw_texts-append, first-append}
use Rattle.bib_store.proofs.Placed.{none_both, fit_parts, fit_joined}
use Rattle.bib_store.proofs.Appended.{trees, trees_of, trees_between, tables_alike, fit_alike}

-- ---- items

others_split : (xs ys : List reading.Item) → DefineNothing (xs ++ ys) → (DefineNothing xs) × (DefineNothing ys)
others_split [] ys all = (tt, all)
others_split (x ∷ xs) ys all = let rest = others_split xs ys all.1 in ((all.0, rest.0), rest.1)

both_good : (xs ys : List reading.Item) → AllByRecursion (λ i. IsTree name_limit i.tree) xs → AllByRecursion (λ i. IsTree name_limit i.tree) ys → AllByRecursion (λ i. IsTree name_limit i.tree) (xs ++ ys)
both_good [] ys a b = b
both_good (x ∷ xs) ys a b = (a.0, both_good xs ys a.1 b)

-- what macros stand for after items that define nothing
plain_after : (m : Macros) (tree : Tree) → kind_of tree ≢ kind.Macro → macros_after m tree ≡ m
plain_after m (CommentTree h) other = refl
plain_after m (PreambleTree p) other = refl
plain_after m (EntryTree e) other = refl
plain_after m (DefinitionTree d) other = absurd (other refl)

macros_kept : (m : Macros) (xs : List reading.Item) → DefineNothing xs → macros_at m xs (length xs) ≡ m
macros_kept m [] all = refl
macros_kept m (x ∷ xs) all = ap (λ (n : Macros). macros_at n xs (length xs)) (plain_after m x.tree all.0) ∙ macros_kept m xs all.1

-- ---- the bodies of a stretch

pub bodies-stored : (items : List reading.Item) → map (λ (i : Item). i.body) (all_stored items) ≡ map (λ (i : reading.Item). tree_bytes i.tree) items
bodies-stored [] = refl
bodies-stored (i ∷ items) = ap (λ (l : List Text). tree_bytes i.tree ∷ l) (bodies-stored items)

taken_front : {X : Type 0} (a b : List X) → take (length a) (a ++ b) ≡ a
taken_front [] b = refl
taken_front {X} (x ∷ a) b = ap (λ (l : List X). x ∷ l) (taken_front a b)

dropped_front : {X : Type 0} (a b : List X) → drop (length a) (a ++ b) ≡ b
dropped_front [] b = refl
dropped_front (x ∷ a) b = dropped_front a b

-- those that stand between two numbers
pub stretch : (a b c : List Item) (from to : ℕ) → from ≡ length a → to ≡ length a + length b → bodies_between from to (a ++ (b ++ c)) ≡ map (λ (i : Item). i.body) b
stretch a b c from to low high =
    let size : to - from ≡ length b = omega (arith, low, high) in
    ap₂ (λ (n m : ℕ). map (λ (i : Item). i.body) (take n (drop m (a ++ (b ++ c))))) size low
    ∙ ap (λ (l : List Item). map (λ (i : Item). i.body) (take (length b) l)) (dropped_front a (b ++ c))
    ∙ ap (map (λ (i : Item). i.body)) (taken_front b c)

-- ---- raw texts

shorts_joined : (at : ℕ) (m : Macros) (new after : List reading.Item) → DefineNothing new → HaveShortTexts m new → ((there : ℕ) → first_too_long (raw_texts_from there m after) ≡ None)
    → first_too_long (raw_texts_from at m (new ++ after)) ≡ None
shorts_joined at m [] after plain short rest = rest at
shorts_joined at m (i ∷ new) after plain short rest =
    fit_joined at m i (new ++ after) short.0
    (subst (λ (n : Macros). first_too_long (raw_texts_from (at + length (item_bytes i)) n (new ++ after)) ≡ None) (sym (plain_after m i.tree plain.0))
    (shorts_joined (at + length (item_bytes i)) m new after plain.1 short.1 rest))

shorts_of : (at : ℕ) (m : Macros) (new after : List reading.Item) → DefineNothing new → first_too_long (raw_texts_from at m (new ++ after)) ≡ None → HaveShortTexts m new
shorts_of at m [] after plain fits = tt
shorts_of at m (i ∷ new) after plain fits =
    let parts = fit_parts at m i (new ++ after) fits in (
      parts.0,
      shorts_of (at + length (item_bytes i)) m new after plain.1
          (subst (λ (n : Macros). first_too_long (raw_texts_from (at + length (item_bytes i)) n (new ++ after)) ≡ None) (plain_after m i.tree plain.0) parts.1),
    )

parts_fit : (at : ℕ) (before rest : List reading.Item) → first_too_long (raw_texts_from at months (before ++ rest)) ≡ None
    → (first_too_long (raw_texts_from at months before) ≡ None) × (first_too_long (raw_texts_from (at + length (flat_map item_bytes before)) (macros_at months before (length before)) rest) ≡ None)
parts_fit at before rest fits =
    none_both (first_too_long (raw_texts_from at months before)) (first_too_long (raw_texts_from (at + length (flat_map item_bytes before)) (macros_at months before (length before)) rest))
    (sym (first-append (raw_texts_from at months before) (raw_texts_from (at + length (flat_map item_bytes before)) (macros_at months before (length before)) rest))
    ∙ sym (ap first_too_long (raw_texts-append at months before rest)) ∙ fits)

gone_fit : (at : ℕ) (m : Macros) (gone after : List reading.Item) → DefineNothing gone → first_too_long (raw_texts_from at m (gone ++ after)) ≡ None → (there : ℕ) → first_too_long (raw_texts_from there m after) ≡ None
gone_fit at m [] after plain fits there = fit_alike at there m after after refl fits
gone_fit at m (i ∷ gone) after plain fits there =
    gone_fit (at + length (item_bytes i)) m gone after plain.1
    (subst (λ (n : Macros). first_too_long (raw_texts_from (at + length (item_bytes i)) n (gone ++ after)) ≡ None) (plain_after m i.tree plain.0) (fit_parts at m i (gone ++ after) fits).1) there

pub exchanged_fits : (at there : ℕ) (before gone new after : List reading.Item) → DefineNothing gone → DefineNothing new → HaveShortTexts (macros_at months before (length before)) new
    → first_too_long (raw_texts_from at months (before ++ (gone ++ after))) ≡ None → first_too_long (raw_texts_from there months (before ++ (new ++ after))) ≡ None
exchanged_fits at there before gone new after old_plain new_plain short fits =
    let parts = parts_fit at before (gone ++ after) fits in
    let here = macros_at months before (length before) in
    let start : ℕ = there + length (flat_map item_bytes before) in
    ap first_too_long (raw_texts-append there months before (new ++ after))
    ∙ first-append (raw_texts_from there months before) (raw_texts_from start here (new ++ after))
    ∙ ap₂ option_or (fit_alike at there months before before refl parts.0)
    (shorts_joined start here new after new_plain short (gone_fit (at + length (flat_map item_bytes before)) here gone after old_plain parts.1))

exchanged_shorts : (there : ℕ) (before new after : List reading.Item) → DefineNothing new → first_too_long (raw_texts_from there months (before ++ (new ++ after))) ≡ None
    → HaveShortTexts (macros_at months before (length before)) new
exchanged_shorts there before new after plain fits =
    shorts_of (there + length (flat_map item_bytes before)) (macros_at months before (length before)) new after plain (parts_fit there before (new ++ after) fits).1

-- items that may come and go
pub moved_fits : (t u : Tables) → (IsFirm t → IsFirm u) → (before gone new after : List reading.Item) → DefineNothing gone ⊎ IsFirm t → DefineNothing new ⊎ IsFirm t
    → (DefineNothing new → HaveShortTexts (macros_at months before (length before)) new)
    → All (IsItem name_limit) (before ++ (new ++ after)) → AreTablesOf (before ++ (new ++ after)) u
    → first_too_long (raw_texts_from 0 months (before ++ (gone ++ after))) ≡ None → first_too_long (raw_texts_from 0 months (before ++ (new ++ after))) ≡ None
moved_fits t u firm before gone new after go come short good tables fits =
    let firmly = λ (f : IsFirm t). firm_short u (firm f) (before ++ (new ++ after)) good tables in
    ⊎_elim (λ old_plain. ⊎_elim (λ new_plain. exchanged_fits 0 0 before gone new after old_plain new_plain (short new_plain) fits) firmly come) firmly go

-- what may pass in tables may pass in those that are firm if the first are
pub still_pass : (t u : Tables) (bodies : List Text) (items : List reading.Item) → (IsFirm t → IsFirm u) → MayPass t bodies items → MayPass u bodies items
still_pass t u bodies items firm pass = record { are = pass.are; may = ⊎_elim (λ p. inl p) (λ f. inr (firm f)) pass.may }

pub still_between : (t u : Tables) (from to : ℕ) (items again : List Item) → (IsFirm t → IsFirm u) → again ≡ items → MayPassBetween t from to items → MayPassBetween u from to again
still_between t u from to items again firm same pass =
    subst (MayPassBetween u from to) (sym same) (λ all are. still_pass t u (bodies_between from to items) all firm (pass all are))

-- ---- a list in parts

-- a list is its first `from` elements, `many` after them, those up to number `to`, and the rest
pub four_parts : {X : Type 0} (from many to : ℕ) (xs : List X) → from + many ≤ to → xs ≡ take from xs ++ (take many (drop from xs) ++ (take (to - (from + many)) (drop (from + many) xs) ++ drop to xs))
four_parts {X} from many to xs order =
    let sum : from + many + (to - (from + many)) ≡ to = omega (arith, order) in
    let last : drop (from + many) xs ≡ take (to - (from + many)) (drop (from + many) xs) ++ drop to xs
    = sym (take-append-drop (to - (from + many)) (drop (from + many) xs))
    ∙ ap (λ (l : List X). take (to - (from + many)) (drop (from + many) xs) ++ l) (drop-drop (to - (from + many)) (from + many) xs ∙ ap (λ (n : ℕ). drop n xs) sum) in
    sym (take-append-drop from xs)
    ∙ ap (λ (l : List X). take from xs ++ l)
    (sym (take-append-drop many (drop from xs)) ∙ ap (λ (l : List X). take many (drop from xs) ++ l) (drop-drop many from xs ∙ last))

-- ---- a change

module _ (c : Change) (old now : List Item) (count lead : ℕ) (put : ArePut c old now count) (front : Text) (db inner : Reading) (t : Tables) (k : IsKeptAs db front old t) (reads : Reads c.text inner)
    (few : length now < 2 ^ 64) (is : IsLead c.window count lead now)
    (come_may : MayPassBetween t (c.window.from + lead) (c.window.from + count) now) (gone_may : MayPassBetween t (c.window.from + count + lead) (c.window.to + count) now) where
  abbrev from : ℕ
  from = c.window.from

  abbrev to : ℕ
  to = c.window.to

  abbrev before : List reading.Item
  before = take from db.items

  -- those that stay, as they were
  abbrev stay : List reading.Item
  stay = take lead (drop from db.items)

  abbrev gone : List reading.Item
  gone = take (to - (from + lead)) (drop (from + lead) db.items)

  abbrev after : List reading.Item
  after = drop to db.items

  -- those that stay, with their new trails
  abbrev again : List reading.Item
  again = take lead inner.items

  abbrev come : List reading.Item
  come = drop lead inner.items

  abbrev kept : List reading.Item
  kept = before ++ stay

  size : length old ≡ length db.items
  size = count_kept db front old t k

  within : to ≤ length db.items
  within = let w = put.window.within in omega (arith, w, size)

  order : from + lead ≤ to
  order = is.go

  counted : count ≡ length inner.items
  counted = put.counted inner reads

  long_before : length before ≡ from
  long_before = length-take-le from db.items (omega (arith, order, within))

  long_stay : length stay ≡ lead
  long_stay = length-take-le lead (drop from db.items) (omega (arith, order, within, length-drop from db.items))

  long_kept : length kept ≡ from + lead
  long_kept = omega (arith, long_before, long_stay, length-append before stay)

  long_gone : length gone ≡ to - (from + lead)
  long_gone = length-take-le (to - (from + lead)) (drop (from + lead) db.items) (omega (arith, order, within, length-drop (from + lead) db.items))

  long_again : length again ≡ lead
  long_again = let low = is.come in length-take-le lead inner.items (omega (arith, low, counted))

  long_come : length come ≡ count - lead
  long_come = omega (arith, counted, length-drop lead inner.items)

  old_parts : db.items ≡ before ++ (stay ++ (gone ++ after))
  old_parts = four_parts from lead to db.items order

  kept_parts : db.items ≡ kept ++ (gone ++ after)
  kept_parts = old_parts ∙ sym (append_assoc before stay (gone ++ after))

  new_parts : inner.items ≡ again ++ come
  new_parts = sym (take-append-drop lead inner.items)

  stored_old : drop from old ≡ all_stored stay ++ (all_stored gone ++ all_stored after)
  stored_old =
      ap (drop from) k.items ∙ drop-map stored from db.items
      ∙ ap all_stored (ap (drop from) old_parts ∙ drop_at before (stay ++ (gone ++ after)) from long_before)
      ∙ map-append stored stay (gone ++ after)
      ∙ ap (λ (l : List Item). all_stored stay ++ l) (map-append stored gone after)

  stored_new : all_stored inner.items ≡ all_stored again ++ all_stored come
  stored_new = ap all_stored new_parts ∙ map-append stored again come

  now_parts : now ≡ all_stored before ++ ((all_stored again ++ all_stored come) ++ (all_stored stay ++ (all_stored gone ++ all_stored after)))
  now_parts =
      put.put inner reads
      ∙ ap₂ (λ (a b : List Item). a ++ b) (ap (take from) k.items ∙ take-map stored from db.items)
      (ap₂ (λ (a b : List Item). a ++ b) stored_new stored_old)

  -- ---- bodies

  stretch_of : (a b d : List reading.Item) (from to : ℕ) → now ≡ all_stored a ++ (all_stored b ++ all_stored d) → from ≡ length a → to ≡ length a + length b
      → bodies_between from to now ≡ map (λ (i : reading.Item). tree_bytes i.tree) b
  stretch_of a b d from to parts low high =
      ap (bodies_between from to) parts
      ∙ stretch (all_stored a) (all_stored b) (all_stored d) from to (low ∙ sym (length-map a stored)) (omega (arith, high, length-map a stored, length-map b stored))
      ∙ bodies-stored b

  all_parts : now ≡ all_stored (before ++ (again ++ (come ++ (stay ++ (gone ++ after)))))
  all_parts =
      now_parts
      ∙ sym (map-append stored before (again ++ (come ++ (stay ++ (gone ++ after))))
      ∙ ap (λ (l : List Item). all_stored before ++ l)
      (map-append stored again (come ++ (stay ++ (gone ++ after)))
      ∙ ap (λ (l : List Item). all_stored again ++ l)
      (map-append stored come (stay ++ (gone ++ after))
      ∙ ap (λ (l : List Item). all_stored come ++ l) (map-append stored stay (gone ++ after) ∙ ap (λ (l : List Item). all_stored stay ++ l) (map-append stored gone after)))
      ∙ sym (append_assoc (all_stored again) (all_stored come) (all_stored stay ++ (all_stored gone ++ all_stored after)))))

  -- the items of the list in three parts
  parted : (a b d : List reading.Item) → before ++ (again ++ (come ++ (stay ++ (gone ++ after)))) ≡ a ++ (b ++ d) → now ≡ all_stored a ++ (all_stored b ++ all_stored d)
  parted a b d e = all_parts ∙ ap all_stored e ∙ map-append stored a (b ++ d) ∙ ap (λ (l : List Item). all_stored a ++ l) (map-append stored b d)

  again_bodies : bodies_between from (from + lead) now ≡ map (λ (i : reading.Item). tree_bytes i.tree) again
  again_bodies = stretch_of before again (come ++ (stay ++ (gone ++ after))) from (from + lead) (parted before again (come ++ (stay ++ (gone ++ after))) refl)
      (sym long_before) (omega (arith, long_before, long_again))

  come_bodies : bodies_between (from + lead) (from + count) now ≡ map (λ (i : reading.Item). tree_bytes i.tree) come
  come_bodies =
      let low = is.come in
      stretch_of (before ++ again) come (stay ++ (gone ++ after)) (from + lead) (from + count)
      (parted (before ++ again) come (stay ++ (gone ++ after)) (sym (append_assoc before again (come ++ (stay ++ (gone ++ after))))))
      (omega (arith, long_before, long_again, length-append before again)) (omega (arith, low, long_before, long_again, long_come, length-append before again))

  stay_bodies : bodies_between (from + count) (from + count + lead) now ≡ map (λ (i : reading.Item). tree_bytes i.tree) stay
  stay_bodies =
      let low = is.come in
      stretch_of (before ++ (again ++ come)) stay (gone ++ after) (from + count) (from + count + lead)
      (parted (before ++ (again ++ come)) stay (gone ++ after) (simp append_assoc))
      (omega (arith, low, long_before, long_again, long_come, length-append before (again ++ come), length-append again come))
      (omega (arith, low, long_before, long_again, long_come, long_stay, length-append before (again ++ come), length-append again come))

  gone_bodies : bodies_between (from + count + lead) (to + count) now ≡ map (λ (i : reading.Item). tree_bytes i.tree) gone
  gone_bodies =
      let low = is.come in
      let o = order in
      stretch_of (before ++ (again ++ (come ++ stay))) gone after (from + count + lead) (to + count)
      (parted (before ++ (again ++ (come ++ stay))) gone after (simp append_assoc))
      (omega (arith, low, long_before, long_again, long_come, long_stay, length-append before (again ++ (come ++ stay)), length-append again (come ++ stay), length-append come stay))
      (omega (arith, low, o, long_before, long_again, long_come, long_stay, long_gone, length-append before (again ++ (come ++ stay)), length-append again (come ++ stay), length-append come stay))

  good_db : (many at : ℕ) → All (IsItem name_limit) (take many (drop at db.items))
  good_db many at = All-take (IsItem name_limit) many (drop at db.items) (All-drop (IsItem name_limit) at db.items k.opens.reads.items)

  -- those that stay have the trees that they had
  same_trees : trees stay ≡ trees again
  same_trees =
      trees_of stay again (good_db lead from) (All-take (IsItem name_limit) lead inner.items reads.items) (sym stay_bodies ∙ sym is.same ∙ again_bodies)

  -- the file's items, except for the trails of those that stay
  same_file : trees (kept ++ (come ++ after)) ≡ trees (before ++ (inner.items ++ after))
  same_file =
      ap trees (append_assoc before stay (come ++ after))
      ∙ trees_between before stay again (come ++ after) same_trees
      ∙ ap (λ (l : List reading.Item). trees (before ++ l)) (sym (append_assoc again come after) ∙ ap (λ (l : List reading.Item). l ++ after) (sym new_parts))

  come_here : MayPass t (bodies_between (from + lead) (from + count) now) come
  come_here = come_may come (record { trees = trees_good come (All-drop (IsItem name_limit) lead inner.items reads.items); same = sym come_bodies })

  gone_here : MayPass t (bodies_between (from + count + lead) (to + count) now) gone
  gone_here = gone_may gone (record { trees = trees_good gone (good_db (to - (from + lead)) (from + lead)); same = sym gone_bodies })

  -- ---- numbers

  -- the count of all items is less than 2^64
  all_fit : from + lead + (length come + length (gone ++ after)) < 2 ^ 64
  all_fit =
      let all = ap (length {A = Item}) now_parts in
      omega (
        arith,
        few,
        all,
        length-append (all_stored before) ((all_stored again ++ all_stored come) ++ (all_stored stay ++ (all_stored gone ++ all_stored after))),
        length-append (all_stored again ++ all_stored come) (all_stored stay ++ (all_stored gone ++ all_stored after)),
        length-append (all_stored again) (all_stored come),
        length-append (all_stored stay) (all_stored gone ++ all_stored after),
        length-append (all_stored gone) (all_stored after),
        length-map before stored,
        length-map again stored,
        length-map come stored,
        length-map stay stored,
        length-map gone stored,
        length-map after stored,
        length-append gone after,
        long_before,
        long_again,
      )

  rest_fit : from + count + (length gone + length after) < 2 ^ 64
  rest_fit = let all = all_fit in let low = is.come in omega (arith, all, low, long_come, length-append gone after)

  sees : texts_at t.definitions (from + lead) ≡ macros_at months kept (length kept)
  sees =
      let low : from + lead ≤ length kept = omega (arith, long_kept) in
      k.tables.definitions.texts (from + lead) ∙ ap (λ (l : List reading.Item). macros_at months l (from + lead)) kept_parts ∙ macros_in_front months kept (gone ++ after) (from + lead) low
      ∙ ap (macros_at months kept) (sym long_kept)

  old_tables : AreTablesOf (kept ++ (gone ++ after)) t
  old_tables = subst (λ (l : List reading.Item). AreTablesOf l t) kept_parts k.tables

  -- ---- what is said then

  pub followed_tables : (learnt forgot : Tables) → (IsFirm t → IsFirm learnt)
      → ((before new after : List reading.Item) → length before ≡ from + lead → MayPass t (bodies_between (from + lead) (from + count) now) new → from + lead + (length new + length after) < 2 ^ 64 →
      AreTablesOf (before ++ after) t → AreTablesOf (before ++ (new ++ after)) learnt)
      → ((before gone after : List reading.Item) → length before ≡ from + count → MayPass learnt (bodies_between (from + count + lead) (to + count) now) gone → from + count + (length gone + length after) < 2 ^ 64 →
      AreTablesOf (before ++ (gone ++ after)) learnt → AreTablesOf (before ++ after) forgot)
      → AreTablesOf (before ++ (inner.items ++ after)) forgot
  followed_tables learnt forgot firm add_to_tables remove_from_tables =
      let low = is.come in
      let first = add_to_tables kept come (gone ++ after) long_kept come_here all_fit old_tables in
      let far : length (kept ++ come) ≡ from + count = omega (arith, low, length-append kept come, long_kept, long_come) in
      let second = remove_from_tables (kept ++ come) gone after far (still_pass t learnt _ gone firm gone_here) rest_fit (subst (λ (l : List reading.Item). AreTablesOf l learnt) (sym (append_assoc kept come (gone ++ after))) first) in
      tables_alike (kept ++ (come ++ after)) (before ++ (inner.items ++ after)) forgot same_file (subst (λ (l : List reading.Item). AreTablesOf l forgot) (append_assoc kept come after) second)

  pub followed_fits : (forgot : Tables) → (IsFirm t → IsFirm forgot) → All (IsItem name_limit) (before ++ (inner.items ++ after)) → AreTablesOf (before ++ (inner.items ++ after)) forgot
      → ((new : List reading.Item) → AreOthersOf (bodies_between (from + lead) (from + count) now) new → HaveShortTexts (texts_at t.definitions (from + lead)) new)
      → too_long_at (joined c.window db inner) ≡ None
  followed_fits forgot firm good tables short =
      let there = length (joined c.window db inner).front in
      let whole = before ++ (inner.items ++ after) in
      let plain : DefineNothing gone → DefineNothing come → too_long_at (joined c.window db inner) ≡ None
      = λ old_plain new_plain. fit_alike there there months (kept ++ (come ++ after)) whole same_file
      (exchanged_fits (length db.front) there kept gone come after old_plain new_plain
      (subst (λ (m : Macros). HaveShortTexts m come) sees (short come (record { are = come_here.are; others = new_plain })))
      (subst (λ (l : List reading.Item). first_too_long (raw_texts_from (length db.front) months l) ≡ None) kept_parts k.opens.texts)) in
      let firmly : IsFirm t → too_long_at (joined c.window db inner) ≡ None
      = λ f. fit_alike 0 there months whole whole refl (firm_short forgot (firm f) whole good tables) in
      ⊎_elim (λ old_plain. ⊎_elim (plain old_plain) firmly come_here.may) firmly gone_here.may

  pub followed_refused : (IsFirm t → ⊥) → ((new : List reading.Item) → AreOthersOf (bodies_between (from + lead) (from + count) now) new → HaveShortTexts (texts_at t.definitions (from + lead)) new → ⊥)
      → too_long_at (joined c.window db inner) ≡ None → ⊥
  followed_refused loose over fits =
      let there = length (joined c.window db inner).front in
      let plain : DefineNothing come = ⊎_elim (λ p. p) (λ f. absurd (loose f)) come_here.may in
      over come (record { are = come_here.are; others = plain })
      (subst (λ (m : Macros). HaveShortTexts m come) (sym sees)
      (exchanged_shorts there kept come after plain (fit_alike there there months (before ++ (inner.items ++ after)) (kept ++ (come ++ after)) (sym same_file) fits)))

  pub followed_back : (back : Tables)
      → ((before new after : List reading.Item) → length before ≡ from + lead → MayPass t (bodies_between (from + lead) (from + count) now) new → from + lead + (length new + length after) < 2 ^ 64 →
      AreTablesOf (before ++ after) t → AreTablesOf (before ++ after) back)
      → AreTablesOf db.items back
  followed_back back same =
      subst (λ (l : List reading.Item). AreTablesOf l back) (sym kept_parts) (same kept come (gone ++ after) long_kept come_here all_fit old_tables)
