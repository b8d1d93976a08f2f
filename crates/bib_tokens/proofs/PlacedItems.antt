-- The parts of the items of a file that opens, with their places.
use Rattle.bib_tokens.proofs.Words.{◌≡◌, ℕ, ◌+◌, ◌<◌, ◌≤◌, nat_lt, ◌==◌, ⊎_elim, not, Bool, List, [], ◌++◌, Some, slice_get, length, take, drop, refl, sym, ◌∙◌, ap, subst, arith, append_assoc, append-nil, flat_map, cases_Bool, ltb-false, drop_all, take-append-drop, flat_map-append, name_limit, Text}
use Rattle.bib_tokens.proofs.Words.{Part, tree_bytes, item_in, IsItem, Item, Reading, item_bytes, Reads, any_part, View, Field, view_of, start_of, OfReading, tree_placed, items_placed, tokens_of, ArePlacedFields, AreFieldTokens}
use Rattle.std.proofs.Common.{length-append}
use Rattle.std.proofs.lemmas.Bool.{false_from_ne_true, eqb-true, eq-eqb, ltb-true}
use Rattle.bib_spec.specs.Texts.{IsOpenable}
use Rattle.bib_scan.proofs.ReadingLaws.{start_more}
use Rattle.bib_store.specs.Readings.{IsItemNumber}
use Rattle.bib_tokens.proofs.PlacedFields.{tokens-append, fields-tokens, fields-within, tree-has}
use Rattle.bib_tokens.proofs.Elements.{slice_get-within, drop-next}

-- an item ends where the next begins, in the file
pub item-ends : (file : Text) (db : Reading) (n : ℕ) (item : Item) → Reads file db → slice_get db.items n ≡ Some item → start_of db n + length (item_bytes item) ≤ length file
item-ends file db n item reads at =
    let rest = drop-next db.items n item at in
    let whole : length file ≡ length (db.front ++ flat_map item_bytes db.items) = ap (length {A = ℕ}) (sym reads.bytes) in
    let parted : length (flat_map item_bytes db.items) ≡ length (flat_map item_bytes (take n db.items) ++ flat_map item_bytes (drop n db.items)) =
    ap (λ l. length (flat_map item_bytes l)) (sym (take-append-drop n db.items)) ∙ ap length (flat_map-append item_bytes (take n db.items) (drop n db.items)) in
    let after : length (flat_map item_bytes (drop n db.items)) ≡ length (item_bytes item ++ flat_map item_bytes (drop (n + 1) db.items)) = ap (λ l. length (flat_map item_bytes l)) rest in
    omega (arith, whole, parted, after, length-append db.front (flat_map item_bytes db.items), length-append (flat_map item_bytes (take n db.items)) (flat_map item_bytes (drop n db.items)), length-append (item_bytes item) (flat_map item_bytes (drop (n + 1) db.items)))

-- the fields of item n have places in the file
pub placed-fields : (file : Text) (n at : ℕ) (view : View) (fields : List Field) → IsOpenable file → IsItemNumber file n → OfReading file (λ db. at ≤ start_of db n) →
    OfReading file (λ db. (i : Item) → slice_get db.items n ≡ Some i → view ≡ view_of i) → fields ≡ view.fields → ArePlacedFields at fields
placed-fields file n at view fields is within before seen same =
    let db = is.0 in
    let reads = is.1.reads in
    let it = slice_get-within db.items n (within db reads) in
    let ends = item-ends file db n it.0 reads it.1 in
    let short = is.1.short in
    let low = before db reads in
    let long = length-append (tree_bytes it.0.tree) it.0.trail in
    subst (ArePlacedFields at) (sym (same ∙ ap (λ (v : View). v.fields) (seen db reads it.0 it.1)))
    (fields-within at it.0.tree (item_in (IsItem name_limit) db.items n it.0 reads.items it.1).tree (omega (arith, ends, short, low, long)))

-- the next item begins where this one ends
pub place-next : (db : Reading) (k place : ℕ) (view : View) (body trail : Text) → k < length db.items → ((i : Item) → slice_get db.items k ≡ Some i → view ≡ view_of i) → body ≡ view.body → trail ≡ view.trail →
    place ≡ start_of db k → place + (length body + length trail) ≡ start_of db (k + 1)
place-next db k place view body trail lt seen body_is trail_is here =
    let it = slice_get-within db.items k lt in
    let is : view ≡ view_of it.0 = seen it.0 it.1 in
    let next : start_of db (k + 1) ≡ start_of db k + length (item_bytes it.0) = start_more db k it.0 (drop (k + 1) db.items) (drop-next db.items k it.0 it.1) in
    let b = ap (length {A = ℕ}) (body_is ∙ ap (λ (v : View). v.body) is) in
    let t = ap (length {A = ℕ}) (trail_is ∙ ap (λ (v : View). v.trail) is) in
    omega (arith, next, here, b, t, length-append (tree_bytes it.0.tree) it.0.trail)

module _ (test : Part → Bool) where
  -- with the tokens of the items from number k on, which begins at this place, the tokens so far are all from number n on
  pub record AreTokensTo (db : Reading) (n : ℕ) (old : List (ℕ × Text)) (k at : ℕ) (tokens : List (ℕ × Text)) : Type 0 where
    pub place : at ≡ start_of db k
    pub all : tokens ++ tokens_of test (items_placed (start_of db k) (drop k db.items)) ≡ old ++ tokens_of test (items_placed (start_of db n) (drop n db.items))

  pub tokens-start : (db : Reading) (n : ℕ) (old : List (ℕ × Text)) (at : ℕ) → at ≡ start_of db n → AreTokensTo db n old n at old
  tokens-start db n old at is = record { place = is; all = refl }

  pub tokens-next : (file : Text) (db : Reading) (n : ℕ) (old : List (ℕ × Text)) (k at : ℕ) (tokens more : List (ℕ × Text)) (view : View) (fields : List Field) (body trail : Text) → Reads file db →
      k < length db.items → ((i : Item) → slice_get db.items k ≡ Some i → view ≡ view_of i) → fields ≡ view.fields → body ≡ view.body → trail ≡ view.trail → AreFieldTokens test at fields tokens more →
      AreTokensTo db n old k at tokens → AreTokensTo db n old (k + 1) (at + (length body + length trail)) more
  tokens-next file db n old k at tokens more view fields body trail reads lt seen same body_is trail_is found to =
      let it = slice_get-within db.items k lt in
      let item = it.0 in
      let is : view ≡ view_of item = seen item it.1 in
      let rest = drop-next db.items k item it.1 in
      let next : start_of db (k + 1) ≡ start_of db k + length (item_bytes item) = start_more db k item (drop (k + 1) db.items) rest in
      let these : more ≡ tokens ++ tokens_of test (tree_placed (start_of db k) item.tree) =
      fields-tokens test (start_of db k) item.tree tokens more (item_in (IsItem name_limit) db.items k item reads.items it.1).tree
      (subst (λ (fs : List Field). AreFieldTokens test (start_of db k) fs tokens more) (same ∙ ap (λ (v : View). v.fields) is) (subst (λ (m : ℕ). AreFieldTokens test m fields tokens more) to.place found)) in
      let those : List (ℕ × Text) = tokens_of test (items_placed (start_of db (k + 1)) (drop (k + 1) db.items)) in
      let b = ap (length {A = ℕ}) (body_is ∙ ap (λ (v : View). v.body) is) in
      let t = ap (length {A = ℕ}) (trail_is ∙ ap (λ (v : View). v.trail) is) in
      let place = to.place in
      record {
        place = omega (arith, next, place, b, t, length-append (tree_bytes item.tree) item.trail);
        all = ap (λ l. l ++ those) these ∙ append_assoc tokens (tokens_of test (tree_placed (start_of db k) item.tree)) those
            ∙ ap (λ l. tokens ++ l) (ap (λ m. tokens_of test (tree_placed (start_of db k) item.tree) ++ tokens_of test (items_placed m (drop (k + 1) db.items))) next
            ∙ sym (ap (λ l. tokens_of test (items_placed (start_of db k) l)) rest ∙ tokens-append test (tree_placed (start_of db k) item.tree) (items_placed (start_of db k + length (item_bytes item)) (drop (k + 1) db.items))))
            ∙ to.all;
      }

  pub tokens-end : (db : Reading) (n : ℕ) (old : List (ℕ × Text)) (k at : ℕ) (tokens : List (ℕ × Text)) → length db.items ≤ k → AreTokensTo db n old k at tokens →
      tokens ≡ old ++ tokens_of test (items_placed (start_of db n) (drop n db.items))
  tokens-end db n old k at tokens past to =
      sym (append-nil tokens) ∙ ap (λ l. tokens ++ tokens_of test (items_placed (start_of db k) l)) (sym (drop_all k db.items past)) ∙ to.all

  -- whether an item has tokens
  pub has-tokens : (file : Text) (db : Reading) (n : ℕ) (item : Item) (view : View) (fields : List Field) (tokens : List (ℕ × Text)) → Reads file db → slice_get db.items n ≡ Some item → view ≡ view_of item → fields ≡ view.fields →
      AreFieldTokens test 0 fields [] tokens → nat_lt 0 (length tokens) ≡ any_part test item.tree
  has-tokens file db n item view fields tokens reads at seen same found =
      ap (λ (l : List (ℕ × Text)). nat_lt 0 (length l))
      (fields-tokens test 0 item.tree [] tokens (item_in (IsItem name_limit) db.items n item reads.items at).tree (subst (λ (fs : List Field). AreFieldTokens test 0 fs [] tokens) (same ∙ ap (λ (v : View). v.fields) seen) found))
      ∙ tree-has test 0 item.tree

pub not_none : (n : ℕ) → not (n == 0) ≡ nat_lt 0 n
not_none n = ⊎_elim
    (λ t. ap not (false_from_ne_true (n == 0) (λ e. let z = eqb-true n 0 e in let p = ltb-true 0 n t in absurd (omega (arith, z, p)))) ∙ sym t)
    (λ f. ap not (eq-eqb n 0 (let p = ltb-false 0 n f in omega (arith, p))) ∙ sym f)
    (cases_Bool (nat_lt 0 n))

-- where there were no tokens, the new ones are all
pub only-tokens : (old new more : List (ℕ × Text)) → old ≡ [] → new ≡ old ++ more → new ≡ more
only-tokens old new more none is = is ∙ ap (λ l. l ++ more) none
