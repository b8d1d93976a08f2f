-- Whether a file ends a line, told by its last bytes.
use Rattle.bib_edit.proofs.Words.{◌≡◌, ℕ, zero, suc, ◌-◌, ◌==◌, true, false, eqb-true, false≢true, slice_get-within, View, view_of, List, [], ◌∷◌, ◌++◌, Option, None, Some, slice_get, length, drop, refl, sym, ◌∙◌, ap, append_assoc, append-nil, flat_map, last_or, option_map_or, none-some, same_Some, arith, Text, Tree, CommentTree, DefinitionTree, PreambleTree, EntryTree, tree_bytes, Item, Reading, item_bytes, bytes_of}
use Rattle.std.proofs.lemmas.List.{nil_from_length}
use Rattle.bib_spec.specs.Bytes.{at_sign, line_feed}
use Rattle.insert_spec.specs.Insertion.{ends_line}

last-append : (o : Option ℕ) (xs : Text) (y : ℕ) (ys : Text) → last_or o (xs ++ y ∷ ys) ≡ last_or None (y ∷ ys)
last-append o [] y ys = refl
last-append o (x ∷ xs) y ys = last-append (Some x) xs y ys

ends-append : (xs : Text) (y : ℕ) (ys : Text) → ends_line (xs ++ y ∷ ys) ≡ ends_line (y ∷ ys)
ends-append xs y ys = ap (λ (o : Option ℕ). option_map_or (λ b. b == line_feed) o true) (last-append None xs y ys)

-- a body begins with an at-sign
body-begins : (tree : Tree) → (t : Text) × (tree_bytes tree ≡ at_sign ∷ t)
body-begins (CommentTree h) = (drop 1 (tree_bytes (CommentTree h)), refl)
body-begins (DefinitionTree d) = (drop 1 (tree_bytes (DefinitionTree d)), refl)
body-begins (PreambleTree p) = (drop 1 (tree_bytes (PreambleTree p)), refl)
body-begins (EntryTree e) = (drop 1 (tree_bytes (EntryTree e)), refl)

-- the bytes before the last item
before-last : (items : List Item) (n : ℕ) (i : Item) → slice_get items n ≡ Some i → length items ≡ suc n → (t : Text) × (flat_map item_bytes items ≡ t ++ item_bytes i)
before-last [] n i at len = absurd (none-some i at)
before-last (item ∷ []) zero i at len = ([], append-nil (item_bytes item) ∙ ap item_bytes (same_Some item i at))
before-last (item ∷ next ∷ items) zero i at len = absurd (omega (arith, len))
before-last (item ∷ items) (suc n) i at len =
    let rest = before-last items n i at (omega (arith, len)) in
    (item_bytes item ++ rest.0, ap (λ t. item_bytes item ++ t) rest.1 ∙ sym (append_assoc (item_bytes item) rest.0 (item_bytes i)))

module _ (db : Reading) (n : ℕ) (i : Item) (at : slice_get db.items n ≡ Some i) (len : length db.items ≡ suc n) where
  file-ends : bytes_of db ≡ (db.front ++ (before-last db.items n i at len).0) ++ item_bytes i
  file-ends =
      ap (λ t. db.front ++ t) (before-last db.items n i at len).1
      ∙ sym (append_assoc db.front (before-last db.items n i at len).0 (item_bytes i))

  pub ends-trail : (b : ℕ) (t : Text) → i.trail ≡ b ∷ t → ends_line i.trail ≡ ends_line (bytes_of db)
  ends-trail b t is =
      let front = db.front ++ (before-last db.items n i at len).0 in
      ap ends_line is ∙ sym (ends-append (front ++ tree_bytes i.tree) b t)
      ∙ ap (λ (u : Text). ends_line u) (ap (λ (u : Text). (front ++ tree_bytes i.tree) ++ u) (sym is) ∙ append_assoc front (tree_bytes i.tree) i.trail ∙ sym file-ends)

  pub ends-body : i.trail ≡ [] → ends_line (tree_bytes i.tree) ≡ ends_line (bytes_of db)
  ends-body none =
      let front = db.front ++ (before-last db.items n i at len).0 in
      let body = body-begins i.tree in
      ap ends_line body.1 ∙ sym (ends-append front at_sign body.0)
      ∙ ap (λ (u : Text). ends_line u) (ap (λ (u : Text). front ++ u) (sym body.1 ∙ sym (append-nil (tree_bytes i.tree)) ∙ ap (λ (t : Text). tree_bytes i.tree ++ t) (sym none)) ∙ sym file-ends)

pub ends-front : (db : Reading) → length db.items ≡ 0 → ends_line db.front ≡ ends_line (bytes_of db)
ends-front db none = of_items db.front db.items none
  where
    of_items : (front : Text) (items : List Item) → length items ≡ 0 → ends_line front ≡ ends_line (front ++ flat_map item_bytes items)
    of_items front [] none = ap ends_line (sym (append-nil front))
    of_items front (item ∷ items) none = absurd (omega (arith, none))

-- ---- as it is seen

last-get : (o : Option ℕ) (t : Text) (n b : ℕ) → length t ≡ suc n → slice_get t n ≡ Some b → last_or o t ≡ Some b
last-get o [] n b len at = absurd (none-some b at)
last-get o (x ∷ []) zero b len at = at
last-get o (x ∷ []) (suc n) b len at = absurd (none-some b at)
last-get o (x ∷ y ∷ t) zero b len at = absurd (omega (arith, len))
last-get o (x ∷ y ∷ t) (suc n) b len at = last-get (Some x) (y ∷ t) n b (omega (arith, len)) at

-- the last byte of a text tells whether the text ends a line
pub ends-byte : (t : Text) (b : ℕ) → slice_get t (length t - 1) ≡ Some b → (b == line_feed) ≡ ends_line t
ends-byte [] b at = absurd (none-some b at)
ends-byte (x ∷ t) b at =
    let less : length (x ∷ t) - 1 ≡ length t = omega arith in
    sym (ap (λ (o : Option ℕ). option_map_or (λ b. b == line_feed) o true) (last-get None (x ∷ t) (length t) b refl (ap (slice_get (x ∷ t)) (sym less) ∙ at)))

module _ (db : Reading) (count : ℕ) (view : View) (all : count ≡ length db.items) (some : count ≡ 0 → ⊥) (sees : (i : Item) → slice_get db.items (count - 1) ≡ Some i → view ≡ view_of i) where
  last_is : length db.items ≡ suc (count - 1)
  last_is = omega (arith, some, all)

  last_item : (i : Item) × (slice_get db.items (count - 1) ≡ Some i)
  last_item = slice_get-within db.items (count - 1) (omega (arith, last_is))

  pub seen-trail : (length view.trail == 0) ≡ false → ends_line view.trail ≡ ends_line (bytes_of db)
  seen-trail full =
      let i = last_item in
      let is = ap (λ (v : View). v.trail) (sees i.0 i.1) in
      of_trail i.0 i.1 (ap (λ (t : Text). length t == 0) (sym is) ∙ full) is
    where
      of_trail : (i : Item) → slice_get db.items (count - 1) ≡ Some i → (length i.trail == 0) ≡ false → view.trail ≡ i.trail → ends_line view.trail ≡ ends_line (bytes_of db)
      of_trail i at full is = ap ends_line is ∙ split i.trail refl
        where
          split : (t : Text) → i.trail ≡ t → ends_line i.trail ≡ ends_line (bytes_of db)
          split [] none = absurd (false≢true (sym full ∙ ap (λ (t : Text). length t == 0) none))
          split (b ∷ t) is = ends-trail db (count - 1) i at last_is b t is

  pub seen-body : (length view.trail == 0) ≡ true → ends_line view.body ≡ ends_line (bytes_of db)
  seen-body empty =
      let i = last_item in
      let none : i.0.trail ≡ [] = ap (λ (v : View). v.trail) (sym (sees i.0 i.1)) ∙ nil_from_length view.trail (eqb-true (length view.trail) 0 empty) in
      ap (λ (v : View). ends_line v.body) (sees i.0 i.1) ∙ ends-body db (count - 1) i.0 i.1 last_is none
