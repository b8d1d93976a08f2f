-- What is seen of item n, and what of that goes.
use Rattle.bib_edit.proofs.Words.{◌≡◌, ◌↔◌, ℕ, ◌<◌, ◌++◌, Bool, IsTrue, List, [], Some, slice_get, length, sym, ◌∙◌, ap, subst, option_map_or, Text, tree_bytes, IsCleanTrail, Item, Reading, View, view_of, slice_get-within, body_at, trail_at, is_after_comment, text_before}
use Rattle.bib_edit.specs.Removal.{ContinuesCleanly}

module _ (items : List Item) (n : ℕ) (view : View) (lt : n < length items) (seen : (i : Item) → slice_get items n ≡ Some i → view ≡ view_of i) where
  pub body-seen : view.body ≡ body_at items n
  body-seen =
      let i = slice_get-within items n lt in
      ap (λ (v : View). v.body) (seen i.0 i.1) ∙ sym (ap (λ o. option_map_or (λ item. tree_bytes item.tree) o []) i.1)

  pub trail-seen : view.trail ≡ trail_at items n
  trail-seen =
      let i = slice_get-within items n lt in
      ap (λ (v : View). v.trail) (seen i.0 i.1) ∙ sym (ap (λ o. option_map_or (λ item. item.trail) o []) i.1)

pub tested-joined : (db : Reading) (n : ℕ) (more : Text) (clean comment : Bool) (bytes : Text) → (IsTrue clean ↔ IsCleanTrail comment bytes) →
    comment ≡ is_after_comment db.items n → bytes ≡ text_before db.front db.items n ++ more → IsTrue clean ↔ ContinuesCleanly db n more
tested-joined db n more clean comment bytes tested c b =
    subst (λ (x : Bool). IsTrue clean ↔ IsCleanTrail x (text_before db.front db.items n ++ more)) c
    (subst (λ (t : Text). IsTrue clean ↔ IsCleanTrail comment t) b tested)
