-- Items that a search passes over.
use Rattle.bib_store.proofs.Words.{◌≡◌, ℕ, ◌-◌, false, ◌||◌, List, [], ◌∷◌, take, drop, refl, ◌∙◌, ap, subst, between, take-map, drop-map, All-head, All-tail, All-take, All-drop, name_limit, Reading, IsItem, Text, stored, all_stored, Tables, IsKeptAs}
use Rattle.std.proofs.Common.{All}
use Rattle.bib_spec.specs.Reading as reading
use Rattle.part_spec.specs.Parts.{have_part}
use Rattle.bib_items.specs.declared.list.Item.{Item}
use Rattle.bib_items.specs.declared.seeking.Sought.{Sought}
use Rattle.bib_items.specs.Seeking.{test_of, LacksPart, LackPart}

module _ (s : Sought) where
  lack-part : (items : List reading.Item) → All (IsItem name_limit) items → LackPart s (all_stored items) → have_part (test_of s) items ≡ false
  lack-part [] all lack = refl
  lack-part (i ∷ items) all lack =
      let good : IsItem name_limit i = All-head (IsItem name_limit) i items all in
      ap (λ b. b || have_part (test_of s) items) (All-head (λ (x : Item). LacksPart s x.body) (stored i) (all_stored items) lack i.tree good.tree refl)
      ∙ lack-part items (All-tail (IsItem name_limit) i items all) (All-tail (λ (x : Item). LacksPart s x.body) (stored i) (all_stored items) lack)

  -- what the items kept lack, those of the reading lack
  pub lack-kept : (db : Reading) (front : Text) (items : List Item) (t : Tables) (n m : ℕ) → IsKeptAs db front items t → LackPart s (between n m items) → have_part (test_of s) (between n m db.items) ≡ false
  lack-kept db front items t n m k lack =
      lack-part (between n m db.items) (All-take (IsItem name_limit) (m - n) (drop n db.items) (All-drop (IsItem name_limit) n db.items k.opens.reads.items))
      (subst (LackPart s) (ap (λ (l : List Item). between n m l) k.items ∙ ap (take (m - n)) (drop-map stored n db.items) ∙ take-map stored (m - n) (drop n db.items)) lack)
