-- Where an item is taken out, all texts stay clean exactly where the joined one is.
use Rattle.bib_edit.proofs.Words.{◌≡◌, ℕ, zero, suc, Bool, false, List, [], ◌∷◌, ◌++◌, All, refl, sym, subst, cond-true, cond-false, false≢true, All-cons, All-head, All-tail, Text, IsCleanTrail, Tree, is_comment, Item, Reading, Reads, without_first, HasCleanTexts, IsFirstAt, trail_at, text_before}
use Rattle.bib_edit.proofs.Words.{is_after_comment, JoinsCleanly}

abbrev pub AreClean : List Item → Type 0
AreClean items = All (λ item. IsCleanTrail (is_comment item.tree) item.trail) items

-- the front stands after a comment, or does not
abbrev pub after : Bool → List Item → ℕ → Bool
after c items zero = c
after c items (suc n) = is_after_comment items (suc n)

abbrev pub CleanAfter : Bool → Reading → Type 0
CleanAfter c db = IsCleanTrail c db.front × AreClean db.items

module _ (test : Tree → Bool) where
  abbrev gone : Text → Item → List Item → Reading
  gone front item items = record { front = front ++ item.trail; items = items }

  abbrev stays : Text → Item → List Item → Reading
  stays front item items =
      let rest = without_first test item.trail items in
      record { front = front; items = record item { trail = rest.front } ∷ rest.items }

  abbrev Joins : Bool → Text → List Item → ℕ → Type 0
  Joins c front items n = IsCleanTrail (after c items n) (text_before front items n ++ trail_at items n)

  joined : (c : Bool) (front : Text) (items : List Item) (n : ℕ) → IsFirstAt test items n → IsCleanTrail c front → AreClean items → Joins c front items n → CleanAfter c (without_first test front items)
  joined c front [] n f front_clean are joins = absurd f
  joined c front (item ∷ items) zero f front_clean are joins =
      subst (CleanAfter c) (sym (cond-true (test item.tree) (gone front item items) (stays front item items) f)) (joins, All-tail (λ item. IsCleanTrail (is_comment item.tree) item.trail) item items are)
  joined c front (item ∷ items) (suc n) f front_clean are joins =
      let its = All-head (λ item. IsCleanTrail (is_comment item.tree) item.trail) item items are in
      let rest = without_first test item.trail items in
      let kept : Item = record item { trail = rest.front } in
      let r = joined (is_comment item.tree) item.trail items n f.1 its (All-tail (λ item. IsCleanTrail (is_comment item.tree) item.trail) item items are) (later item items n joins) in
      subst (CleanAfter c) (sym (cond-false (test item.tree) (gone front item items) (stays front item items) f.0))
      (front_clean, All-cons (λ item. IsCleanTrail (is_comment item.tree) item.trail) kept rest.items r.0 r.1)
    where
      later : (item : Item) (items : List Item) (n : ℕ) → Joins c front (item ∷ items) (suc n) → Joins (is_comment item.tree) item.trail items n
      later item items zero j = j
      later item items (suc n) j = j

  unjoined : (c : Bool) (front : Text) (items : List Item) (n : ℕ) → IsFirstAt test items n → CleanAfter c (without_first test front items) → Joins c front items n
  unjoined c front [] n f clean = absurd f
  unjoined c front (item ∷ items) zero f clean = (subst (CleanAfter c) (cond-true (test item.tree) (gone front item items) (stays front item items) f) clean).0
  unjoined c front (item ∷ items) (suc n) f clean =
      let is = subst (CleanAfter c) (cond-false (test item.tree) (gone front item items) (stays front item items) f.0) clean in
      let rest = without_first test item.trail items in
      let kept : Item = record item { trail = rest.front } in
      sooner item items n (unjoined (is_comment item.tree) item.trail items n f.1
      (All-head (λ item. IsCleanTrail (is_comment item.tree) item.trail) kept rest.items is.1, All-tail (λ item. IsCleanTrail (is_comment item.tree) item.trail) kept rest.items is.1))
    where
      sooner : (item : Item) (items : List Item) (n : ℕ) → Joins (is_comment item.tree) item.trail items n → Joins c front (item ∷ items) (suc n)
      sooner item items zero j = j
      sooner item items (suc n) j = j

  plain : (items : List Item) (n : ℕ) → after false items n ≡ is_after_comment items n
  plain items zero = refl
  plain items (suc n) = refl

  module _ (db : Reading) (n : ℕ) (first : IsFirstAt test db.items n) where
    pub joins-clean : (file : Text) → Reads file db → JoinsCleanly db n → HasCleanTexts (without_first test db.front db.items)
    joins-clean file reads joins =
        let r = joined false db.front db.items n first (record { clean = reads.front; ends_name = λ e. absurd (false≢true e) }) (λ k d lt. (reads.items k d lt).trail)
        (subst (λ c. IsCleanTrail c (text_before db.front db.items n ++ trail_at db.items n)) (sym (plain db.items n)) joins) in
        record { front = r.0.clean; trails = r.1 }

    pub clean-joins : HasCleanTexts (without_first test db.front db.items) → JoinsCleanly db n
    clean-joins clean =
        subst (λ c. IsCleanTrail c (text_before db.front db.items n ++ trail_at db.items n)) (plain db.items n)
        (unjoined false db.front db.items n first (record { clean = clean.front; ends_name = λ e. absurd (false≢true e) }, clean.trails))
