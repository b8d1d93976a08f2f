-- Where a text is put in, all texts stay clean exactly where its front, joined to the text before it, is.
use Rattle.bib_edit.proofs.Words.{◌≡◌, ℕ, zero, suc, ◌≤◌, Bool, false, List, [], ◌∷◌, ◌++◌, length, refl, sym, subst, not-suc-le-zero, le_of_suc-le-suc, false≢true, All-append, All-cons, All-head, All-tail, Text, IsCleanTrail, is_comment, Item, Reading, Reads, HasCleanTexts, text_before, is_after_comment}
use Rattle.insert_spec.specs.Insertion.{put_in, line_end_before, inserted}
use Rattle.bib_edit.specs.Removal.{ContinuesCleanly}
use Rattle.bib_edit.proofs.JoinedTexts.{AreClean, after, CleanAfter}

abbrev Clean : Item → Type 0
Clean item = IsCleanTrail (is_comment item.tree) item.trail

module _ (joint : Text) (new : Reading) where
  abbrev Joins : Bool → Text → List Item → ℕ → Type 0
  Joins c front items n = IsCleanTrail (after c items n) (text_before front items n ++ (joint ++ new.front))

  later : (c : Bool) (front : Text) (item : Item) (items : List Item) (n : ℕ) → Joins c front (item ∷ items) (suc n) → Joins (is_comment item.tree) item.trail items n
  later c front item items zero j = j
  later c front item items (suc n) j = j

  sooner : (c : Bool) (front : Text) (item : Item) (items : List Item) (n : ℕ) → Joins (is_comment item.tree) item.trail items n → Joins c front (item ∷ items) (suc n)
  sooner c front item items zero j = j
  sooner c front item items (suc n) j = j

  put-clean : (c : Bool) (front : Text) (items : List Item) (n : ℕ) → n ≤ length items → IsCleanTrail c front → AreClean new.items → AreClean items → Joins c front items n → CleanAfter c (put_in n joint new front items)
  put-clean c front [] zero le front_clean news are joins = (joins, news)
  put-clean c front [] (suc n) le front_clean news are joins = absurd (not-suc-le-zero le)
  put-clean c front (item ∷ items) zero le front_clean news are joins = (joins, All-append Clean new.items (item ∷ items) news are)
  put-clean c front (item ∷ items) (suc n) le front_clean news are joins =
      let rest = put_in n joint new item.trail items in
      let kept : Item = record item { trail = rest.front } in
      let r = put-clean (is_comment item.tree) item.trail items n (le_of_suc-le-suc le) (All-head Clean item items are) news (All-tail Clean item items are) (later c front item items n joins) in
      (front_clean, All-cons Clean kept rest.items r.0 r.1)

  clean-put : (c : Bool) (front : Text) (items : List Item) (n : ℕ) → n ≤ length items → CleanAfter c (put_in n joint new front items) → Joins c front items n
  clean-put c front [] zero le clean = clean.0
  clean-put c front [] (suc n) le clean = absurd (not-suc-le-zero le)
  clean-put c front (item ∷ items) zero le clean = clean.0
  clean-put c front (item ∷ items) (suc n) le clean =
      let rest = put_in n joint new item.trail items in
      let kept : Item = record item { trail = rest.front } in
      sooner c front item items n (clean-put (is_comment item.tree) item.trail items n (le_of_suc-le-suc le) (All-head Clean kept rest.items clean.1, All-tail Clean kept rest.items clean.1))

  plain : (items : List Item) (n : ℕ) → after false items n ≡ is_after_comment items n
  plain items zero = refl
  plain items (suc n) = refl

module _ (position : ℕ) (new db : Reading) (place : position ≤ length db.items) where
  abbrev joint : Text
  joint = line_end_before position new db

  pub continues-clean : (file text : Text) → Reads file db → Reads text new → ContinuesCleanly db position (joint ++ new.front) → HasCleanTexts (inserted position new db)
  continues-clean file text reads reads_new joins =
      let r = put-clean joint new false db.front db.items position place (record { clean = reads.front; ends_name = λ e. absurd (false≢true e) })
      (λ k d lt. (reads_new.items k d lt).trail) (λ k d lt. (reads.items k d lt).trail)
      (subst (λ c. IsCleanTrail c (text_before db.front db.items position ++ (joint ++ new.front))) (sym (plain joint new db.items position)) joins) in
      record { front = r.0.clean; trails = r.1 }

  pub clean-continues : HasCleanTexts (inserted position new db) → ContinuesCleanly db position (joint ++ new.front)
  clean-continues clean =
      subst (λ c. IsCleanTrail c (text_before db.front db.items position ++ (joint ++ new.front))) (plain joint new db.items position)
      (clean-put joint new false db.front db.items position place (record { clean = clean.front; ends_name = λ e. absurd (false≢true e) }, clean.trails))
