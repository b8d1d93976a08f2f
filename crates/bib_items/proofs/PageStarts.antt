-- Where the pages of a list of items begin.
use Rattle.bib_items.proofs.Words.{◌≡◌, ℕ, ◌+◌, ◌-◌, ◌<◌, ◌≤◌, List, [], ◌∷◌, ◌++◌, length, take, set, remove, drop, suc, ⊎_elim, refl, sym, subst, ◌∙◌, ap, arith, cases_lt, get_or_append_left, take-take, take_at, length-take-le, joined, page_at, parted_at, IsOnWay, Item, weight, AreStarts}
use Rattle.bib_items.proofs.Words.{HaveSameBefore, length-joined-more, are_parted}
use Rattle.std.proofs.Common.{length-append}
use Rattle.std.specs.Prelude.{slice_index_or}
use Rattle.std.proofs.Math.Seq.{get_or-append_seam}
use Rattle.std.proofs.lemmas.List.{take-set-le, get_or-take, length-take, length-set}
use Rattle.bib_items.specs.declared.starts.PageStart.{PageStart}
use Rattle.bib_items.specs.Starts.{BeginsWith, first_start}
use Rattle.bib_items.proofs.Walks.{weight-more}

pub no_starts : (pages : List (List Item)) (starts : List PageStart) → starts ≡ [] → AreStarts pages starts
no_starts pages starts e =
    let none : length starts ≡ 0 = ap (length {A = PageStart}) e in
    record { within = omega arith; each = λ p h. absurd (omega (arith, h, none)) }

pub first_begins : (pages : List (List Item)) → BeginsWith pages 0 first_start
first_begins [] = record { item = refl; byte = refl }
first_begins (page ∷ pages) = record { item = refl; byte = refl }

-- the way to member n begins at page p, whose start is known
pub way_begun : (pages : List (List Item)) (p n : ℕ) (start : PageStart) → BeginsWith pages p start → start.item ≤ n → IsOnWay pages p n (n - start.item)
way_begun pages p n start begins low =
    let item : start.item ≡ length (joined (take p pages)) = begins.item in
    record { at = omega arith }

-- ---- they are taken down

-- where the pages before page p begin, and that page
pub record AreTaken (pages : List (List Item)) (starts : List PageStart) (p : ℕ) (start : PageStart) : Type 0 where
  pub told : AreStarts pages starts
  pub count : length starts ≡ p
  pub next : BeginsWith pages p start

-- and the next
pub taken_more : (pages : List (List Item)) (starts : List PageStart) (p : ℕ) (start : PageStart) → p < length pages → AreTaken pages starts p start → AreStarts pages (starts ++ start ∷ [])
taken_more pages starts p start h w = record { within = within; each = each }
  where
    within : length (starts ++ start ∷ []) ≤ length pages
    within = let c : length starts ≡ p = w.count in omega (arith, h, length-append starts (start ∷ []))

    each : (q : ℕ) → q < length (starts ++ start ∷ []) → BeginsWith pages q (slice_index_or (starts ++ start ∷ []) q first_start)
    each q lt = ⊎_elim
        (λ low. subst (BeginsWith pages q) (sym (get_or_append_left starts (start ∷ []) first_start q low)) (w.told.each q low))
        (λ high.
        let at : length starts ≡ q = omega (arith, high, lt, length-append starts (start ∷ [])) in
        subst (λ (k : ℕ). BeginsWith pages k (slice_index_or (starts ++ start ∷ []) k first_start)) at
        (subst (BeginsWith pages (length starts)) (sym (get_or-append_seam starts start [] first_start)) (subst (λ (k : ℕ). BeginsWith pages k start) (sym w.count) w.next)))
        (cases_lt q (length starts))

pub begins_more : (pages : List (List Item)) (p : ℕ) (start next : PageStart) → p < length pages → next.item ≡ start.item + length (page_at pages p) → next.byte ≡ start.byte + weight (page_at pages p)
    → BeginsWith pages p start → BeginsWith pages (p + 1) next
begins_more pages p start next h i b begins =
    let item : start.item ≡ length (joined (take p pages)) = begins.item in
    let byte : start.byte ≡ weight (joined (take p pages)) = begins.byte in
    record { item = omega (arith, length-joined-more pages p h); byte = omega (arith, weight-more pages p h) }

pub taken_next : (pages : List (List Item)) (starts now : List PageStart) (p : ℕ) (start next : PageStart) → p < length pages → now ≡ starts ++ start ∷ []
    → next.item ≡ start.item + length (page_at pages p) → next.byte ≡ start.byte + weight (page_at pages p) → AreTaken pages starts p start → AreTaken pages now (p + 1) next
taken_next pages starts now p start next h e i b w =
    let c : length starts ≡ p = w.count in
    record {
      told = subst (AreStarts pages) (sym e) (taken_more pages starts p start h w);
      count = omega (arith, ap (length {A = PageStart}) e, length-append starts (start ∷ []));
      next = begins_more pages p start next h i b w.next;
    }

-- ---- the starts stay known if an edit leaves the pages before them

begins_same : (old new : List (List Item)) (p : ℕ) (start : PageStart) → take p new ≡ take p old → BeginsWith old p start → BeginsWith new p start
begins_same old new p start same begins = record {
  item = begins.item ∙ ap (λ l. length (joined l)) (sym same);
  byte = begins.byte ∙ ap (λ l. weight (joined l)) (sym same);
}

pub starts_stay : (old new : List (List Item)) (starts : List PageStart) (p : ℕ) → AreStarts old starts → HaveSameBefore p old new → AreStarts new (take p starts)
starts_stay old new starts p are same = record { within = omega (arith, few, same.within); each = each }
  where
    few : length (take p starts) ≤ p
    few = omega (arith, length-take p starts)

    each : (q : ℕ) → q < length (take p starts) → BeginsWith new q (slice_index_or (take p starts) q first_start)
    each q lt =
        let low : q < p = omega (arith, lt, few) in
        let known : q < length starts = omega (arith, lt, length-take p starts) in
        let front : take q new ≡ take q old = sym (take-take q p new (omega (arith, low))) ∙ ap (take q) same.same ∙ take-take q p old (omega (arith, low)) in
        subst (BeginsWith new q) (sym (get_or-take p starts q first_start low)) (begins_same old new q (slice_index_or starts q first_start) front (are.each q known))

-- ---- what edits leave

pub same_set : (pages : List (List Item)) (p q : ℕ) (page : List Item) → p ≤ q → q < length pages → HaveSameBefore p pages (set pages q page)
same_set pages p q page low h = record { within = omega (arith, h, low, length-set pages q page); same = take-set-le p pages q page low }

pub same_remove : (pages : List (List Item)) (p : ℕ) → p < length pages → HaveSameBefore p pages (remove pages p)
same_remove pages p h =
    let here : length (take p pages) ≡ p = length-take-le p pages (omega (arith, h)) in
    record { within = omega (arith, here, length-append (take p pages) (drop (suc p) pages)); same = take_at (take p pages) (drop (suc p) pages) p here }

pub same_taken : (pages : List (List Item)) (p q : ℕ) → p ≤ length pages → HaveSameBefore p pages (take p pages ++ drop q pages)
same_taken pages p q h =
    let here : length (take p pages) ≡ p = length-take-le p pages h in
    record { within = omega (arith, here, length-append (take p pages) (drop q pages)); same = take_at (take p pages) (drop q pages) p here }

pub same_parted : (pages : List (List Item)) (p k : ℕ) → p < length pages → HaveSameBefore p pages (parted_at k p pages)
same_parted pages p k h =
    let two = are_parted pages p k h in
    record { within = omega (arith, two.within); same = two.before }

pub same_all : (pages : List (List Item)) (p : ℕ) → p ≤ length pages → HaveSameBefore p pages pages
same_all pages p h = record { within = h; same = refl }

pub same_trans : (a b c : List (List Item)) (p : ℕ) → HaveSameBefore p a b → HaveSameBefore p b c → HaveSameBefore p a c
same_trans a b c p ab bc = record { within = bc.within; same = bc.same ∙ ab.same }
