-- An entry that moves before or after another one stands beside it.
use Rattle.bib_edit.proofs.Words.{Option, Some, None, length, sym, Text, Reading, ◌≡◌, ◌<◌, ◌≤◌, ◌+◌, ◌-◌, ℕ, zero, suc, nat_lt, ⊎_elim, refl, ◌∙◌, ap, arith, cases_Bool, cond, cond-true, cond-false, ltb-true, ltb-false, lt-ltb, le-ltb, not-suc-le-zero, le_of_suc-le-suc}
use Rattle.std.proofs.Common.{unwrap_or}
use Rattle.edit_spec.specs.Edits as edits
use Rattle.edit_spec.specs.Edits.{Moves, item_meant}
use Rattle.edit_spec.specs.OtherLaws.{number_with_one_more, number_with_one_less, number_after, new_number}
use Rattle.bib_edit.specs.Numbers.{is_numbered, which_of}
use Rattle.bib_edit.specs.Asking.{asked_move}
use Rattle.bib_edit.specs.Positions.{items_before_meant}
use Rattle.bib_edit.specs.Laws.{MovedEntriesAreNeighbours}
use Rattle.bib_edit.proofs.MeantPlaces.{plain-place, numbered-place, meant-place-within}

less-below : (i n : ℕ) → n < i → number_with_one_less i n ≡ n
less-below i zero lt = refl
less-below zero (suc n) lt = absurd (not-suc-le-zero lt)
less-below (suc i) (suc n) lt = ap suc (less-below i n (le_of_suc-le-suc lt))

less-above : (i n : ℕ) → i < n → suc (number_with_one_less i n) ≡ n
less-above i zero lt = absurd (not-suc-le-zero lt)
less-above zero (suc n) lt = refl
less-above (suc i) (suc n) lt = ap suc (less-above i n (le_of_suc-le-suc lt))

more-below : (i n : ℕ) → n < i → number_with_one_more i n ≡ n
more-below zero n lt = absurd (not-suc-le-zero lt)
more-below (suc i) zero lt = refl
more-below (suc i) (suc n) lt = ap suc (more-below i n (le_of_suc-le-suc lt))

more-above : (i n : ℕ) → i ≤ n → number_with_one_more i n ≡ suc n
more-above zero n le = refl
more-above (suc i) zero le = absurd (not-suc-le-zero le)
more-above (suc i) (suc n) le = ap suc (more-above i n (le_of_suc-le-suc le))

below : {n m : ℕ} → n ≤ m → (n ≡ m → ⊥) → n < m
below {n} {m} le ne = ⊎_elim (λ t. ltb-true n m t) (λ f. let high = ltb-false n m f in absurd (ne (omega (arith, le, high)))) (cases_Bool (nat_lt n m))

-- the number of item n if item i moves to this place
abbrev moved_number : ℕ → ℕ → ℕ → ℕ
moved_number place i n = number_with_one_more place (number_with_one_less i n)

abbrev others : ℕ → ℕ → ℕ
others i n = cond (nat_lt i n) (n - 1) n

after : (i j place : ℕ) → (i ≡ j → ⊥) → place ≡ others i (j + 1) → moved_number place i j + 1 ≡ place
after i j place ne is = ⊎_elim
    (λ t.
    let lt = ltb-true i j t in
    let less = less-above i j lt in
    let here : place ≡ j = is ∙ cond-true (nat_lt i (j + 1)) (j + 1 - 1) (j + 1) (lt-ltb i (j + 1) (omega (arith, lt))) ∙ omega arith in
    let more = more-below place (number_with_one_less i j) (omega (arith, less, here)) in
    omega (arith, more, less, here))
    (λ t.
    let le = ltb-false i j t in
    let less = less-below i j (omega (arith, le, ne)) in
    let here : place ≡ j + 1 = is ∙ cond-false (nat_lt i (j + 1)) (j + 1 - 1) (j + 1) (le-ltb i (j + 1) (omega (arith, le, ne))) in
    let more = more-below place (number_with_one_less i j) (omega (arith, less, here)) in
    omega (arith, more, less, here))
    (cases_Bool (nat_lt i j))

before : (i j place : ℕ) → (i ≡ j → ⊥) → place ≡ others i j → moved_number place i j ≡ place + 1
before i j place ne is = ⊎_elim
    (λ t.
    let lt = ltb-true i j t in
    let less = less-above i j lt in
    let here : place ≡ j - 1 = is ∙ cond-true (nat_lt i j) (j - 1) j t in
    let more = more-above place (number_with_one_less i j) (omega (arith, less, here)) in
    omega (arith, more, less, here))
    (λ t.
    let le = ltb-false i j t in
    let less = less-below i j (omega (arith, le, ne)) in
    let here : place ≡ j = is ∙ cond-false (nat_lt i j) (j - 1) j t in
    let more = more-above place (number_with_one_less i j) (omega (arith, less, here)) in
    omega (arith, more, less, here))
    (cases_Bool (nat_lt i j))

-- the number of item n if the item that was found moves to this place
abbrev moved_from : Option ℕ → ℕ → ℕ → ℕ
moved_from found place n = number_after (Moves place) found n

-- where none is found, all items come before it
found-number : (found : Option ℕ) (count place n : ℕ) → n < count → moved_from found place n ≡ moved_number place (unwrap_or found count) n
found-number (Some i) count place n lt = refl
found-number None count place n lt = ap (number_with_one_more place) (sym (less-below count n lt))

abbrev own : Text → Reading → ℕ
own key db = items_before_meant key db.items

-- what a move makes of the number of another entry
moved-to : (db : Reading) (key : Text) (place n : ℕ) → n ≤ length db.items → (own key db ≡ n → ⊥) → new_number db (asked_move key place) n ≡ moved_number place (own key db) n
moved-to db key place n within ne = ⊎_elim
    (λ t.
    ap (λ e. new_number db e n) (cond-true (is_numbered key) (edits.ChangeEntry (which_of key) (Moves place)) (edits.MoveEntry key place) t)
    ∙ by_found (item_meant (which_of key) db.items) (λ is. ne (numbered-place key db t ∙ is))
    ∙ ap (λ i. moved_number place i n) (sym (numbered-place key db t)))
    (λ f.
    ap (λ e. new_number db e n) (cond-false (is_numbered key) (edits.ChangeEntry (which_of key) (Moves place)) (edits.MoveEntry key place) f)
    ∙ ap (λ i. moved_number place i n) (sym (plain-place key db f)))
    (cases_Bool (is_numbered key))
  where
    by_found : (found : Option ℕ) → (unwrap_or found (length db.items) ≡ n → ⊥) → moved_from found place n ≡ moved_number place (unwrap_or found (length db.items)) n
    by_found (Some i) ne = refl
    by_found None ne = found-number None (length db.items) place n (below within (λ e. ne (sym e)))

pub moved-neighbours : MovedEntriesAreNeighbours
moved-neighbours = record {
  after = λ db key other own_place place ne is. ap (λ k. k + 1) (moved-to db key place (own other db) (meant-place-within other db) ne) ∙ after (own key db) (own other db) place ne is;
  before = λ db key other own_place place ne is. moved-to db key place (own other db) (meant-place-within other db) ne ∙ before (own key db) (own other db) place ne is;
}
