-- A list whose items are exchanged, one by one.
use Rattle.bib_store.proofs.Words.{◌≡◌, ℕ, ◌+◌, ◌-◌, ◌≤◌, List, ◌++◌, length, take, drop, sym, subst, ◌∙◌, ap, arith, append_assoc, length-append, Some, None, ◌⊎◌, inl, inr, take_at, drop_at, drop-drop, length-map, Text, Reading, Reads, too_long_at, Window, stored, all_stored, without_range}
use Rattle.bib_store.proofs.Words.{without-put, Change, IsWindow, ArePut, exchanged}
use Rattle.std.proofs.Common.{length-drop}
use Rattle.std.proofs.lemmas.List.{length-take-le}
use Rattle.bib_items.specs.declared.list.Item.{Item}

-- ---- the exchange

-- the list with the new items before the old ones
pub record IsPut (old new now : List Item) (from to count : ℕ) : Type 0 where
  pub ordered : from ≤ to
  pub within : to ≤ length old
  pub count_is : count ≡ length new
  pub now_is : now ≡ take from old ++ (new ++ drop from old)

-- the new items alone stand there once the old ones are gone
pub without-old : (old new now : List Item) (from to count : ℕ) → IsPut old new now from to count
    → without_range (from + count) (to + count) now ≡ take from old ++ (new ++ drop to old)
without-old old new now from to count p =
    let ordered : from ≤ to = p.ordered in
    let here : from ≤ length old = omega (arith, p.within) in
    let count_is : count ≡ length new = p.count_is in
    let before : length (take from old ++ new) ≡ from + count = omega (arith, length-append (take from old) new, length-take-le from old here) in
    let far : from + count + (to - from) ≡ to + count = omega arith in
    let whole : from + (to - from) ≡ to = omega arith in
    let regrouped : now ≡ (take from old ++ new) ++ drop from old = p.now_is ∙ sym (append_assoc (take from old) new (drop from old)) in
    ap (without_range (from + count) (to + count)) regrouped
    ∙ ap (λ front. front ++ drop (to + count) ((take from old ++ new) ++ drop from old)) (take_at (take from old ++ new) (drop from old) (from + count) before)
    ∙ ap (λ back. (take from old ++ new) ++ back)
    (ap (λ n. drop n ((take from old ++ new) ++ drop from old)) (sym far)
    ∙ sym (drop-drop (to - from) (from + count) ((take from old ++ new) ++ drop from old))
    ∙ ap (drop (to - from)) (drop_at (take from old ++ new) (drop from old) (from + count) before)
    ∙ drop-drop (to - from) from old
    ∙ ap (λ n. drop n old) whole)
    ∙ append_assoc (take from old) new (drop to old)

pub taken-new : (old new now : List Item) (from to count : ℕ) → IsPut old new now from to count → without_range from (from + count) now ≡ old
taken-new old new now from to count p =
    let ordered : from ≤ to = p.ordered in
    let here : from ≤ length old = omega (arith, p.within) in
    ap (without_range from (from + count)) p.now_is ∙ without-put old new from count here p.count_is

pub length-put : (old new now : List Item) (at : ℕ) → at ≤ length old → now ≡ take at old ++ (new ++ drop at old) → length now ≡ length old + length new
length-put old new now at h e =
    let whole : length now ≡ length (take at old ++ (new ++ drop at old)) = ap length e in
    omega (arith, whole, length-append (take at old) (new ++ drop at old), length-append new (drop at old), length-take-le at old h, length-drop at old)

pub is_put : (old new now : List Item) (from to old_count new_count : ℕ) → from ≤ to → to ≤ length old → now ≡ take from old ++ (new ++ drop from old)
    → old_count ≡ length old → new_count ≡ length now → IsPut old new now from to (new_count - old_count)
is_put old new now from to old_count new_count h k e o n =
    let all : length now ≡ length old + length new = length-put old new now from (omega arith) e in
    record { ordered = h; within = k; count_is = omega arith; now_is = e }

-- the same, by what an insertion of a text's items into a window says
pub put_of : (old now : List Item) (text seen : Text) (w : Window) (old_count new_count : ℕ) → IsWindow old w → seen ≡ text
    → ((db : Reading) → Reads seen db → now ≡ take w.from old ++ (all_stored db.items ++ drop w.from old)) → old_count ≡ length old → new_count ≡ length now
    → (inner : Reading) → Reads text inner → IsPut old (all_stored inner.items) now w.from w.to (new_count - old_count)
put_of old now text seen w old_count new_count is same put o n inner reads =
    is_put old (all_stored inner.items) now w.from w.to old_count new_count is.ordered is.within (put inner (subst (λ (t : Text). Reads t inner) (sym same) reads)) o n

-- what is left once the old ones are gone
pub put_without : (c : Change) (old now : List Item) (count : ℕ) → ArePut c old now count → (inner : Reading) → Reads c.text inner
    → without_range (c.window.from + count) (c.window.to + count) now ≡ exchanged c.window inner.items old
put_without c old now count p inner reads =
    without-old old (all_stored inner.items) now c.window.from c.window.to count
    (record { ordered = p.window.ordered; within = p.window.within; count_is = p.counted inner reads ∙ sym (length-map inner.items stored); now_is = p.put inner reads })

-- an insertion puts the items of a text before those of its window
pub are_put : (c : Change) (old now : List Item) (seen : Text) (old_count new_count : ℕ) → IsWindow old c.window → seen ≡ c.text
    → ((db : Reading) → Reads seen db → now ≡ take c.window.from old ++ (all_stored db.items ++ drop c.window.from old)) → old_count ≡ length old → new_count ≡ length now
    → ArePut c old now (new_count - old_count)
are_put c old now seen old_count new_count is same put o n = record {
  window = is;
  counted = λ inner reads. (put_of old now c.text seen c.window old_count new_count is same put o n inner reads).count_is ∙ length-map inner.items stored;
  put = λ inner reads. (put_of old now c.text seen c.window old_count new_count is same put o n inner reads).now_is;
}

pub room-put : (old new now : List Item) (from to count : ℕ) → IsPut old new now from to count → to + count ≤ length now
room-put old new now from to count p =
    let ordered : from ≤ to = p.ordered in
    let within : to ≤ length old = p.within in
    let count_is : count ≡ length new = p.count_is in
    let all : length now ≡ length old + length new = length-put old new now from (omega arith) p.now_is in
    omega arith

-- tables refused for a raw text are those of a file with one that is too long
pub too_long_refused : (db : Reading) (kind place : ℕ) (P : Type 0) → kind ≡ 8 → ((kind ≡ 10) × (place ≡ 0)) ⊎ ((kind ≡ 8) × P) → (P → too_long_at db ≡ Some place) → too_long_at db ≡ None → ⊥
too_long_refused db kind place P e fault long none = elim fault [
  | inl memory ↦ (let m : kind ≡ 10 = memory.0 in absurd (omega arith))
  | inr text ↦ (let l : too_long_at db ≡ Some place = long text.1 in cc)
]
