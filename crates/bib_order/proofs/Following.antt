-- Ids that pass a test follow the order of all.
use Rattle.bib_order.proofs.Words.{◌≡◌, ℕ, ◌+◌, ◌≤◌, ◌<◌, Bool, true, false, suc, List, ◌∷◌, ◌++◌, length, take, drop, get_or, insert, remove, sym, ◌∙◌, ap, ap₂, refl, arith, take-append-drop, cond-true, cond-false, length-filter, holders, before}
use Rattle.std.proofs.Common.{filter}
use Rattle.std.specs.Prelude.{slice_index}
use Rattle.std.proofs.lemmas.List.{take_at, drop_at, drop-drop}
use Rattle.std.proofs.lemmas.List.Elements.{filter-append}
use Rattle.bib_order.specs.Holders.{FollowOrder}
use Rattle.bib_order.proofs.Ordering.{split_ids}

-- those before number n, and those from there on
pub holders-split : (test : ℕ → Bool) (ids : List ℕ) (n : ℕ) → holders test ids ≡ holders test (take n ids) ++ holders test (drop n ids)
holders-split test ids n = ap (filter test) (sym (take-append-drop n ids)) ∙ filter-append test (take n ids) (drop n ids)

-- an id after some, and the list without it
out : (front rest : List ℕ) (x c : ℕ) → length front ≡ c → remove (front ++ x ∷ rest) c ≡ front ++ rest
out front rest x c e =
    let next : c + 1 ≡ suc c = omega arith in
    ap₂ (λ a b. a ++ b) (take_at front (x ∷ rest) c e)
    (ap (λ (n : ℕ). drop n (front ++ x ∷ rest)) (sym next) ∙ sym (drop-drop 1 c (front ++ x ∷ rest)) ∙ ap (drop 1) (drop_at front (x ∷ rest) c e))

inserted : (test : ℕ → Bool) (ids : List ℕ) (n id : ℕ) → n ≤ length ids → test id ≡ true → holders test (insert ids n id) ≡ insert (holders test ids) (before test ids n) id
inserted test ids n id h t =
    let front = holders test (take n ids) in
    let rest = holders test (drop n ids) in
    let count = length-filter test (take n ids) in
    filter-append test (take n ids) (id ∷ drop n ids)
    ∙ ap (λ l. front ++ l) (cond-true (test id) (id ∷ rest) rest t)
    ∙ sym (
    ap (λ l. insert l (before test ids n) id) (holders-split test ids n)
    ∙ ap₂ (λ a b. a ++ id ∷ b) (take_at front rest (before test ids n) count) (drop_at front rest (before test ids n) count)
    )

inserted_other : (test : ℕ → Bool) (ids : List ℕ) (n id : ℕ) → test id ≡ false → holders test (insert ids n id) ≡ holders test ids
inserted_other test ids n id t =
    let front = holders test (take n ids) in
    let rest = holders test (drop n ids) in
    filter-append test (take n ids) (id ∷ drop n ids) ∙ ap (λ l. front ++ l) (cond-false (test id) (id ∷ rest) rest t) ∙ sym (holders-split test ids n)

removed : (test : ℕ → Bool) (ids : List ℕ) (n : ℕ) → n < length ids → test (slice_index ids n) ≡ true → holders test (remove ids n) ≡ remove (holders test ids) (before test ids n)
removed test ids n h t =
    let x = get_or ids n 0 in
    let front = holders test (take n ids) in
    let rest = holders test (drop (suc n) ids) in
    let whole : holders test ids ≡ front ++ x ∷ rest
    = ap (filter test) (split_ids ids n x h refl) ∙ filter-append test (take n ids) (x ∷ drop (suc n) ids) ∙ ap (λ l. front ++ l) (cond-true (test x) (x ∷ rest) rest t) in
    filter-append test (take n ids) (drop (suc n) ids)
    ∙ sym (ap (λ l. remove l (before test ids n)) whole ∙ out front rest x (before test ids n) (length-filter test (take n ids)))

removed_other : (test : ℕ → Bool) (ids : List ℕ) (n : ℕ) → n < length ids → test (slice_index ids n) ≡ false → holders test (remove ids n) ≡ holders test ids
removed_other test ids n h t =
    let x = get_or ids n 0 in
    let front = holders test (take n ids) in
    let rest = holders test (drop (suc n) ids) in
    filter-append test (take n ids) (drop (suc n) ids)
    ∙ sym (ap (filter test) (split_ids ids n x h refl) ∙ filter-append test (take n ids) (x ∷ drop (suc n) ids) ∙ ap (λ l. front ++ l) (cond-false (test x) (x ∷ rest) rest t))

pub follow_order : FollowOrder
follow_order = record { inserted = inserted; inserted_other = inserted_other; removed = removed; removed_other = removed_other }
