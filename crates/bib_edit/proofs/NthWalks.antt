-- The one with a number among those of a list that pass a test, told on the way through the list.
use Rattle.bib_edit.proofs.Words.{◌≡◌, ℕ, zero, suc, ◌+◌, ◌≤◌, Bool, true, false, List, [], ◌∷◌, Option, Some, None, option_map, drop, length, sym, ◌∙◌, ap, refl, arith, cond-true, cond-false, drop_of_length-le}
use Rattle.std.proofs.Common.{if◌then◌else◌}
use Rattle.edit_spec.specs.Edits.{nth_of}

-- the number in the rest of a list, as a number in the list
abbrev pub after : ℕ → Option ℕ → Option ℕ
after n o = option_map (λ m. n + m) o

pub from_start : (o : Option ℕ) → o ≡ after 0 o
from_start None = refl
from_start (Some m) = ap Some (omega arith)

pub one_later : (n : ℕ) (o : Option ℕ) → after n (option_map suc o) ≡ after (n + 1) o
one_later n None = refl
one_later n (Some m) = ap Some (omega arith)

module _ {X : Type 0} (test : X → Bool) (xs : List X) (n : ℕ) (whole : Option ℕ) where
  abbrev rest : List X
  rest = drop (n + 1) xs

  pub nth-found : whole ≡ after n (nth_of test 0 (drop n xs)) → (x : X) → drop n xs ≡ x ∷ drop (n + 1) xs → test x ≡ true → Some n ≡ whole
  nth-found so_far x next passes =
      sym (so_far ∙ ap (λ l. after n (nth_of test 0 l)) next ∙ ap (after n) (cond-true (test x) (Some 0) (option_map suc (nth_of test 0 rest)) passes) ∙ ap Some (omega arith))

  pub nth-counted : (left : ℕ) → whole ≡ after n (nth_of test (suc left) (drop n xs)) → (x : X) → drop n xs ≡ x ∷ drop (n + 1) xs → test x ≡ true →
      whole ≡ after (n + 1) (nth_of test left (drop (n + 1) xs))
  nth-counted left so_far x next passes =
      so_far ∙ ap (λ l. after n (nth_of test (suc left) l)) next ∙ ap (λ b. after n (option_map suc (nth_of test (if b then left else suc left) rest))) passes ∙ one_later n (nth_of test left rest)

  pub nth-passed : (left : ℕ) → whole ≡ after n (nth_of test left (drop n xs)) → (x : X) → drop n xs ≡ x ∷ drop (n + 1) xs → test x ≡ false →
      whole ≡ after (n + 1) (nth_of test left (drop (n + 1) xs))
  nth-passed zero so_far x next fails =
      so_far ∙ ap (λ l. after n (nth_of test 0 l)) next ∙ ap (after n) (cond-false (test x) (Some 0) (option_map suc (nth_of test 0 rest)) fails) ∙ one_later n (nth_of test 0 rest)
  nth-passed (suc left) so_far x next fails =
      so_far ∙ ap (λ l. after n (nth_of test (suc left) l)) next ∙ ap (λ b. after n (option_map suc (nth_of test (if b then left else suc left) rest))) fails ∙ one_later n (nth_of test (suc left) rest)

  pub nth-none : (left : ℕ) → whole ≡ after n (nth_of test left (drop n xs)) → length xs ≤ n → None ≡ whole
  nth-none left so_far past = sym (so_far ∙ ap (λ l. after n (nth_of test left l)) (drop_of_length-le xs past) ∙ none left)
    where
      none : (left : ℕ) → after n (nth_of test left []) ≡ None
      none left = refl
