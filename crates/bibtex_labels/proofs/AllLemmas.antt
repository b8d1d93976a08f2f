-- What is made of each member of a list, if none is refused.
use Rattle.std.proofs.Common.{◌≡◌, ◌∙◌, ℕ, ◌+◌, ◌<◌, ◌≤◌, List, [], ◌∷◌, ◌++◌, length, drop, get_or, Result, Ok, Err, refl, sym, ap, append_assoc, append-nil}
use Rattle.std.proofs.lemmas.List.{drop_all, drop_more}
use Rattle.bibtex_labels.specs.Fields.{map_ok, before, map_all}

module _ {X Y F : Type 0} (make : X → Result Y F) where
  -- these values, and then what is made of the members that are left
  abbrev pub after : List Y → Result (List Y) F → Result (List Y) F
  after done left = map_ok (λ (list : List Y). done ++ list) left

  after-after : (done : List Y) (y : Y) (left : Result (List Y) F) → after done (map_ok (λ (list : List Y). y ∷ list) left) ≡ after (done ++ y ∷ []) left
  after-after done y (Ok list) = ap (λ (l : List Y). Ok l) (sym (append_assoc done (y ∷ []) list))
  after-after done y (Err fault) = refl

  pub after-none : (left : Result (List Y) F) → after [] left ≡ left
  after-none (Ok list) = refl
  after-none (Err fault) = refl

  from : (xs : List X) (n : ℕ) (x : X) → n < length xs → x ≡ get_or xs n x → map_all make (drop n xs) ≡ before (make x) (map_all make (drop (n + 1) xs))
  from xs n x within is = ap (map_all make) (drop_more xs n x within) ∙ ap (λ (y : X). before (make y) (map_all make (drop (n + 1) xs))) (sym is)

  -- one more
  pub all_more : (xs : List X) (n : ℕ) (x : X) (done : List Y) (y : Y) → n < length xs → x ≡ get_or xs n x → map_all make xs ≡ after done (map_all make (drop n xs)) → make x ≡ Ok y
      → map_all make xs ≡ after (done ++ y ∷ []) (map_all make (drop (n + 1) xs))
  all_more xs n x done y within is far made =
      far ∙ ap (after done) (from xs n x within is ∙ ap (λ r. before r (map_all make (drop (n + 1) xs))) made) ∙ after-after done y (map_all make (drop (n + 1) xs))

  -- the first that is refused
  pub all_stops : (xs : List X) (n : ℕ) (x : X) (done : List Y) (fault : F) → n < length xs → x ≡ get_or xs n x → map_all make xs ≡ after done (map_all make (drop n xs)) → make x ≡ Err fault
      → map_all make xs ≡ Err fault
  all_stops xs n x done fault within is far made =
      far ∙ ap (after done) (from xs n x within is ∙ ap (λ r. before r (map_all make (drop (n + 1) xs))) made)

  -- none is left
  pub all_done : (xs : List X) (n : ℕ) (done : List Y) → length xs ≤ n → map_all make xs ≡ after done (map_all make (drop n xs)) → map_all make xs ≡ Ok done
  all_done xs n done end far =
      far ∙ ap (λ l. after done (map_all make l)) (drop_all n xs end) ∙ ap (λ (l : List Y). Ok l) (append-nil done)
