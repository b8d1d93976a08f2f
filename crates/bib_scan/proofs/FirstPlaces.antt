-- The first place whose byte passes a test, from the list of all such places.
use Rattle.bib_scan.proofs.Words.{◌≡◌, ℕ, zero, suc, ◌+◌, ◌-◌, Bool, true, false, List, [], ◌∷◌, length, get_or, Option, None, Some, sym, ap, subst, ◌∙◌, arith, cases_Bool, cases_eq, cond-true, cond-false, both_ways, IsFirstByte, NoneBefore, Nowhere}
use Rattle.std.proofs.Common.{⊎_elim}
use Rattle.memchr.specs.Find.{Passes, TakesFirst, places, places_from}

module _ (test : ℕ → Bool) (hay : List ℕ) where
  -- a place that passes is the first of the list
  places_from-passed : (i n : ℕ) → test (get_or hay i 0) ≡ true → places_from test hay i (suc n) ≡ i ∷ places_from test hay (i + 1) n
  unfolding places_from
  places_from-passed i n is = cond-true (test (get_or hay i 0)) _ _ is

  -- a place that does not pass is not in the list
  places_from-missed : (i n : ℕ) → test (get_or hay i 0) ≡ false → places_from test hay i (suc n) ≡ places_from test hay (i + 1) n
  unfolding places_from
  places_from-missed i n is = cond-false (test (get_or hay i 0)) _ _ is

  -- one more place that does not pass
  nowhere_from : (i j : ℕ) → test (get_or hay i 0) ≡ false → Nowhere (Passes test hay) (i + 1) j → Nowhere (Passes test hay) i j
  nowhere_from i j miss later k low high passes = ⊎_elim
      (λ (here : k ≡ i). both_ways (test (get_or hay i 0)) miss (subst (λ (m : ℕ). test (get_or hay m 0) ≡ true) here passes))
      (λ after. later k (omega arith) high passes)
      (cases_eq k i)

  -- if the list is empty, no place passes
  nowhere : (n i : ℕ) → places_from test hay i n ≡ [] → Nowhere (Passes test hay) i (i + n)
  nowhere zero i none = λ k low high. absurd (omega arith)
  nowhere (suc n) i none = ⊎_elim
      (λ is. absurd (omega (arith, ap (length {A = ℕ}) (sym (places_from-passed i n is) ∙ none))))
      (λ miss. nowhere_from i (i + suc n) miss (λ k low high. nowhere n (i + 1) (sym (places_from-missed i n miss) ∙ none) k low (omega arith)))
      (cases_Bool (test (get_or hay i 0)))

  -- the first element of the list is the first place that passes
  leads : (n i x : ℕ) (rest : List ℕ) → places_from test hay i n ≡ x ∷ rest → NoneBefore (Passes test hay) i (i + n) x × Passes test hay x
  unfolding places_from
  leads zero i x rest is = absurd (omega (arith, ap (length {A = ℕ}) is))
  leads (suc n) i x rest is = ⊎_elim
      (λ passes.
      let here : i ≡ x = ap (λ (l : List ℕ). get_or l 0 0) (sym (places_from-passed i n passes) ∙ is) in (
        record { low = omega (arith, here); high = omega (arith, here); before = λ k low high p. absurd (omega (arith, here)) },
        subst (λ (m : ℕ). test (get_or hay m 0) ≡ true) here passes,
      ))
      (λ miss.
      let later = leads n (i + 1) x rest (sym (places_from-missed i n miss) ∙ is) in (
        record {
          low = omega (arith, later.0.low);
          high = omega (arith, later.0.high);
          before = nowhere_from i x miss later.0.before;
        },
        later.1,
      ))
      (cases_Bool (test (get_or hay i 0)))

  all_places : places test hay ≡ places_from test hay 0 (length hay)
  all_places = let count : length hay - 0 ≡ length hay = omega arith in ap (places_from test hay 0) count

  -- the first of all places is the first place that passes
  pub first_of_places : (left rest : List ℕ) (found : Option ℕ) → left ≡ places test hay → TakesFirst left found rest → IsFirstByte test hay found
  first_of_places left rest None is taken = λ k low high. nowhere (length hay) 0 (sym all_places ∙ sym is ∙ taken.0) k low (omega arith)
  first_of_places left rest (Some x) is taken =
      let first = leads (length hay) 0 x rest (sym all_places ∙ sym is ∙ taken) in
      (record { low = first.0.low; high = omega (arith, first.0.high); before = first.0.before }, first.1)
