-- Chains of parents that are followed to their ends.
use Rattle.std.proofs.Common.{◌≡◌, ℕ, zero, suc, ◌+◌, ◌<◌, ◌≤◌, ◌==◌, ◌||◌, Bool, true, false, List, [], ◌∷◌, Option, Some, None, option_and_then, slice_get, length, ⊎_elim, refl, sym, ◌∙◌, ap, subst, arith, zero-add, eq-eqb}
use Rattle.std.specs.List.{list_any, AllByRecursion}
unfoldable use Rattle.std.specs.List.{IsDistinct}
use Rattle.std.specs.Option.{option_map_or}
use Rattle.std.proofs.lemmas.Bool.{cases_Bool, cond-true, cond-false, eqb-true, or_parts, false≢true}
use Rattle.std.proofs.lemmas.Option.{none-some, option_and_then_some, slice_get_within}
use Rattle.std.proofs.lemmas.Map.Steps.{length-le_from_distinct_below}
use Rattle.bib_spec.specs.Records.{EntryTexts, entries_of, target_of, target, other_than, parent, unvisited, ancestors, ancestors_from, expanded}
use Rattle.bib_spec.proofs.Keys.{option_cases}
use Rattle.bib_spec.proofs.Names.{both_true}
use Rattle.bib_spec.proofs.Parents.{parent_within}
use Rattle.extract_spec.specs.Extract.{found, is_kept_entry, number_in, keeps_for}
use Rattle.extract_spec.specs.Laws.{IsClosed, kept_entries_are_closed, extract_means_alike}
use Rattle.extract_spec.proofs.ExtractSays.{entries-picked}
use Rattle.extract_spec.proofs.ExtractMeans.{closed-mean_alike}

-- the number is in the list
abbrev has : ℕ → List ℕ → Bool
has p ns = list_any (λ v. v == p) ns

pub equal_either_way : (a b : ℕ) → (a == b) ≡ (b == a)
equal_either_way a b = both_true (a == b) (b == a) (λ e. eq-eqb b a (sym (eqb-true a b e))) (λ e. eq-eqb a b (sym (eqb-true b a e)))

other_than_all : (p : ℕ) (ns : List ℕ) → has p ns ≡ false → AllByRecursion (λ y. (p == y) ≡ false) ns
other_than_all p [] e = tt
other_than_all p (n ∷ ns) e = let parts = or_parts (n == p) (has p ns) e in (equal_either_way p n ∙ parts.0, other_than_all p ns parts.1)

module _ (parents : ℕ → Option ℕ) (count : ℕ) (within : (n m : ℕ) → parents n ≡ Some m → m < count) where
  -- the numbers are distinct and all less than the count
  abbrev AreVisited : List ℕ → Type 0
  AreVisited ns = IsDistinct (λ a b. a == b) ns × ((q : ℕ) → list_any (λ v. q == v) ns ≡ true → q < count)

  one_more : (p : ℕ) (ns : List ℕ) → AreVisited ns → p < count → has p ns ≡ false → AreVisited (p ∷ ns)
  unfolding IsDistinct
  one_more p ns are lt new = (
    (other_than_all p ns new, are.0),
    λ q e. ⊎_elim
        (λ is. subst (λ m. m < count) (sym (eqb-true q p is)) lt)
        (λ other. are.1 q (sym (ap (λ b. b || list_any (λ v. q == v) ns) other) ∙ e))
        (cases_Bool (q == p)),
  )

  pub step_to : (d : ℕ) (ns : List ℕ) (n p : ℕ) → parents n ≡ Some p → has p ns ≡ false → ancestors_from parents (suc d) ns n ≡ p ∷ ancestors_from parents d (p ∷ ns) p
  step_to d ns n p e new =
      let F : Option ℕ → List ℕ = λ o. option_map_or (λ m. m ∷ ancestors_from parents d (m ∷ ns) m) o [] in
      ap (λ o. F (option_and_then (unvisited ns) o)) e ∙ ap F (cond-false (has p ns) None (Some p) new)

  pub step_met : (d : ℕ) (ns : List ℕ) (n p : ℕ) → parents n ≡ Some p → has p ns ≡ true → ancestors_from parents (suc d) ns n ≡ []
  step_met d ns n p e met =
      let F : Option ℕ → List ℕ = λ o. option_map_or (λ m. m ∷ ancestors_from parents d (m ∷ ns) m) o [] in
      ap (λ o. F (option_and_then (unvisited ns) o)) e ∙ ap F (cond-true (has p ns) None (Some p) met)

  pub no_step : (d : ℕ) (ns : List ℕ) (n : ℕ) → parents n ≡ None → ancestors_from parents d ns n ≡ []
  no_step zero ns n e = refl
  no_step (suc d) ns n e = ap (λ o. option_map_or (λ m. m ∷ ancestors_from parents d (m ∷ ns) m) (option_and_then (unvisited ns) o) []) e

  -- a chain as long as there are numbers has come to its end
  stable : (d : ℕ) (ns : List ℕ) (n : ℕ) → AreVisited ns → count ≤ d + length ns → ancestors_from parents (suc d) ns n ≡ ancestors_from parents d ns n
  stable zero ns n are long = ⊎_elim
      (λ none. no_step 1 ns n none)
      (λ some. ⊎_elim
      (λ met. step_met 0 ns n some.0 some.1 met)
      (λ new.
      let more = one_more some.0 ns are (within n some.0 some.1) new in
      let few : suc (length ns) ≤ count = length-le_from_distinct_below (some.0 ∷ ns) count more.0 more.1 in
      absurd (omega (arith, few, long)))
      (cases_Bool (has some.0 ns)))
      (option_cases (parents n))
  stable (suc d) ns n are long = ⊎_elim
      (λ none. no_step (suc (suc d)) ns n none ∙ sym (no_step (suc d) ns n none))
      (λ some. ⊎_elim
      (λ met. step_met (suc d) ns n some.0 some.1 met ∙ sym (step_met d ns n some.0 some.1 met))
      (λ new. step_to (suc d) ns n some.0 some.1 new
      ∙ ap (λ l. some.0 ∷ l) (stable d (some.0 ∷ ns) some.0 (one_more some.0 ns are (within n some.0 some.1) new) (longer (length ns) long))
      ∙ sym (step_to d ns n some.0 some.1 new))
      (cases_Bool (has some.0 ns)))
      (option_cases (parents n))
    where
      longer : (a : ℕ) → count ≤ suc d + a → count ≤ d + suc a
      longer a = omega arith

  -- the parent of one of the chain is the next of the chain
  next : (d : ℕ) (ns : List ℕ) (n m p : ℕ) → has m (ancestors_from parents d ns n) ≡ true → parents m ≡ Some p → has p ns ≡ false → has p (ancestors_from parents (suc d) ns n) ≡ true
  next zero ns n m p h e new = absurd (false≢true h)
  next (suc d) ns n m p h e new = ⊎_elim
      (λ none. absurd (false≢true (sym (ap (has m) (no_step (suc d) ns n none)) ∙ h)))
      (λ some. ⊎_elim
      (λ met. absurd (false≢true (sym (ap (has m) (step_met d ns n some.0 some.1 met)) ∙ h)))
      (λ first.
      let q = some.0 in
      let rest = ancestors_from parents (suc d) (some.0 ∷ ns) some.0 in
      ap (has p) (step_to (suc d) ns n some.0 some.1 first) ∙ ⊎_elim
      (λ is. ap (λ b. b || has p rest) is)
      (λ other.
      let unmet : has p (some.0 ∷ ns) ≡ false = ap (λ b. b || has p ns) other ∙ new in
      ap (λ b. b || has p rest) other ∙ ⊎_elim
      (λ is.
      let at : parents some.0 ≡ Some p = ap parents (eqb-true some.0 m is) ∙ e in
      ap (has p) (step_to d (some.0 ∷ ns) some.0 p at unmet) ∙ ap (λ b. b || has p (ancestors_from parents d (p ∷ (some.0 ∷ ns)) p)) (eq-eqb p p refl))
      (λ not_m. next d (some.0 ∷ ns) some.0 m p
      (sym (ap (λ b. b || has m (ancestors_from parents d (some.0 ∷ ns) some.0)) not_m) ∙ sym (ap (has m) (step_to d ns n some.0 some.1 first)) ∙ h) e unmet)
      (cases_Bool (some.0 == m)))
      (cases_Bool (some.0 == p)))
      (cases_Bool (has some.0 ns)))
      (option_cases (parents n))

  -- the number is c, or of the chain from c
  abbrev pub is_reached : ℕ → ℕ → Bool
  is_reached c n = c == n || has n (ancestors_from parents count (c ∷ []) c)

  alone : (c : ℕ) → c < count → AreVisited (c ∷ [])
  unfolding IsDistinct
  alone c lt = (
    (tt, tt),
    λ q e. ⊎_elim
        (λ is. subst (λ m. m < count) (sym (eqb-true q c is)) lt)
        (λ other. absurd (false≢true (sym (ap (λ b. b || false) other) ∙ e)))
        (cases_Bool (q == c)),
  )

  -- a longer chain has no more
  pub settled : ((n m : ℕ) → parents n ≡ Some m → n < count) → (k c : ℕ) → ancestors_from parents (k + count) (c ∷ []) c ≡ ancestors_from parents count (c ∷ []) c
  settled there zero c = ap (λ d. ancestors_from parents d (c ∷ []) c) (zero-add count)
  settled there (suc k) c = ap (λ d. ancestors_from parents d (c ∷ []) c) (one_longer k) ∙ ⊎_elim
      (λ none. no_step (suc (k + count)) (c ∷ []) c none ∙ sym (no_step count (c ∷ []) c none))
      (λ some. stable (k + count) (c ∷ []) c (alone c (there c some.0 some.1)) (omega arith) ∙ settled there k c)
      (option_cases (parents c))
    where
      one_longer : (k : ℕ) → suc k + count ≡ suc (k + count)
      one_longer k = omega arith

  pub reached_parent : ((n m : ℕ) → parents n ≡ Some m → n < count) → (c n p : ℕ) → (c == n || has n (ancestors_from parents count (c ∷ []) c)) ≡ true → parents n ≡ Some p →
      (c == p || has p (ancestors_from parents count (c ∷ []) c)) ≡ true
  reached_parent there c n p h e = ⊎_elim
      (λ is. ap (λ b. b || has p (ancestors_from parents count (c ∷ []) c)) is)
      (λ other.
      let new : has p (c ∷ []) ≡ false = ap (λ b. b || false) other in
      ap (λ b. b || has p (ancestors_from parents count (c ∷ []) c)) other ∙ ⊎_elim
      (λ none. ⊎_elim
      (λ is. absurd (none-some p (sym none ∙ ap parents (eqb-true c n is) ∙ e)))
      (λ far. absurd (false≢true (sym (ap (has n) (no_step count (c ∷ []) c none)) ∙ sym (ap (λ b. b || has n (ancestors_from parents count (c ∷ []) c)) far) ∙ h)))
      (cases_Bool (c == n)))
      (λ some.
      let ends : ancestors_from parents (suc count) (c ∷ []) c ≡ ancestors_from parents count (c ∷ []) c = stable count (c ∷ []) c (alone c (there c some.0 some.1)) (omega arith) in
      ap (has p) (sym ends) ∙ ⊎_elim
      (λ is. ap (has p) (step_to count (c ∷ []) c p (ap parents (eqb-true c n is) ∙ e) new) ∙ ap (λ b. b || has p (ancestors_from parents count (p ∷ (c ∷ [])) p)) (eq-eqb p p refl))
      (λ far. next count (c ∷ []) c n p (sym (ap (λ b. b || has n (ancestors_from parents count (c ∷ []) c)) far) ∙ h) e new)
      (cases_Bool (c == n)))
      (option_cases (parents c)))
      (cases_Bool (c == p))

pub any_implies : (f g : ℕ → Bool) → ((c : ℕ) → f c ≡ true → g c ≡ true) → (ns : List ℕ) → list_any f ns ≡ true → list_any g ns ≡ true
any_implies f g implies [] e = e
any_implies f g implies (n ∷ ns) e = ⊎_elim
    (λ is. ap (λ b. b || list_any g ns) (implies n is))
    (λ other. ap (λ b. g n || b) (any_implies f g implies ns (sym (ap (λ b. b || list_any f ns) other) ∙ e)) ∙ or_true (g n))
    (cases_Bool (f n))
  where
    or_true : (b : Bool) → (b || true) ≡ true
    or_true true = refl
    or_true false = refl

pub there : (entries : List EntryTexts) (n m : ℕ) → parent entries n ≡ Some m → n < length entries
there entries n m e =
    option_and_then_some (other_than n) (target entries n) m e (λ k found other.
    option_and_then_some (target_of entries) (slice_get entries n) k found (λ entry at named.
    slice_get_within entries n entry at))

pub kept_closed : (entries : List EntryTexts) (list : List ℕ) → IsClosed (is_kept_entry entries list) entries
kept_closed entries list n t h e = ⊎_elim
    (λ own. subst (λ m. is_kept_entry entries list m ≡ true) (sym (eqb-true t n own)) h)
    (λ other.
    let is : parent entries n ≡ Some t = ap (option_and_then (other_than n)) e ∙ cond-false (t == n) None (Some t) other in
    any_implies
    (λ c. c == n || list_any (λ a. a == n) (ancestors entries (length entries) c))
    (λ c. c == t || list_any (λ a. a == t) (ancestors entries (length entries) c))
    (λ c reached. reached_parent (parent entries) (length entries) (parent_within entries) (there entries) c n t reached is) list h)
    (cases_Bool (t == n))

pub kept-closed : kept_entries_are_closed
kept-closed db keys = kept_closed (entries_of db) (found (entries_of db) keys)

pub extract-means : extract_means_alike
extract-means db keys =
    let alike = closed-mean_alike (keeps_for db keys) (entries_of db) (kept-closed db keys) in
    let number = number_in (keeps_for db keys) 0 in
    let is = entries-picked db keys in record {
      records = λ depth n h. ap (λ s. expanded depth s (number n)) is ∙ alike.records depth n h;
      targets = λ n h. ap (λ s. target s (number n)) is ∙ alike.targets n h;
      parents = λ n h. ap (λ s. parent s (number n)) is ∙ alike.parents n h;
    }
