-- The kept entries are the least that have their parents.
use Rattle.std.proofs.Common.{◌≡◌, ℕ, zero, suc, ◌==◌, ◌||◌, Bool, true, false, List, [], ◌∷◌, Some, length, ⊎_elim, refl, sym, ◌∙◌, ap, subst, eq-eqb}
use Rattle.std.specs.List.{list_any}
use Rattle.std.proofs.lemmas.Bool.{cases_Bool, eqb-true, false≢true}
use Rattle.bib_spec.specs.Records.{EntryTexts, parent, ancestors, ancestors_from}
use Rattle.bib_spec.proofs.Keys.{option_cases}
use Rattle.bib_spec.proofs.Parents.{parent_within}
use Rattle.extract_spec.specs.Extract.{is_kept_entry}
use Rattle.extract_spec.specs.Needs.{kept_entries_are_least}
use Rattle.extract_spec.proofs.Chains.{step_to, step_met, no_step}

or_true : (b : Bool) → (b || true) ≡ true
or_true true = refl
or_true false = refl

module _ (entries : List EntryTexts) (set : ℕ → Bool) (parents : (n p : ℕ) → set n ≡ true → parent entries n ≡ Some p → set p ≡ true) where
  chain_in : (d : ℕ) (ns : List ℕ) (c n : ℕ) → set c ≡ true → list_any (λ a. a == n) (ancestors_from (parent entries) d ns c) ≡ true → set n ≡ true
  chain_in zero ns c n h e = absurd (false≢true e)
  chain_in (suc d) ns c n h e =
      let P = parent entries in
      let N = length entries in
      let W = parent_within entries in
      let has = list_any (λ a. a == n) in ⊎_elim
      (λ none. absurd (false≢true (sym (ap has (no_step P N W (suc d) ns c none)) ∙ e)))
      (λ some. ⊎_elim
      (λ met. absurd (false≢true (sym (ap has (step_met P N W d ns c some.0 some.1 met)) ∙ e)))
      (λ new. ⊎_elim
      (λ is. subst (λ m. set m ≡ true) (eqb-true some.0 n is) (parents c some.0 h some.1))
      (λ far. chain_in d (some.0 ∷ ns) some.0 n (parents c some.0 h some.1)
      (sym (ap (λ b. b || has (ancestors_from P d (some.0 ∷ ns) some.0)) far) ∙ sym (ap has (step_to P N W d ns c some.0 some.1 new)) ∙ e))
      (cases_Bool (some.0 == n)))
      (cases_Bool (list_any (λ v. v == some.0) ns)))
      (option_cases (parent entries c))

  list_in : (list : List ℕ) (n : ℕ) → ((c : ℕ) → list_any (λ v. v == c) list ≡ true → set c ≡ true) → is_kept_entry entries list n ≡ true → set n ≡ true
  list_in [] n each e = absurd (false≢true e)
  list_in (c ∷ list) n each e =
      let h : set c ≡ true = each c (ap (λ b. b || list_any (λ v. v == c) list) (eq-eqb c c refl)) in
      let has = list_any (λ a. a == n) (ancestors entries (length entries) c) in ⊎_elim
      (λ reached. ⊎_elim
      (λ is. subst (λ m. set m ≡ true) (eqb-true c n is) h)
      (λ far. chain_in (length entries) (c ∷ []) c n h (sym (ap (λ b. b || has) far) ∙ reached))
      (cases_Bool (c == n)))
      (λ other. list_in list n (λ a q. each a (ap (λ b. (c == a) || b) q ∙ or_true (c == a)))
      (sym (ap (λ b. b || is_kept_entry entries list n) other) ∙ e))
      (cases_Bool (c == n || has))

pub kept-entries_are_least : kept_entries_are_least
kept-entries_are_least entries list set each parents n e = list_in entries set parents list n each e
