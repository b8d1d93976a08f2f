-- Marks of entries, along a line of parents.
use Rattle.std.proofs.Common.{◌≡◌, ◌≢◌, ℕ, ◌<◌, ◌≤◌, ◌+◌, ◌==◌, ◌||◌, ◌∷◌, [], zero, suc, if◌then◌else◌, ◌⊎◌, Bool, true, false, not, List, length, set, get_or, count_by, Some, None, ⊎_elim, inl, inr, refl, sym, ◌∙◌, ap, subst, arith, eq-eqb, not-suc-le-zero, le_of_suc-le-suc}
use Rattle.std.proofs.lemmas.Bool.{cases_Bool, eqb-true, eqb-false, false≢true}
use Rattle.std.proofs.lemmas.List.{get_or-set_same, get_or-set_other}
use Rattle.std.proofs.lemmas.List.Sums.{sum_by-set}
use Rattle.std.proofs.lemmas.Option.{none-some, same_Some}
use Rattle.bib_spec.specs.Records.{EntryTexts, parent}
use Rattle.extract_spec.specs.Extract.{is_kept_entry}
use Rattle.extract_spec.proofs.ExtractMeans.{parent_kept}
use Rattle.std.specs.List.{list_any}
use Rattle.extract_spec.proofs.Chains.{kept_closed}
use Rattle.extract_spec.proofs.CitedLists.{found_is_kept}
use Rattle.extract_spec.proofs.LeastEntries.{kept-entries_are_least}
use Rattle.bib_extract.specs.Marks.{is_marked, StayMarked, AreClosed, AreClosedBut, AreKept, AreMarksOf}

-- what is marked after one mark more
pub cases-set : (marks : List Bool) (h n : ℕ) → (n ≡ h) ⊎ (is_marked (set marks h true) n ≡ is_marked marks n)
cases-set marks h n = ⊎_elim
    (λ e. inl (eqb-true n h e))
    (λ e. inr (get_or-set_other marks h n true false (eqb-false n h e)))
    (cases_Bool (n == h))

pub marked-set : (marks : List Bool) (h : ℕ) → h < length marks → is_marked (set marks h true) h ≡ true
marked-set marks h lt = get_or-set_same marks h true false lt

pub stay-set : (marks : List Bool) (h : ℕ) → h < length marks → StayMarked marks (set marks h true)
stay-set marks h lt n e = ⊎_elim
    (λ is. ap (is_marked (set marks h true)) is ∙ marked-set marks h lt)
    (λ same. same ∙ e)
    (cases-set marks h n)

module _ (entries : List EntryTexts) where
  -- a line goes on to the parent
  pub closed-on : (marks : List Bool) (h p : ℕ) → h < length marks → parent entries h ≡ Some p → AreClosedBut entries marks h → AreClosedBut entries (set marks h true) p
  closed-on marks h p lt at but n q marked its = ⊎_elim
      (λ is. inr (same_Some q p (sym its ∙ ap (parent entries) is ∙ at)))
      (λ same. ⊎_elim (λ m. inl (stay-set marks h lt q m)) (λ e. inl (ap (is_marked (set marks h true)) e ∙ marked-set marks h lt)) (but n q (sym same ∙ marked) its))
      (cases-set marks h n)

  -- a line ends at an entry without a parent
  pub closed-end : (marks : List Bool) (h : ℕ) → h < length marks → parent entries h ≡ None → AreClosedBut entries marks h → AreClosed entries (set marks h true)
  closed-end marks h lt none but n q marked its = ⊎_elim
      (λ is. absurd (none-some q (sym none ∙ ap (parent entries) (sym is) ∙ its)))
      (λ same. ⊎_elim (λ m. stay-set marks h lt q m) (λ e. ap (is_marked (set marks h true)) e ∙ marked-set marks h lt) (but n q (sym same ∙ marked) its))
      (cases-set marks h n)

  -- a line ends at an entry that is marked
  pub closed-met : (marks : List Bool) (h : ℕ) → is_marked marks h ≡ true → AreClosedBut entries marks h → AreClosed entries marks
  closed-met marks h m but n q marked its = ⊎_elim (λ is. is) (λ e. ap (is_marked marks) e ∙ m) (but n q marked its)

  pub closed-begin : (marks : List Bool) (h : ℕ) → AreClosed entries marks → AreClosedBut entries marks h
  closed-begin marks h closed n q marked its = inl (closed n q marked its)

  pub kept-set : (list : List ℕ) (marks : List Bool) (h : ℕ) → is_kept_entry entries list h ≡ true → AreKept entries list marks → AreKept entries list (set marks h true)
  kept-set list marks h k all n marked = ⊎_elim
      (λ is. ap (is_kept_entry entries list) is ∙ k)
      (λ same. all n (sym same ∙ marked))
      (cases-set marks h n)

  pub kept-parent : (list : List ℕ) (h p : ℕ) → is_kept_entry entries list h ≡ true → parent entries h ≡ Some p → is_kept_entry entries list p ≡ true
  kept-parent list h p k at = parent_kept (is_kept_entry entries list) entries (kept_closed entries list) h p k at

-- 1 for a mark that is left to be made
abbrev one_left : Bool → ℕ
one_left b = if not b then 1 else 0

-- there is one fewer to mark
pub fewer-unmarked : (marks : List Bool) (h : ℕ) → h < length marks → is_marked marks h ≡ false → count_by not (set marks h true) < count_by not marks
fewer-unmarked marks h lt e =
    let sums = sum_by-set one_left marks h true false lt in
    let here = ap one_left e in
    omega (arith, sums, here)

-- ---- all of a list

-- the first of the list are marked, with all parents, and nothing but what is kept for the list
pub record AreMarkedTo (entries : List EntryTexts) (list : List ℕ) (count : ℕ) (marks : List Bool) : Type 0 where
  pub first : (k : ℕ) → k < count → k < length list → is_marked marks (get_or list k 0) ≡ true
  pub closed : AreClosed entries marks
  pub kept : AreKept entries list marks

pub marked-none : (entries : List EntryTexts) (list : List ℕ) (marks : List Bool) → ((n : ℕ) → is_marked marks n ≡ false) → AreMarkedTo entries list 0 marks
marked-none entries list marks none = record {
  first = λ k lt within. absurd (not-suc-le-zero lt);
  closed = λ n p e its. absurd (false≢true (sym (none n) ∙ e));
  kept = λ n e. absurd (false≢true (sym (none n) ∙ e));
}

in_list : (list : List ℕ) (k : ℕ) → k < length list → list_any (λ v. v == get_or list k 0) list ≡ true
in_list [] k lt = absurd (not-suc-le-zero lt)
in_list (n ∷ ns) zero lt = ap (λ b. b || list_any (λ v. v == n) ns) (eq-eqb n n refl)
in_list (n ∷ ns) (suc k) lt = ap (λ b. (n == get_or ns k 0) || b) (in_list ns k (le_of_suc-le-suc lt)) ∙ or_true (n == get_or ns k 0)
  where
    or_true : (b : Bool) → (b || true) ≡ true
    or_true true = refl
    or_true false = refl

pub marked-more : (entries : List EntryTexts) (list : List ℕ) (k n : ℕ) (old new : List Bool) → k < length list → n ≡ get_or list k 0 → is_marked new n ≡ true → StayMarked old new →
    (AreClosed entries old → AreClosed entries new) →
    ((list : List ℕ) → is_kept_entry entries list n ≡ true → AreKept entries list old → AreKept entries list new) → AreMarkedTo entries list k old → AreMarkedTo entries list (k + 1) new
marked-more entries list k n old new lt at marked stay closed kept so_far = record {
  first = λ j less within. ⊎_elim
      (λ e. ap (λ i. is_marked new (get_or list i 0)) (eqb-true j k e) ∙ ap (is_marked new) (sym at) ∙ marked)
      (λ e. stay (get_or list j 0) (so_far.first j (below j less (eqb-false j k e)) within))
      (cases_Bool (j == k));
  closed = closed so_far.closed;
  kept = kept list (subst (λ m. is_kept_entry entries list m ≡ true) (sym at) (found_is_kept entries list (get_or list k 0) (in_list list k lt))) so_far.kept;
}
  where
    below : (j : ℕ) → j < k + 1 → j ≢ k → j < k
    below j less other = omega (arith, less, other)

same_truth : (a b : Bool) → (a ≡ true → b ≡ true) → (b ≡ true → a ≡ true) → a ≡ b
same_truth true true to from = refl
same_truth true false to from = sym (to refl)
same_truth false true to from = from refl
same_truth false false to from = refl

pub marked-all : (entries : List EntryTexts) (list : List ℕ) (k : ℕ) (marks : List Bool) → length list ≤ k → AreMarkedTo entries list k marks → AreMarksOf entries list marks
marked-all entries list k marks past all n = same_truth (is_marked marks n) (is_kept_entry entries list n) (all.kept n)
    (kept-entries_are_least entries list (is_marked marks) (λ c e. first_of list (λ j lt. all.first j (omega (arith, lt, past)) lt) c e) all.closed n)
  where
    first_of : (ns : List ℕ) → ((j : ℕ) → j < length ns → is_marked marks (get_or ns j 0) ≡ true) → (c : ℕ) → list_any (λ v. v == c) ns ≡ true → is_marked marks c ≡ true
    first_of [] each c e = absurd (false≢true e)
    first_of (m ∷ ms) each c e = ⊎_elim
        (λ is. ap (is_marked marks) (sym (eqb-true m c is)) ∙ each 0 (omega arith))
        (λ other. first_of ms (λ j lt. each (suc j) (omega (arith, lt))) c (sym (ap (λ b. b || list_any (λ v. v == c) ms) other) ∙ e))
        (cases_Bool (m == c))
