-- Labels are counted by their codes.
use Rattle.std.proofs.Common.{◌≡◌, ◌==◌, ℕ, ◌+◌, ◌<◌, ◌||◌, ◌&&◌, not, ⊎_elim, Bool, true, false, cond, List, [], ◌∷◌, length, take, get_or, map, count_by, refl, sym, ◌∙◌, ap, ap₂, subst, arith}
use Rattle.std.specs.Prelude.{nat_le}
use Rattle.std.specs.Str.{bytes_eq}
use Rattle.std.specs.List.{list_all, list_any}
use Rattle.std.proofs.lemmas.Bool.{cases_Bool, eqb-true}
use Rattle.std.proofs.lemmas.List.{take_more}
use Rattle.std.proofs.lemmas.List.Sums.{sum_by-append, sum_by-cons}
use Rattle.bib_spec.specs.Text.{Text}
use Rattle.merge_spec.specs.Units.{Label, EntryLabel, MacroLabel, BytesLabel, same_label}
use Rattle.bib_places.specs.LabelCodes.{code_of}
use Rattle.bib_places.specs.Tallies.{count_of}
use Rattle.bib_places.proofs.Lists.{all-map}

-- labels with one code are the same
pub same-codes : (a b : Label) → bytes_eq (code_of a) (code_of b) ≡ same_label a b
same-codes (EntryLabel a) (EntryLabel b) = refl
same-codes (MacroLabel a) (MacroLabel b) = refl
same-codes (BytesLabel a) (BytesLabel b) = refl
same-codes (EntryLabel a) (MacroLabel b) = refl
same-codes (EntryLabel a) (BytesLabel b) = refl
same-codes (MacroLabel a) (EntryLabel b) = refl
same-codes (MacroLabel a) (BytesLabel b) = refl
same-codes (BytesLabel a) (EntryLabel b) = refl
same-codes (BytesLabel a) (MacroLabel b) = refl

-- one more element
pub count-cons : {X : Type 0} (test : X → Bool) (x : X) (xs : List X) → count_by test (x ∷ xs) ≡ cond (test x) 1 0 + count_by test xs
count-cons test x xs = sum_by-cons (λ y. cond (test y) 1 0) x xs

-- a label is as often in a list as its code among the codes
pub count-codes : (l : Label) (labels : List Label) → count_of (code_of l) (map code_of labels) ≡ count_by (same_label l) labels
count-codes l [] = refl
count-codes l (m ∷ labels) =
    count-cons (bytes_eq (code_of l)) (code_of m) (map code_of labels)
    ∙ ap₂ (λ b n. cond b 1 0 + n) (same-codes l m) (count-codes l labels)
    ∙ sym (count-cons (same_label l) m labels)

-- an element passes the test if those that do are counted
pub any-counted : {X : Type 0} (test : X → Bool) (xs : List X) → list_any test xs ≡ not (count_by test xs == 0)
any-counted test [] = refl
any-counted test (x ∷ xs) =
    ⊎_elim (λ e. ap (λ b. b || list_any test xs) e
    ∙ sym (ap (λ n. not (n == 0)) (count-cons test x xs ∙ ap (λ b. cond b 1 0 + count_by test xs) e) ∙ ap not (some (count_by test xs))))
    (λ e. ap (λ b. b || list_any test xs) e ∙ any-counted test xs
    ∙ sym (ap (λ n. not (n == 0)) (count-cons test x xs ∙ ap (λ b. cond b 1 0 + count_by test xs) e ∙ none (count_by test xs))))
    (cases_Bool (test x))
  where
    none : (n : ℕ) → 0 + n ≡ n
    none n = omega arith

    some : (n : ℕ) → (1 + n == 0) ≡ false
    some n = ⊎_elim (λ e. absurd (no n (eqb-true (1 + n) 0 e))) (λ e. e) (cases_Bool (1 + n == 0))
      where
        no : (m : ℕ) → 1 + m ≡ 0 → ⊥
        no m e = omega (arith, e)

-- one more text
pub count-more : (text : Text) (texts : List Text) (n : ℕ) (next : Text) → n < length texts → next ≡ get_or texts n next → count_of text (take (n + 1) texts) ≡ count_of text (take n texts) + cond (bytes_eq text next) 1 0
count-more text texts n next lt is =
    ap (count_of text) (take_more texts n next lt)
    ∙ sum_by-append (λ t. cond (bytes_eq text t) 1 0) (take n texts) (get_or texts n next ∷ [])
    ∙ ap (λ k. count_of text (take n texts) + k) (count-cons (bytes_eq text) (get_or texts n next) [] ∙ add_none (cond (bytes_eq text (get_or texts n next)) 1 0) ∙ ap (λ t. cond (bytes_eq text t) 1 0) (sym is))
  where
    add_none : (a : ℕ) → a + 0 ≡ a
    add_none a = omega arith

-- codes that are seldom are those of labels that are
pub seldom-codes : (merged some ours theirs : List Label) →
    list_all (λ code. nat_le (count_of code (map code_of merged)) (count_of code (map code_of ours)) || nat_le (count_of code (map code_of merged)) (count_of code (map code_of theirs))) (map code_of some) ≡ true →
    list_all (λ l. nat_le (count_by (same_label l) merged) (count_by (same_label l) ours) || nat_le (count_by (same_label l) merged) (count_by (same_label l) theirs)) some ≡ true
seldom-codes merged some ours theirs all = sym (each some) ∙ sym (all-map _ code_of some) ∙ all
  where
    one : (l : Label) → (nat_le (count_of (code_of l) (map code_of merged)) (count_of (code_of l) (map code_of ours)) || nat_le (count_of (code_of l) (map code_of merged)) (count_of (code_of l) (map code_of theirs)))
        ≡ (nat_le (count_by (same_label l) merged) (count_by (same_label l) ours) || nat_le (count_by (same_label l) merged) (count_by (same_label l) theirs))
    one l = ap₂ (λ a b. a || b) (ap₂ nat_le (count-codes l merged) (count-codes l ours)) (ap₂ nat_le (count-codes l merged) (count-codes l theirs))

    each : (ls : List Label) →
        list_all (λ l. nat_le (count_of (code_of l) (map code_of merged)) (count_of (code_of l) (map code_of ours)) || nat_le (count_of (code_of l) (map code_of merged)) (count_of (code_of l) (map code_of theirs))) ls
        ≡ list_all (λ l. nat_le (count_by (same_label l) merged) (count_by (same_label l) ours) || nat_le (count_by (same_label l) merged) (count_by (same_label l) theirs)) ls
    each [] = refl
    each (l ∷ ls) = ap₂ (λ a b. a && b) (one l) (each ls)

-- the same of texts that are the codes
pub seldom-of : (ms os ts : List Text) (merged ours theirs : List Label) → ms ≡ map code_of merged → os ≡ map code_of ours → ts ≡ map code_of theirs →
    list_all (λ code. nat_le (count_of code ms) (count_of code os) || nat_le (count_of code ms) (count_of code ts)) ms ≡ true →
    list_all (λ l. nat_le (count_by (same_label l) merged) (count_by (same_label l) ours) || nat_le (count_by (same_label l) merged) (count_by (same_label l) theirs)) merged ≡ true
seldom-of ms os ts merged ours theirs m o t all =
    seldom-codes merged merged ours theirs
    (subst (λ us. list_all (λ code. nat_le (count_of code (map code_of merged)) (count_of code (map code_of ours)) || nat_le (count_of code (map code_of merged)) (count_of code us)) (map code_of merged) ≡ true) t
    (subst (λ us. list_all (λ code. nat_le (count_of code (map code_of merged)) (count_of code us) || nat_le (count_of code (map code_of merged)) (count_of code ts)) (map code_of merged) ≡ true) o
    (subst (λ us. list_all (λ code. nat_le (count_of code us) (count_of code os) || nat_le (count_of code us) (count_of code ts)) us ≡ true) m all)))
