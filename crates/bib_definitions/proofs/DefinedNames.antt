-- The definitions of a name, and the last of those with a label below a number.
use Rattle.bib_definitions.proofs.Words.{◌≡◌, ℕ, zero, suc, ◌≤◌, nat_lt, Bool, true, false, cond, List, [], ◌∷◌, Option, Some, None, unwrap_or, length, refl, sym, ◌∙◌, ap, ap₂, subst, arith, bytes_eq, IsPartitionPoint, cond-true, cond-false, Text, folded, eq-true, value_at, IsWith, or_else}
use Rattle.bib_definitions.proofs.Words.{Definition, Defined, definitions_of, text_before, Gives}
use Rattle.std.proofs.Common.{slice_index_or}
use Rattle.std.specs.List.{AllWithin}

pub none_of : (defined : Defined) (name : Text) → value_at defined name ≡ None → definitions_of defined name ≡ []
none_of defined name none = ap (λ (o : Option (List Definition)). unwrap_or o []) none

-- a name that is kept with a list has its definitions
pub gives_with : (old new : Defined) (name : Text) (list : List Definition) → IsWith old name list new → Gives old name list new
gives_with old new name list put x = ap (λ (o : Option (List Definition)). unwrap_or o []) (put x) ∙ along (bytes_eq x (folded name)) (value_at old x)
  where
    along : (b : Bool) (o : Option (List Definition)) → unwrap_or (cond b (Some list) o) [] ≡ cond b list (unwrap_or o [])
    along true o = refl
    along false o = refl

-- a name that is given what it has
pub gives_same : (old : Defined) (name : Text) (list : List Definition) → list ≡ definitions_of old (folded name) → Gives old name list old
gives_same old name list is x = at (bytes_eq x (folded name)) refl
  where
    at : (b : Bool) → bytes_eq x (folded name) ≡ b → definitions_of old x ≡ cond b list (definitions_of old x)
    at true t = ap (definitions_of old) (eq-true x (folded name) t) ∙ sym is
    at false t = refl

-- what holds of the list, and of the definitions of each name, holds of those of each name afterwards
pub given_all : (P : List Definition → Type 0) (old new : Defined) (name : Text) (list : List Definition) → Gives old name list new → P list → ((x : Text) → P (definitions_of old x)) → (x : Text) → P (definitions_of new x)
given_all P old new name list gives one all x = subst P (sym (gives x)) (either (bytes_eq x (folded name)))
  where
    either : (b : Bool) → P (cond b list (definitions_of old x))
    either true = one
    either false = all x

-- ---- finding the last of the first definitions

none_before : (l : ℕ) (ds : List Definition) → AllWithin (λ d. nat_lt d.label l ≡ false) ds 0 (length ds) → text_before l ds ≡ None
none_before l [] none = refl
none_before l (e ∷ es) none =
    ap₂ or_else (none_before l es (λ k d low high. none (suc k) d (omega arith) (omega (arith, high)))) (cond-false (nat_lt e.label l) (Some e.text) None (none 0 e (omega arith) (omega arith)))

some_before : (l c : ℕ) (ds : List Definition) (d : Definition) → suc c ≤ length ds → AllWithin (λ d. nat_lt d.label l ≡ true) ds 0 (suc c) → AllWithin (λ d. nat_lt d.label l ≡ false) ds (suc c) (length ds) →
    text_before l ds ≡ Some (slice_index_or ds c d).text
some_before l c [] d le passes fails = absurd (omega (arith, le))
some_before l zero (e ∷ es) d le passes fails =
    ap₂ or_else (none_before l es (λ k d low high. fails (suc k) d (omega arith) (omega (arith, high)))) (cond-true (nat_lt e.label l) (Some e.text) None (passes 0 e (omega arith) (omega arith)))
some_before l (suc c) (e ∷ es) d le passes fails =
    ap (λ o. or_else o (cond (nat_lt e.label l) (Some e.text) None))
    (some_before l c es d (omega (arith, le)) (λ k d low high. passes (suc k) d (omega arith) (omega (arith, high))) (λ k d low high. fails (suc k) d (omega (arith, low)) (omega (arith, high))))

module _ (l count : ℕ) (ds : List Definition) (at : IsPartitionPoint (λ (d : Definition). nat_lt d.label l ≡ true) (λ (d : Definition). nat_lt d.label l ≡ false) ds count) where
  pub before_none : count ≡ 0 → text_before l ds ≡ None
  before_none e = none_before l ds (λ k d low high. at.1 k d (omega (arith, e)) high)

  pub before_some : (d : Definition) (c : ℕ) → suc c ≡ count → count ≤ length ds → text_before l ds ≡ Some (slice_index_or ds c d).text
  before_some d c e le = some_before l c ds d (omega (arith, e, le)) (λ k d low high. at.0 k d low (omega (arith, e, high))) (λ k d low high. at.1 k d (omega (arith, e, low)) high)
