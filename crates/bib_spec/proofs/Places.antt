-- Elements by their place, and the first key that a text names.
use Rattle.std.proofs.Common.{◌≡◌, ℕ, zero, suc, ◌<◌, Bool, true, false, cond, not, ◌&&◌, List, [], ◌∷◌, Option, Some, None, option_map, slice_get, ⊎_elim, refl, sym, ◌∙◌, ap, ap₂, subst, zero-lt-suc, suc-le-suc, not-suc-le-zero, le_of_suc-le-suc}
use Rattle.std.specs.List.{list_any}
use Rattle.std.proofs.lemmas.Bool.{cases_Bool, cond-true, cond-false, false_from_ne_true, or_parts}
use Rattle.std.proofs.lemmas.Option.{same_Some, none-some}
use Rattle.bib_spec.specs.Text.{Text, folded}
use Rattle.bib_spec.specs.Texts.{is_empty}
use Rattle.bib_spec.specs.Records.{first_named, is_named}
use Rattle.bib_spec.proofs.Names.{same_of}

-- what no element passes, no element at a place passes
pub none_at : {X : Type 0} (p : X → Bool) (xs : List X) → list_any p xs ≡ false → (n : ℕ) (x : X) → slice_get xs n ≡ Some x → p x ≡ false
none_at p [] h n x e = absurd (none-some x e)
none_at p (y ∷ ys) h zero x e = ap p (sym (same_Some y x e)) ∙ (or_parts (p y) (list_any p ys) h).0
none_at p (y ∷ ys) h (suc n) x e = none_at p ys (or_parts (p y) (list_any p ys) h).1 n x e

-- the text names the key at m, and none before it
pub record IsFirst (text : Text) (keys : List Text) (m : ℕ) : Type 0 where
  pub key : Text
  pub stands : slice_get keys m ≡ Some key
  pub named : is_named text key ≡ true
  pub before : (j : ℕ) (other : Text) → j < m → slice_get keys j ≡ Some other → is_named text other ≡ false

pub first_from : (text : Text) (keys : List Text) (m : ℕ) → IsFirst text keys m → first_named text keys ≡ Some m
first_from text [] m h = absurd (none-some h.key h.stands)
first_from text (k ∷ ks) zero h =
    cond-true (is_named text k) (Some 0) (option_map suc (first_named text ks)) (ap (is_named text) (same_Some k h.key h.stands) ∙ h.named)
first_from text (k ∷ ks) (suc m) h =
    cond-false (is_named text k) (Some 0) (option_map suc (first_named text ks)) (h.before zero k (zero-lt-suc m) refl)
    ∙ ap (option_map suc) (first_from text ks m (record { key = h.key; stands = h.stands; named = h.named; before = λ j other lt e. h.before (suc j) other (suc-le-suc lt) e }))

pub suc_some : (o : Option ℕ) (m : ℕ) → option_map suc o ≡ Some m → (p : ℕ) × (o ≡ Some p) × (suc p ≡ m)
suc_some None m e = absurd (none-some m e)
suc_some (Some p) m e = (p, refl, same_Some (suc p) m e)

suc_none : (o : Option ℕ) → option_map suc o ≡ None → o ≡ None
suc_none None e = refl
suc_none (Some p) e = absurd (none-some (suc p) (sym e))

pub first_is : (text : Text) (keys : List Text) (m : ℕ) → first_named text keys ≡ Some m → IsFirst text keys m
first_is text [] m e = absurd (none-some m e)
first_is text (k ∷ ks) m e = ⊎_elim
    (λ t. let at_zero : zero ≡ m = same_Some zero m (sym (cond-true (is_named text k) (Some zero) (option_map suc (first_named text ks)) t) ∙ e) in
    subst (λ (m : ℕ). IsFirst text (k ∷ ks) m) at_zero (record { key = k; stands = refl; named = t; before = λ j other lt _. absurd (not-suc-le-zero lt) }))
    (λ t. let rest = suc_some (first_named text ks) m (sym (cond-false (is_named text k) (Some zero) (option_map suc (first_named text ks)) t) ∙ e) in
    subst (λ (m : ℕ). IsFirst text (k ∷ ks) m) rest.2 (later t rest.0 (first_is text ks rest.0 rest.1)))
    (cases_Bool (is_named text k))
  where
    later_before : is_named text k ≡ false → (p : ℕ) → IsFirst text ks p → (j : ℕ) (other : Text) → j < suc p → slice_get (k ∷ ks) j ≡ Some other → is_named text other ≡ false
    later_before t p first zero other lt s = ap (is_named text) (sym (same_Some k other s)) ∙ t
    later_before t p first (suc j) other lt s = first.before j other (le_of_suc-le-suc lt) s

    later : is_named text k ≡ false → (p : ℕ) → IsFirst text ks p → IsFirst text (k ∷ ks) (suc p)
    later t p first = record { key = first.key; stands = first.stands; named = first.named; before = later_before t p first }

pub none_from : (text : Text) (keys : List Text) → ((j : ℕ) (key : Text) → slice_get keys j ≡ Some key → is_named text key ≡ false) → first_named text keys ≡ None
none_from text [] h = refl
none_from text (k ∷ ks) h =
    cond-false (is_named text k) (Some 0) (option_map suc (first_named text ks)) (h zero k refl) ∙ ap (option_map suc) (none_from text ks (λ j key e. h (suc j) key e))

pub none_is : (text : Text) (keys : List Text) → first_named text keys ≡ None → (j : ℕ) (key : Text) → slice_get keys j ≡ Some key → is_named text key ≡ false
none_is text [] e j key s = absurd (none-some key s)
none_is text (k ∷ ks) e zero key s = ap (is_named text) (sym (same_Some k key s))
    ∙ false_from_ne_true (is_named text k) (λ t. none-some zero (sym e ∙ cond-true (is_named text k) (Some zero) (option_map suc (first_named text ks)) t))
none_is text (k ∷ ks) e (suc j) key s = ⊎_elim
    (λ t. absurd (none-some zero (sym e ∙ cond-true (is_named text k) (Some zero) (option_map suc (first_named text ks)) t)))
    (λ t. none_is text ks (suc_none (first_named text ks) (sym (cond-false (is_named text k) (Some zero) (option_map suc (first_named text ks)) t) ∙ e)) j key s)
    (cases_Bool (is_named text k))

-- a text that is the same, folded, names the same entry
pub first_named_same : (a b : Text) (keys : List Text) → folded a ≡ folded b → first_named a keys ≡ first_named b keys
first_named_same a b [] e = refl
first_named_same a b (k ∷ ks) e =
    ap₂ (λ t r. cond t (Some 0) (option_map suc r)) (ap (λ s. not (is_empty k) && s) (same_of k a k b refl e)) (first_named_same a b ks e)
