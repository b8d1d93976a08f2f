-- What is kept of parents, by their numbers.
use Rattle.bib_keys.proofs.Words.{◌≡◌, ◌<◌, ◌∙◌, ℕ, List, Option, None, Some, true, false, length, option_map, sym, subst, same_Some, kept_of, KeepTheSame}
use Rattle.std.proofs.Common.{◌≢◌, ◌⊎◌, IfSome, set, inl, inr}
use Rattle.std.proofs.Math.Dec.{eqb}
use Rattle.std.proofs.lemmas.Bool.Decides.{eqb_tells}
use Rattle.std.proofs.lemmas.List.{get_or-set_same, get_or-set_other}
use Rattle.std.proofs.lemmas.Option.{none-some}

-- what holds of all that was kept, and of what is put there, holds of all that is kept then
pub kept_put : {X : Type 0} (P : ℕ → X → Type 0) (old mid : List (Option X)) (n : ℕ) (x : X) → KeepTheSame old mid → n < length mid → P n x → ((k : ℕ) → IfSome (kept_of old k) (P k))
    → (k : ℕ) → IfSome (kept_of (set mid n (Some x)) k) (P k)
kept_put {X} P old mid n x same room it kept k = put (eqb_tells k n)
  where
    put : ((eqb k n ≡ true) × (k ≡ n)) ⊎ ((eqb k n ≡ false) × (k ≢ n)) → IfSome (kept_of (set mid n (Some x)) k) (P k)
    put (inl same_n) =
        subst (λ (j : ℕ). IfSome (kept_of (set mid n (Some x)) j) (P j)) (sym same_n.1)
        (subst (λ (o : Option X). IfSome o (P n)) (sym (get_or-set_same mid n (Some x) None room)) it)
    put (inr other) = subst (λ (o : Option X). IfSome o (P k)) (sym (get_or-set_other mid n k (Some x) None other.1 ∙ same k)) (kept k)

-- a value computed from what is kept has each property that such a value must have
pub kept_told : {X Y : Type 0} (f : X → Y) (kept : Option X) (told what : Y) → Some told ≡ option_map f kept → IfSome kept (λ x. f x ≡ what) → told ≡ what
kept_told f None told what is holds = absurd (none-some told (sym is))
kept_told f (Some x) told what is holds = same_Some told (f x) is ∙ holds
