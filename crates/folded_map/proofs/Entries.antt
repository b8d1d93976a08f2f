-- The entries that the code keeps by folded names, as the list of the names with their values.
use Rattle.std.proofs.Common.{◌≡◌, ℕ, ◌<◌, ◌≤◌, Bool, true, false, cond, List, [], ◌∷◌, length, refl, sym, ap, subst, ◌∙◌, arith, Option, None, Some, if◌then◌else◌, ⊎_elim}
use Rattle.std.proofs.lemmas.Bool.{cases_Bool, cond-true, cond-false, both_ways, false_from_ne_true, and_parts, leb-true}
use Rattle.std.proofs.lemmas.Slice.Eq.{bytes_eq-Decides}
use Rattle.std.specs.Str.{bytes_eq}
use Rattle.std.specs.HashMap.{HashMap}
use Rattle.std.specs.Map.{KeepsOthers}
use Rattle.indexmap.specs.IndexMap.{insert_entry, get_by, UpdatesBy}
use Rattle.bib_spec.specs.Bytes.{name_limit}
use Rattle.bib_spec.specs.Text.{Text, folded, is_name, is_name_within, does_not_begin_with}
use Rattle.bib_spec.proofs.Names.{eq-true}
use Rattle.std.specs.Prelude.{◌&&◌, nat_lt, nat_le, IsTrue}
use Rattle.std.specs.Char.{to_ascii_lowercase, is_ascii_digit}
use Rattle.std.proofs.lemmas.List.{length-map}
use Rattle.folded_map.specs.FoldedMap.{value_at}

-- the code finds the value of a name
pub value_at-get : {V S : Type 0} (m : HashMap Text V S) (name : Text) → get_by (λ k. bytes_eq name k) m ≡ value_at m.entries name
value_at-get {V} m name = along m.entries
  where
    along : (es : List (Text × V)) → Rattle.std.specs.Map.lookup (λ (k : Text). bytes_eq name k) es ≡ value_at es name
    along [] = refl
    along (e ∷ es) = ap (cond (bytes_eq name e.0) (Some e.1)) (along es)

not_longer : (a b : Text) → length b < length a → bytes_eq a b ≡ false
not_longer a b longer = false_from_ne_true (bytes_eq a b) (λ h. let e = ap (length {A = ℕ}) (eq-true a b h) in absurd (omega (arith, e, longer)))

-- an inserted value is found, and all others are found as before
pub value_at-insert : {V : Type 0} (es : List (Text × V)) (k : Text) (v : V) (x : Text) → value_at (insert_entry bytes_eq es k v) x ≡ (if bytes_eq x k then Some v else value_at es x)
value_at-insert [] k v x = refl
value_at-insert {V} (e ∷ es) k v x = ⊎_elim same (other (value_at-insert es k v x)) (cases_Bool (bytes_eq k e.0))
  where
    same : bytes_eq k e.0 ≡ true → value_at (insert_entry bytes_eq (e ∷ es) k v) x ≡ (if bytes_eq x k then Some v else value_at (e ∷ es) x)
    same h =
        let e1 : k ≡ e.0 = eq-true k e.0 h in
        let e2 : value_at (insert_entry bytes_eq (e ∷ es) k v) x ≡ (if bytes_eq x e.0 then Some v else value_at es x) = ap (λ l. value_at l x) (cond-true (bytes_eq k e.0) ((e.0, v) ∷ es) (e ∷ insert_entry bytes_eq es k v) h) in
        let twice : (b : Bool) → cond b (Some v) (value_at es x) ≡ cond b (Some v) (cond b (Some e.1) (value_at es x)) = elim [ true ↦ refl | false ↦ refl ] in
        e2 ∙ twice (bytes_eq x e.0) ∙ ap (λ (t : Text). if bytes_eq x t then Some v else value_at (e ∷ es) x) (sym e1)

    other : value_at (insert_entry bytes_eq es k v) x ≡ (if bytes_eq x k then Some v else value_at es x) → bytes_eq k e.0 ≡ false → value_at (insert_entry bytes_eq (e ∷ es) k v) x ≡ (if bytes_eq x k then Some v else value_at (e ∷ es) x)
    other later h =
        let e2 : value_at (insert_entry bytes_eq (e ∷ es) k v) x ≡ (if bytes_eq x e.0 then Some e.1 else (if bytes_eq x k then Some v else value_at es x)) = ap (λ l. value_at l x) (cond-false (bytes_eq k e.0) ((e.0, v) ∷ es) (e ∷ insert_entry bytes_eq es k v) h) ∙ ap (cond (bytes_eq x e.0) (Some e.1)) later in
        e2 ∙ swapped (bytes_eq x e.0) (bytes_eq x k) (Some e.1) (Some v) (value_at es x) apart
      where
        apart : bytes_eq x e.0 ≡ true → bytes_eq x k ≡ true → ⊥
        apart p q = both_ways (bytes_eq k e.0) h ((bytes_eq-Decides k e.0).1 (sym (eq-true x k q) ∙ eq-true x e.0 p))

        swapped : (a b : Bool) (p q r : Option V) → (a ≡ true → b ≡ true → ⊥) → cond a p (cond b q r) ≡ cond b q (cond a p r)
        swapped true true p q r never = absurd (never refl refl)
        swapped true false p q r never = refl
        swapped false true p q r never = refl
        swapped false false p q r never = refl

-- names are still short if only a short one gets another value
pub names_stay_short : {V : Type 0} (old new : List (Text × V)) (name : Text) (r : Option V) → length name ≤ name_limit
    → ((x : Text) → value_at new x ≡ (if bytes_eq x name then r else value_at old x))
    → ((x : Text) → name_limit < length x → value_at old x ≡ None)
    → (x : Text) → name_limit < length x → value_at new x ≡ None
names_stay_short old new name r is told short x longer =
    told x ∙ cond-false (bytes_eq x name) r (value_at old x) (not_longer x name (omega (arith, is, longer))) ∙ short x longer

-- a replaced value is found, and all others are found as before
pub value_at-updates : {V S : Type 0} (old new : HashMap Text V S) (t : Text) (w : Option V) → UpdatesBy bytes_eq (λ k. bytes_eq t k) old new w
    → (x : Text) → value_at new.entries x ≡ (if bytes_eq x t then w else value_at old.entries x)
unfolding KeepsOthers
value_at-updates {V} {S} old new t w u x = ⊎_elim here there (cases_Bool (bytes_eq x t))
  where
    here : bytes_eq x t ≡ true → value_at new.entries x ≡ (if bytes_eq x t then w else value_at old.entries x)
    here e =
        sym (value_at-get new x)
        ∙ ap (λ (y : Text). get_by (λ k. bytes_eq y k) new) (eq-true x t e)
        ∙ u.1
        ∙ sym (cond-true (bytes_eq x t) w (value_at old.entries x) e)

    there : bytes_eq x t ≡ false → value_at new.entries x ≡ (if bytes_eq x t then w else value_at old.entries x)
    there e =
        sym (value_at-get new x)
        ∙ u.3 (λ k. bytes_eq x k) (λ a b h. ap (λ (y : Text). bytes_eq y b) (eq-true x a h)) apart
        ∙ value_at-get old x
        ∙ sym (cond-false (bytes_eq x t) w (value_at old.entries x) e)
      where
        apart : (k : Text) → bytes_eq t k ≡ true → bytes_eq x k ≡ false
        apart k p = false_from_ne_true (bytes_eq x k) (λ h. both_ways (bytes_eq x t) e ((bytes_eq-Decides x t).1 (eq-true x k h ∙ sym (eq-true t k p))))

-- removing a name without a value changes nothing
pub value_at-absent : {V : Type 0} (es : List (Text × V)) (t : Text) → value_at es t ≡ None → (x : Text) → value_at es x ≡ (if bytes_eq x t then None else value_at es x)
value_at-absent es t none x = ⊎_elim
    (λ e. ap (value_at es) (eq-true x t e) ∙ none ∙ sym (cond-true (bytes_eq x t) None (value_at es x) e))
    (λ e. sym (cond-false (bytes_eq x t) None (value_at es x) e))
    (cases_Bool (bytes_eq x t))

-- folding keeps the length
pub folded_long : (name : Text) → name_limit < length name → name_limit < length (folded name)
folded_long name longer = subst (λ (n : ℕ). name_limit < n) (sym (length-map name to_ascii_lowercase)) longer

pub folded_short : (name : Text) → length name ≤ name_limit → length (folded name) ≤ name_limit
folded_short name short = subst (λ (n : ℕ). n ≤ name_limit) (sym (length-map name to_ascii_lowercase)) short

-- a name is short
pub name_short : (name : Text) → IsTrue (is_name name) → length name ≤ name_limit
unfolding is_name_within
name_short name is =
    let some = nat_lt 0 (length name) in
    let short = nat_le (length name) name_limit in
    let no_digit = does_not_begin_with is_ascii_digit name in
    leb-true (length name) name_limit (and_parts some short (and_parts (some && short) no_digit (and_parts (some && short && no_digit) _ is).0).0).1
