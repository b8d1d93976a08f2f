-- Where commands begin, and clean texts.
use Rattle.bib_scan.proofs.Words.{◌≡◌, ◌↔◌, ℕ, zero, suc, ◌+◌, Bool, true, false, ◌&&◌, ◌||◌, ◌==◌, cond, [], ◌∷◌, ◌++◌, length, take, drop, refl, sym, ap, subst, ◌∙◌, arith, append-nil, inl, inr, eqb-true, and_parts, cases_Bool, take-append-drop, prefix_len-le-length, codes, take_while, prefix_len}
use Rattle.bib_scan.proofs.Words.{Text, is_space, is_name_byte, is_type_byte, same, after_run, begins_command, opens_body, IsClean, next_command, Next}
use Rattle.std.proofs.lemmas.List.{take-append-le, drop-append-le}
use Rattle.bib_spec.specs.Text.{is_name}
use Rattle.bib_scan.specs.Laws.{IsCleanBeforeSign}
use Rattle.bib_scan.proofs.CommandLemmas.{next_none, next_here}

-- a byte that stops a run stops it at every place
stopped_len : (test : ℕ → Bool) (c : ℕ) (v x : Text) → test c ≡ false → prefix_len test (v ++ c ∷ x) ≡ prefix_len test v
stopped_len test c [] x fails = rw fails refl
stopped_len test c (b ∷ v) x fails = ap (λ (n : ℕ). cond (test b) (1 + n) 0) (stopped_len test c v x fails)

stopped_front : (test : ℕ → Bool) (c : ℕ) (v x : Text) → test c ≡ false → take_while test (v ++ c ∷ x) ≡ take_while test v
stopped_front test c v x fails =
    ap (λ (n : ℕ). take n (v ++ c ∷ x)) (stopped_len test c v x fails) ∙ take-append-le (prefix_len test v) v (c ∷ x) (prefix_len-le-length test v)

stopped_rest : (test : ℕ → Bool) (c : ℕ) (v x : Text) → test c ≡ false → after_run test (v ++ c ∷ x) ≡ after_run test v ++ c ∷ x
stopped_rest test c v x fails =
    ap (λ (n : ℕ). drop n (v ++ c ∷ x)) (stopped_len test c v x fails) ∙ drop-append-le (prefix_len test v) v (c ∷ x) (prefix_len-le-length test v)

opens_at : (v x : Text) → opens_body (v ++ 64 ∷ x) ≡ opens_body v
opens_at [] x = refl
opens_at (b ∷ v) x = refl

at_no_space : is_space 64 ≡ false
unfolding is_space
at_no_space = refl

pub at_no_type : is_type_byte 64 ≡ false
unfolding is_name_byte
at_no_type = refl

-- whether a command begins does not depend on what follows the next at-sign
pub begins_at : (b : ℕ) (v x : Text) → begins_command (b ∷ v ++ 64 ∷ x) ≡ begins_command (b ∷ v)
unfolding begins_command
begins_at b v x =
    let named = stopped_rest is_space 64 v x at_no_space in
    let w = after_run is_space v in
    let name : take_while is_type_byte (after_run is_space (v ++ 64 ∷ x)) ≡ take_while is_type_byte w = ap (take_while is_type_byte) named ∙ stopped_front is_type_byte 64 w x at_no_type in
    let after : opens_body (after_run is_space (after_run is_type_byte (after_run is_space (v ++ 64 ∷ x)))) ≡ opens_body (after_run is_space (after_run is_type_byte w)) =
    ap (λ (u : Text). opens_body (after_run is_space u)) (ap (after_run is_type_byte) named ∙ stopped_rest is_type_byte 64 w x at_no_type)
    ∙ ap opens_body (stopped_rest is_space 64 (after_run is_type_byte w) x at_no_space) ∙ opens_at (after_run is_space (after_run is_type_byte w)) x in
    let G : Text → Bool → Bool = λ n o. b == 64 && is_name n && (same n (codes "comment") || o) in
    ap (λ (n : Text). G n (opens_body (after_run is_space (after_run is_type_byte (after_run is_space (v ++ 64 ∷ x)))))) name ∙ ap (λ (o : Bool). G (take_while is_type_byte w) o) after

-- ---- clean texts

pub clean_nil : IsClean []
unfolding begins_command
clean_nil zero = refl
clean_nil (suc p) = refl

pub clean_cons : (b : ℕ) (u : Text) → begins_command (b ∷ u) ≡ false → IsClean u → IsClean (b ∷ u)
clean_cons b u none clean zero = none
clean_cons b u none clean (suc p) = clean p

pub clean_tail : (b : ℕ) (u : Text) → IsClean (b ∷ u) → IsClean u
clean_tail b u clean p = clean (suc p)

before_sign : (t : Text) → IsClean t → IsCleanBeforeSign t
before_sign [] clean p lt = absurd (omega arith)
before_sign (b ∷ t) clean zero lt = begins_at b t [] ∙ clean 0
before_sign (b ∷ t) clean (suc p) lt = before_sign t (clean_tail b t clean) p (omega arith)

from_before_sign : (t : Text) → IsCleanBeforeSign t → IsClean t
from_before_sign [] clean = clean_nil
from_before_sign (b ∷ t) clean = clean_cons b t (sym (begins_at b t []) ∙ clean 0 (omega arith)) (from_before_sign t (λ p lt. clean (suc p) (omega arith)))

pub clean_before_sign : (t : Text) → IsClean t ↔ IsCleanBeforeSign t
clean_before_sign t = (before_sign t, from_before_sign t)

pub begins_sign : (r : Text) → begins_command r ≡ true → (x : Text) × (r ≡ 64 ∷ x)
unfolding begins_command
begins_sign [] is = cc
begins_sign (b ∷ x) is =
    let signs = and_parts _ _ (and_parts _ _ is).0 in
    (x, ap (λ (c : ℕ). c ∷ x) (eqb-true b 64 signs.0))

-- whether a command begins at a byte is the same in the text alone and with a text after it
pub begins_before : (b : ℕ) (u r : Text) → Next r → begins_command (b ∷ u ++ r) ≡ begins_command (b ∷ u)
begins_before b u r next =
    elim next [
      | inl none ↦ ap (λ (v : Text). begins_command (b ∷ u ++ v)) none ∙ ap (λ (v : Text). begins_command (b ∷ v)) (append-nil u)
      | inr here ↦ let s = begins_sign r here in ap (λ (v : Text). begins_command (b ∷ u ++ v)) s.1 ∙ begins_at b u s.0
    ]

pub next_again : (u r : Text) → IsClean u → Next r → next_command (u ++ r) ≡ length u
unfolding next_command
next_again [] r clean next = elim next [ inl none ↦ ap next_command none | inr here ↦ next_here r here ]
next_again (b ∷ u) r clean next =
    next_none b (u ++ r) (begins_before b u r next ∙ clean 0) ∙ ap (λ (n : ℕ). n + 1) (next_again u r (clean_tail b u clean) next) ∙ omega arith

-- what the search for the next command finds
pub record Found (t : Text) : Type 0 where
  pub clean : IsClean (take (next_command t) t)
  pub next : Next (drop (next_command t) t)

found_by : (b : ℕ) (t : Text) (n : ℕ) → next_command (b ∷ t) ≡ n → IsClean (take n (b ∷ t)) → Next (drop n (b ∷ t)) → Found (b ∷ t)
found_by b t n is clean next = record {
  clean = subst (λ (m : ℕ). IsClean (take m (b ∷ t))) (sym is) clean;
  next = subst (λ (m : ℕ). Next (drop m (b ∷ t))) (sym is) next;
}

pub next_found : (t : Text) → Found t
unfolding next_command
next_found [] = record { clean = clean_nil; next = inl refl }
next_found (b ∷ t) =
    elim (cases_Bool (begins_command (b ∷ t))) [
      | inl here ↦
          let zero_here = next_here (b ∷ t) here in
          found_by b t 0 zero_here clean_nil (inr here)
      | inr none ↦
          let later = next_found t in
          let one : next_command (b ∷ t) ≡ suc (next_command t) = next_none b t none ∙ omega arith in
          let u = take (next_command t) t in
          let split : u ++ drop (next_command t) t ≡ t = take-append-drop (next_command t) t in
          let alone : begins_command (b ∷ u) ≡ false = sym (begins_before b u _ later.next) ∙ ap (λ (v : Text). begins_command (b ∷ v)) split ∙ none in
          found_by b t (suc (next_command t)) one (clean_cons b u alone later.clean) later.next
    ]
