-- What reading does if names and keys may be one byte longer: it does the same, unless a name or key was too long.
use Rattle.bib_scan.proofs.Words.{◌≡◌, ℕ, ◌+◌, ◌≤◌, Bool, true, false, cond, [], ◌∷◌, ◌++◌, length, refl, sym, ap, subst, ◌∙◌, arith, append_assoc, Ok, Err, cond-true, cond-false, length-append, append_cancel_right, ReadingFault, Unended, ExpectedName, ExpectedEquals, ExpectedCommaOrClose}
use Rattle.bib_scan.proofs.Words.{ExpectedValue, UnbalancedBrace, KeyTooLong, Text, Read, Halt, ◌>>=◌}
use Rattle.bib_scan.proofs.RunLaws.{not_ok}
use Rattle.bib_scan.proofs.UniqueLaws.{tail_same}
use Rattle.bib_scan.proofs.LocalLaws.{rest_of, LocalAt, Local, after_first}
use Rattle.bib_scan.proofs.MendLaws.{err_is}
use Rattle.bib_scan.proofs.TellLaws.{Past, past_first, past_second}

-- a name or key was too long
abbrev pub IsLong : ReadingFault → Type 0
IsLong Unended = ⊥
IsLong ExpectedName = ⊥
IsLong ExpectedEquals = ⊥
IsLong ExpectedCommaOrClose = ⊥
IsLong ExpectedValue = ⊥
IsLong UnbalancedBrace = ⊥
IsLong KeyTooLong = Unit {0}

abbrev pub IsShort : ReadingFault → Type 0
IsShort f = IsLong f → ⊥

-- `q` reads what `p` reads and stops where `p` stops, except that it continues past the byte at which a name or key was too
-- long for `p`
pub record Widens {A : Type 0} (p q : Text → Read A) : Type 0 where
  pub ok : (t : Text) (x : A × Text) → p t ≡ Ok x → q t ≡ Ok x
  pub same : (t : Text) (h : Halt) → p t ≡ Err h → IsShort h.fault → q t ≡ Err h
  pub long : (t u : Text) (h : Halt) (c : ℕ) (v : Text) → p t ≡ Err h → IsLong h.fault → t ≡ u ++ h.rest → h.rest ≡ c ∷ v → Past q u c

-- a reader that has no limit
pub widen_fixed : {A : Type 0} (p : Text → Read A) → ((t : Text) (h : Halt) → p t ≡ Err h → IsShort h.fault) → Widens p p
widen_fixed p short = record {
  ok = λ t x is. is;
  same = λ t h is fault. is;
  long = λ t u h c v is fault. absurd (short t h is fault);
}

pub widen_never : {A : Type 0} (p : Text → Read A) → ((t : Text) → (x : A × Text) × (p t ≡ Ok x)) → Widens p p
widen_never p reads = widen_fixed p (λ t h is. let x = reads t in absurd (not_ok x.0 h (p t) is x.1))

pub widen_same : {A : Type 0} (p q r s : Text → Read A) → ((t : Text) → p t ≡ r t) → ((t : Text) → q t ≡ s t) → Widens r s → Widens p q
widen_same p q r s first second w = record {
  ok = λ t x is. second t ∙ w.ok t x (sym (first t) ∙ is);
  same = λ t h is short. second t ∙ w.same t h (sym (first t) ∙ is) short;
  long = λ t u h c v is long split rest. ap rest_of (second (u ++ c ∷ [])) ∙ w.long t u h c v (sym (first t) ∙ is) long split rest;
}

-- if readers n of two families do the same as the two readers on texts of at most n bytes, the law for them gives it for
-- the two
pub widen_family : {A : Type 0} (p q : Text → Read A) (F G : ℕ → Text → Read A) → ((n : ℕ) (t : Text) → length t ≤ n → p t ≡ F n t) → ((n : ℕ) (t : Text) → length t ≤ n → q t ≡ G n t) → ((n : ℕ) → Widens (F n) (G n)) → Widens p q
widen_family p q F G first second w = record {
  ok = λ t x is. let n = length t in second n t (omega arith) ∙ (w n).ok t x (sym (first n t (omega arith)) ∙ is);
  same = λ t h is short. let n = length t in second n t (omega arith) ∙ (w n).same t h (sym (first n t (omega arith)) ∙ is) short;
  long = λ t u h c v is long split rest.
      let n = length t + 1 in
      let room : length (u ++ c ∷ []) ≤ n = omega (arith, length-append u (c ∷ []), ap (length {A = ℕ}) split, length-append u h.rest) in
      ap rest_of (second n (u ++ c ∷ []) room) ∙ (w n).long t u h c v (sym (first n t (omega arith)) ∙ is) long split rest;
}

-- ---- readers in a row

module _ {A B : Type 0} (p q : Text → Read A) (f g : A → Text → Read B) (lp : Local p) (lf : (a : A) → Local (f a)) (lg : (a : A) → Local (g a)) (first : Widens p q) (second : (a : A) → Widens (f a) (g a)) where
  bind_ok_wide : (t : Text) (x : B × Text) (m : Read A) → p t ≡ m → (m >>= λ y. f y.0 y.1) ≡ Ok x → (q t >>= λ y. g y.0 y.1) ≡ Ok x
  bind_ok_wide t x (Ok y) is e = ap (λ (m : Read A). m >>= λ z. g z.0 z.1) (first.ok t y is) ∙ (second y.0).ok y.1 x e
  bind_ok_wide t x (Err k) is e = absurd (not_ok x k _ refl e)

  bind_same_wide : (t : Text) (h : Halt) (m : Read A) → p t ≡ m → (m >>= λ y. f y.0 y.1) ≡ Err h → IsShort h.fault → (q t >>= λ y. g y.0 y.1) ≡ Err h
  bind_same_wide t h (Ok y) is e short = ap (λ (m : Read A). m >>= λ z. g z.0 z.1) (first.ok t y is) ∙ (second y.0).same y.1 h e short
  bind_same_wide t h (Err k) is e short =
      let same : k ≡ h = err_is {A = B × Text} k h (Err k) refl e in
      ap (λ (m : Read A). m >>= λ z. g z.0 z.1) (first.same t h (is ∙ ap (λ (j : Halt). Err j) same) short)

  bind_long_wide : (t u : Text) (h : Halt) (c : ℕ) (v : Text) (m : Read A) → p t ≡ m → (m >>= λ y. f y.0 y.1) ≡ Err h → IsLong h.fault → t ≡ u ++ h.rest → h.rest ≡ c ∷ v → Past (λ s. q s >>= λ y. g y.0 y.1) u c
  bind_long_wide t u h c v (Err k) is e long split rest =
      let same : k ≡ h = err_is {A = B × Text} k h (Err k) refl e in
      past_first q g lg u c (first.long t u h c v (is ∙ ap (λ (j : Halt). Err j) same) long split rest)
  bind_long_wide t u h c v (Ok y) is e long split rest =
      let l : LocalAt p t (Ok y) = subst (LocalAt p t) is (lp t) in
      let m : LocalAt (f y.0) y.1 (Err h) = subst (LocalAt (f y.0) y.1) e (lf y.0 y.1) in
      let u_is : u ≡ l.front ++ m.front = append_cancel_right u (l.front ++ m.front) h.rest (sym split ∙ l.split ∙ ap (λ (w : Text). l.front ++ w) m.split ∙ sym (append_assoc l.front m.front h.rest)) in
      let read : p (l.front ++ (m.front ++ c ∷ [])) ≡ Ok (y.0, m.front ++ c ∷ []) = again l m.front (m.split ∙ ap (λ (w : Text). m.front ++ w) rest) in
      subst (λ (w : Text). Past (λ s. q s >>= λ y. g y.0 y.1) w c) (sym u_is) (past_second q g y.0 l.front m.front c (first.ok _ _ read) ((second y.0).long y.1 m.front h c v e long m.split rest))
    where
      again : (l : LocalAt p t (Ok y)) (w : Text) → y.1 ≡ w ++ c ∷ v → p (l.front ++ (w ++ c ∷ [])) ≡ Ok (y.0, w ++ c ∷ [])
      again l [] shape = l.same c v [] shape
      again l (b ∷ w) shape = l.same b (w ++ c ∷ v) (w ++ c ∷ []) shape

  pub widen_bind : Widens (λ t. p t >>= λ y. f y.0 y.1) (λ t. q t >>= λ y. g y.0 y.1)
  widen_bind = record {
    ok = λ t x is. bind_ok_wide t x (p t) refl is;
    same = λ t h is. bind_same_wide t h (p t) refl is;
    long = λ t u h c v is. bind_long_wide t u h c v (p t) refl is;
  }

-- ---- a choice by the first byte

pub widen_cond : {A : Type 0} (test : Text → Bool) (p q r s : Text → Read A) → ((b : ℕ) (t u : Text) → test (b ∷ t) ≡ test (b ∷ u)) → Widens p q → Widens r s → Widens (λ t. cond (test t) (p t) (r t)) (λ t. cond (test t) (q t) (s t))
widen_cond {A} test p q r s by_first yes_way no_way = record {
  ok = λ t x is. ok t x (test t) refl is;
  same = λ t h is. same t h (test t) refl is;
  long = λ t u h c v is. long t u h c v (test t) refl is;
}
  where
    ok : (t : Text) (x : A × Text) (b : Bool) → test t ≡ b → cond b (p t) (r t) ≡ Ok x → cond (test t) (q t) (s t) ≡ Ok x
    ok t x true was e = cond-true (test t) _ _ was ∙ yes_way.ok t x e
    ok t x false was e = cond-false (test t) _ _ was ∙ no_way.ok t x e

    same : (t : Text) (h : Halt) (b : Bool) → test t ≡ b → cond b (p t) (r t) ≡ Err h → IsShort h.fault → cond (test t) (q t) (s t) ≡ Err h
    same t h true was e short = cond-true (test t) _ _ was ∙ yes_way.same t h e short
    same t h false was e short = cond-false (test t) _ _ was ∙ no_way.same t h e short

    same_test : (t u : Text) (c : ℕ) (v : Text) → t ≡ u ++ c ∷ v → test (u ++ c ∷ []) ≡ test t
    same_test t [] c v split = by_first c [] v ∙ ap test (sym split)
    same_test t (b ∷ u) c v split = by_first b (u ++ c ∷ []) (u ++ c ∷ v) ∙ ap test (sym split)

    long : (t u : Text) (h : Halt) (c : ℕ) (v : Text) (b : Bool) → test t ≡ b → cond b (p t) (r t) ≡ Err h → IsLong h.fault → t ≡ u ++ h.rest → h.rest ≡ c ∷ v → Past (λ w. cond (test w) (q w) (s w)) u c
    long t u h c v true was e fault split rest = ap rest_of (cond-true (test (u ++ c ∷ [])) _ _ (same_test t u c v (split ∙ ap (λ (w : Text). u ++ w) rest) ∙ was)) ∙ yes_way.long t u h c v e fault split rest
    long t u h c v false was e fault split rest = ap rest_of (cond-false (test (u ++ c ∷ [])) _ _ (same_test t u c v (split ∙ ap (λ (w : Text). u ++ w) rest) ∙ was)) ∙ no_way.long t u h c v e fault split rest

pub widen_after : {A : Type 0} (p q : Text → Read A) → Local p → Widens p q → Widens (after_first p) (after_first q)
widen_after {A} p q local w = record { ok = ok; same = same; long = long }
  where
    ok : (t : Text) (x : A × Text) → after_first p t ≡ Ok x → after_first q t ≡ Ok x
    ok [] x is = is
    ok (b ∷ t) x is = w.ok t x is

    same : (t : Text) (h : Halt) → after_first p t ≡ Err h → IsShort h.fault → after_first q t ≡ Err h
    same [] h is short = is
    same (b ∷ t) h is short = w.same t h is short

    long : (t u : Text) (h : Halt) (c : ℕ) (v : Text) → after_first p t ≡ Err h → IsLong h.fault → t ≡ u ++ h.rest → h.rest ≡ c ∷ v → Past (after_first q) u c
    long [] u h c v is fault split rest = absurd (subst (λ (k : Halt). IsLong k.fault) (sym (err_is {A = A × Text} _ h _ refl is)) fault)
    long (b ∷ t) [] h c v is fault split rest =
        let l : LocalAt p t (Err h) = subst (LocalAt p t) is (local t) in
        absurd (omega (arith, ap (length {A = ℕ}) split, ap (length {A = ℕ}) l.split, length-append l.front h.rest))
    long (b ∷ t) (a ∷ u) h c v is fault split rest = w.long t u h c v is fault (tail_same b a t (u ++ h.rest) split) rest
