-- Runs of bytes of one class at the front of a text, and readers one after another.
use Rattle.bib_scan.proofs.Words.{◌≡◌, ℕ, suc, ◌≤◌, Bool, true, false, cond, ltb, [], ◌∷◌, ◌++◌, length, take, drop, refl, sym, subst, arith, inl, inr, ◌⊎◌, Result, Ok, Err, take-append-drop, take_at, drop_at, All-nil, All-cons, All-head, All-tail, not_from_false, not-true, cases_Bool, prefix_len}
use Rattle.bib_scan.proofs.Words.{take_while, AllPass, Text, does_not_begin_with, after_run, Halt, read_run, ◌>>=◌}
use Rattle.std.proofs.lemmas.List.Folds.{length-prefix_len}
use Rattle.std.proofs.lemmas.Bool.{ltb-false, le-ltb}

-- ---- texts

pub cons_nil : (b : ℕ) (t : Text) → b ∷ t ≡ [] → ⊥
cons_nil b t e = cc

pub append_nil-second : (t u : Text) → t ++ u ≡ [] → u ≡ []
append_nil-second [] u e = e
append_nil-second (b ∷ t) u e = cc

-- ---- readers in a row

pub bind_ok : {A B : Type 0} (r : Result A Halt) (f : A → Result B Halt) (y : B) → (r >>= f) ≡ Ok y → (x : A) × (r ≡ Ok x) × (f x ≡ Ok y)
bind_ok (Ok x) f y e = (x, refl, e)
bind_ok (Err h) f y e = cc

pub chosen : {A : Type 0} (b : Bool) (x y z : A) → cond b x y ≡ z → ((b ≡ true) × (x ≡ z)) ⊎ ((b ≡ false) × (y ≡ z))
chosen true x y z e = inl (refl, e)
chosen false x y z e = inr (refl, e)

pub guard_ok : {A : Type 0} (b : Bool) (h : Halt) (x y : A) → cond b (Err h) (Ok x) ≡ Ok y → (b ≡ false) × (x ≡ y)
guard_ok true h x y e = cc
guard_ok false h x y e = (refl, cc)

pub ok_same : {A : Type 0} (u v : A) (r : Result A Halt) → r ≡ Ok u → r ≡ Ok v → u ≡ v
ok_same u v r is also = cc

pub not_ok : {A : Type 0} (u : A) (h : Halt) (r : Result A Halt) → r ≡ Err h → r ≡ Ok u → ⊥
not_ok u h r is also = cc

-- ---- runs

pub run_split : (test : ℕ → Bool) (t : Text) → take_while test t ++ after_run test t ≡ t
run_split test t = take-append-drop (prefix_len test t) t

run_longer : (test : ℕ → Bool) (b : ℕ) (t : Text) → test b ≡ true → prefix_len test (b ∷ t) ≡ suc (prefix_len test t)
run_longer test b t passes = rw passes (omega arith)

run_none : (test : ℕ → Bool) (b : ℕ) (t : Text) → test b ≡ false → prefix_len test (b ∷ t) ≡ 0
run_none test b t fails = rw fails refl

pub run_passes : (test : ℕ → Bool) (t : Text) → AllPass test (take_while test t)
run_passes test [] = All-nil (λ (x : ℕ). test x ≡ true)
run_passes test (b ∷ t) =
    let P : ℕ → Type 0 = λ n. AllPass test (take n (b ∷ t)) in
    elim (cases_Bool (test b)) [
      | inl passes ↦ subst P (sym (run_longer test b t passes)) (All-cons (λ (x : ℕ). test x ≡ true) b (take_while test t) passes (run_passes test t))
      | inr fails ↦ subst P (sym (run_none test b t fails)) (All-nil (λ (x : ℕ). test x ≡ true))
    ]

pub run_stops : (test : ℕ → Bool) (t : Text) → does_not_begin_with test (after_run test t) ≡ true
run_stops test [] = refl
run_stops test (b ∷ t) =
    let P : ℕ → Type 0 = λ n. does_not_begin_with test (drop n (b ∷ t)) ≡ true in
    elim (cases_Bool (test b)) [
      | inl passes ↦ subst P (sym (run_longer test b t passes)) (run_stops test t)
      | inr fails ↦ subst P (sym (run_none test b t fails)) (not_from_false (test b) fails)
    ]

-- the bytes of the class before a byte that stops the run are the run
pub run_len : (test : ℕ → Bool) (u r : Text) → AllPass test u → does_not_begin_with test r ≡ true → prefix_len test (u ++ r) ≡ length u
run_len test [] [] all end = refl
run_len test [] (b ∷ r) all end = rw (not-true (test b) end) refl
run_len test (b ∷ u) r all end =
    let head : test b ≡ true = All-head (λ x. test x ≡ true) b u all in
    let later = run_len test u r (All-tail (λ x. test x ≡ true) b u all) end in
    rw (head, later) (omega arith)

pub run_front : (test : ℕ → Bool) (u r : Text) → AllPass test u → does_not_begin_with test r ≡ true → take_while test (u ++ r) ≡ u
run_front test u r all end = take_at u r _ (sym (run_len test u r all end))

pub run_rest : (test : ℕ → Bool) (u r : Text) → AllPass test u → does_not_begin_with test r ≡ true → after_run test (u ++ r) ≡ r
run_rest test u r all end = drop_at u r _ (sym (run_len test u r all end))

-- ---- limited runs

pub record Limited (limit : ℕ) (test : ℕ → Bool) (t : Text) (x : Text × Text) : Type 0 where
  pub split : t ≡ x.0 ++ x.1
  pub pass : AllPass test x.0
  pub len : length x.0 ≤ limit
  pub ends : does_not_begin_with test x.1 ≡ true

pub limited_ok : (limit : ℕ) (test : ℕ → Bool) (t : Text) (x : Text × Text) → read_run limit test t ≡ Ok x → Limited limit test t x
limited_ok limit test t x is =
    let g = guard_ok (ltb limit (prefix_len test t)) _ (take_while test t, after_run test t) x is in
    let len : prefix_len test t ≤ limit = ltb-false _ _ g.0 in
    let fits = length-prefix_len test t in
    let all : Limited limit test t (take_while test t, after_run test t) = record {
      split = sym (run_split test t);
      pass = run_passes test t;
      len = omega arith;
      ends = run_stops test t;
    } in
    subst (Limited limit test t) g.1 all

pub limited_again : (limit : ℕ) (test : ℕ → Bool) (u r : Text) → AllPass test u → length u ≤ limit → does_not_begin_with test r ≡ true → read_run limit test (u ++ r) ≡ Ok (u, r)
limited_again limit test u r all short end =
    let len = run_len test u r all end in
    let fits : ltb limit (prefix_len test (u ++ r)) ≡ false = le-ltb _ _ (omega arith) in
    rw (fits, run_front test u r all end, run_rest test u r all end) refl
