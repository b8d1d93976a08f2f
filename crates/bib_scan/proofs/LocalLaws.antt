-- A reader does not depend on any byte after the first byte that it leaves.
use Rattle.bib_scan.proofs.Words.{◌≡◌, ℕ, ◌+◌, ◌<◌, Bool, true, false, cond, ltb, [], ◌∷◌, ◌++◌, length, get_or, take, drop, refl, sym, ap, subst, ◌∙◌, arith, append_assoc, append-nil, Ok, Err, ltb-true, lt-ltb, cond-true, cond-false, take-append-drop, take-take, get_or-drop, drop_at}
use Rattle.bib_scan.proofs.Words.{length-take-le, All-head, All-tail, All-take, prefix_len_passes, prefix_len-le-length, prefix_len, take_while, AllPass, ReadingFault, Unended, KeyTooLong, Text, does_not_begin_with, after_run, Read, stop, expected, read_run, ◌>>=◌}
use Rattle.bib_scan.proofs.RunLaws.{run_split, run_passes, run_stops, run_front, run_rest, limited_ok, limited_again, cons_nil}

-- the text that a reader left, and its answer with other bytes in place of that text
abbrev pub rest_of : {A : Type 0} → Read A → Text
rest_of (Ok x) = x.1
rest_of (Err h) = h.rest

abbrev pub with_rest : {A : Type 0} → Read A → Text → Read A
with_rest (Ok x) r = Ok (x.0, r)
with_rest (Err h) r = Err (stop h.fault r)

-- At `t` the reader left an end of `t`, and does the same if other bytes follow the first byte of that end.
pub record LocalAt {A : Type 0} (p : Text → Read A) (t : Text) (read : Read A) : Type 0 where
  pub front : Text
  pub split : t ≡ front ++ rest_of read
  pub same : (c : ℕ) (v w : Text) → rest_of read ≡ c ∷ v → p (front ++ c ∷ w) ≡ with_rest read (c ∷ w)

abbrev pub Local : {A : Type 0} → (Text → Read A) → Type 0
Local p = (t : Text) → LocalAt p t (p t)

-- ---- readers in a row

row_ok_step : {A B : Type 0} (p : Text → Read A) (f : A → Text → Read B) (t : Text) (a : A) (r : Text) → LocalAt p t (Ok (a, r)) → LocalAt (f a) r (f a r) → LocalAt (λ u. p u >>= λ x. f x.0 x.1) t (f a r)
row_ok_step p f t a r first second = record {
  front = first.front ++ second.front;
  split = first.split ∙ ap (λ (u : Text). first.front ++ u) second.split ∙ sym (append_assoc first.front second.front _);
  same = λ c v w is. go second.front second.split c v w is (second.same c v w is);
}
  where
    go : (u : Text) → r ≡ u ++ rest_of (f a r) → (c : ℕ) (v w : Text) → rest_of (f a r) ≡ c ∷ v → f a (u ++ c ∷ w) ≡ with_rest (f a r) (c ∷ w) → (p ((first.front ++ u) ++ c ∷ w) >>= λ x. f x.0 x.1) ≡ with_rest (f a r) (c ∷ w)
    go [] split c v w is later =
        let read : p (first.front ++ c ∷ w) ≡ Ok (a, c ∷ w) = first.same c v w (split ∙ is) in
        ap (λ (u : Text). p (u ++ c ∷ w) >>= λ x. f x.0 x.1) (append-nil first.front) ∙ ap (λ m. m >>= λ x. f x.0 x.1) read ∙ later
    go (b ∷ u) split c v w is later =
        let read : p (first.front ++ (b ∷ (u ++ c ∷ w))) ≡ Ok (a, b ∷ (u ++ c ∷ w)) = first.same b (u ++ c ∷ v) (u ++ c ∷ w) (split ∙ ap (λ (s : Text). b ∷ (u ++ s)) is) in
        ap (λ (s : Text). p s >>= λ x. f x.0 x.1) (append_assoc first.front (b ∷ u) (c ∷ w)) ∙ ap (λ m. m >>= λ x. f x.0 x.1) read ∙ later

pub local_bind : {A B : Type 0} (p : Text → Read A) (f : A → Text → Read B) → Local p → ((a : A) → Local (f a)) → Local (λ t. p t >>= λ x. f x.0 x.1)
local_bind {A} {B} p f lp lf t = go (p t) (lp t)
  where
    go : (m : Read A) → LocalAt p t m → LocalAt (λ u. p u >>= λ x. f x.0 x.1) t (m >>= λ x. f x.0 x.1)
    go (Ok x) l = row_ok_step p f t x.0 x.1 l (lf x.0 x.1)
    go (Err h) l = record { front = l.front; split = l.split; same = λ c v w is. ap (λ m. m >>= λ x. f x.0 x.1) (l.same c v w is) }

pub local_same : {A : Type 0} (p q : Text → Read A) → ((t : Text) → p t ≡ q t) → Local q → Local p
local_same p q same l t =
    let at : LocalAt q t (p t) = subst (LocalAt q t) (sym (same t)) (l t) in
    record { front = at.front; split = at.split; same = λ c v w is. same _ ∙ at.same c v w is }

-- ---- a choice by the first byte

pub local_cond : {A : Type 0} (test : Text → Bool) (p q : Text → Read A) → ((b : ℕ) (t u : Text) → test (b ∷ t) ≡ test (b ∷ u)) → Local p → Local q → Local (λ t. cond (test t) (p t) (q t))
local_cond {A} test p q by_first lp lq t = go (test t) refl
  where
    same_test : (front rest : Text) (c : ℕ) (v w : Text) → t ≡ front ++ rest → rest ≡ c ∷ v → test (front ++ c ∷ w) ≡ test t
    same_test [] rest c v w split is = by_first c w v ∙ ap test (sym (split ∙ is))
    same_test (b ∷ front) rest c v w split is = by_first b (front ++ c ∷ w) (front ++ rest) ∙ ap test (sym split)

    go : (x : Bool) → test t ≡ x → LocalAt (λ u. cond (test u) (p u) (q u)) t (cond x (p t) (q t))
    go true is = let l = lp t in record { front = l.front; split = l.split; same = λ c v w e. cond-true (test _) _ _ (same_test l.front _ c v w l.split e ∙ is) ∙ l.same c v w e }
    go false is = let l = lq t in record { front = l.front; split = l.split; same = λ c v w e. cond-false (test _) _ _ (same_test l.front _ c v w l.split e ∙ is) ∙ l.same c v w e }

-- the reader after the first byte
abbrev pub after_first : {A : Type 0} → (Text → Read A) → Text → Read A
after_first p [] = Err (stop Unended [])
after_first p (b ∷ t) = p t

pub local_beyond : {A : Type 0} (p : Text → Read A) → Local p → Local (after_first p)
local_beyond p l [] = record { front = []; split = refl; same = λ c v w is. absurd (cons_nil c v (sym is)) }
local_beyond p l (b ∷ t) =
    let at = l t in
    record { front = b ∷ at.front; split = ap (λ (u : Text). b ∷ u) at.split; same = at.same }

-- ---- readers of one piece

pub local_ok : {A : Type 0} (a : A) → Local (λ t. Ok (a, t))
local_ok a t = record { front = []; split = refl; same = λ c v w is. refl }

pub local_expected : {A : Type 0} (f : ReadingFault) → Local {A = A} (λ t. Err (expected f t))
local_expected f [] = record { front = []; split = refl; same = λ c v w is. absurd (cons_nil c v (sym is)) }
local_expected f (b ∷ t) = record { front = []; split = refl; same = λ c v w is. refl }

stops_first : (test : ℕ → Bool) (r : Text) (c : ℕ) (v : Text) → does_not_begin_with test r ≡ true → r ≡ c ∷ v → does_not_begin_with test (c ∷ v) ≡ true
stops_first test r c v is e = subst (λ (u : Text). does_not_begin_with test u ≡ true) e is

abbrev pub run : (ℕ → Bool) → Text → Read Text
run test t = Ok (take_while test t, after_run test t)

pub local_run : (test : ℕ → Bool) → Local (run test)
local_run test t = record {
  front = take_while test t;
  split = sym (run_split test t);
  same = λ c v w is.
      let ends = stops_first test (after_run test t) c v (run_stops test t) is in
      ap (λ (u : Text). Ok (u, after_run test (take_while test t ++ c ∷ w))) (run_front test (take_while test t) (c ∷ w) (run_passes test t) ends)
      ∙ ap (λ (u : Text). Ok (take_while test t, u)) (run_rest test (take_while test t) (c ∷ w) (run_passes test t) ends);
}

pub run_beyond : (test : ℕ → Bool) (u : Text) (c : ℕ) (w : Text) → AllPass test u → test c ≡ true → length u < prefix_len test (u ++ c ∷ w)
run_beyond test [] c w all is = rw is (omega arith)
run_beyond test (b ∷ u) c w all is =
    let later = run_beyond test u c w (All-tail (λ (x : ℕ). test x ≡ true) b u all) is in
    rw (All-head (λ (x : ℕ). test x ≡ true) b u all) (omega arith)

pub local_limited : (limit : ℕ) (test : ℕ → Bool) → Local (read_run limit test)
local_limited limit test t = go (ltb limit (prefix_len test t)) refl
  where
    go : (x : Bool) → ltb limit (prefix_len test t) ≡ x → LocalAt (read_run limit test) t (cond x (Err (stop KeyTooLong (drop limit t))) (Ok (take_while test t, after_run test t)))
    go true is =
        let long : limit < prefix_len test t = ltb-true _ _ is in
        let whole = prefix_len-le-length test t in
        let here : limit + 0 ≡ limit = omega arith in
        let u = take limit t in
        let passes : AllPass test u = subst (AllPass test) (take-take limit (prefix_len test t) t (omega arith)) (All-take (λ (x : ℕ). test x ≡ true) limit (take_while test t) (run_passes test t)) in
        let len : length u ≡ limit = length-take-le limit t (omega arith) in
        record {
          front = u;
          split = sym (take-append-drop limit t);
          same = λ c v w e.
              let first : test c ≡ true = subst (λ (b : ℕ). test b ≡ true) (sym (get_or-drop limit t 0 0 ∙ ap (λ (n : ℕ). get_or t n 0) here) ∙ ap (λ (s : Text). get_or s 0 0) e) (prefix_len_passes test t limit 0 long) in
              let more : limit < prefix_len test (u ++ c ∷ w) = omega (arith, run_beyond test u c w passes first) in
              cond-true (ltb limit (prefix_len test (u ++ c ∷ w))) _ _ (lt-ltb _ _ more) ∙ ap (λ (s : Text). Err (stop KeyTooLong s)) (drop_at u (c ∷ w) limit len);
        }
    go false is =
        let l = limited_ok limit test t (take_while test t, after_run test t) (cond-false (ltb limit (prefix_len test t)) _ _ is) in
        record {
          front = take_while test t;
          split = l.split;
          same = λ c v w e. limited_again limit test (take_while test t) (c ∷ w) l.pass l.len (stops_first test _ c v l.ends e);
        }
