-- If reading stops, some bytes in place of the rest let it continue to the end.
use Rattle.bib_scan.proofs.Words.{◌≡◌, ℕ, zero, suc, ◌+◌, ◌-◌, ◌<◌, Bool, true, false, cond, [], ◌∷◌, ◌++◌, length, refl, sym, ap, subst, ◌∙◌, arith, append_assoc, inl, inr, Result, Ok, Err, length-append, cases_eq, or_from, ne_eqb, cond-true, cond-false, both_ways, Unended, UnbalancedBrace, Text}
use Rattle.bib_scan.proofs.Words.{Read, Halt, stop, with_front, read_braced, read_quoted, ◌>>=◌}
use Rattle.bib_scan.proofs.RunLaws.{not_ok, cons_nil, append_nil-second}
use Rattle.bib_scan.proofs.BraceLemmas.{braced_takes, quoted_takes, braced_opens, braced_closes, braced_ends, braced_nil, quoted_opens, quoted_closes, quoted_ends, quoted_inside, quoted_unbalanced, quoted_nil}
use Rattle.bib_scan.proofs.BraceLaws.{plain_byte}
use Rattle.bib_scan.proofs.LocalLaws.{LocalAt, Local, after_first}

-- P is about the bytes that follow what is read, F and G about the bytes that follow what was read before.

-- At `t` the reader stopped with `h`. With `end` in place of what it left, it reads on, whatever follows.
pub record MendAt {A : Type 0} (p : Text → Read A) (P F : Text → Type 0) (t : Text) (h : Halt) : Type 0 where
  pub front : Text
  pub split : t ≡ front ++ h.rest
  pub end : Text
  pub works : (r : Text) → P r → (a : A) × (p (front ++ (end ++ r)) ≡ Ok (a, r))
  pub starts : front ≡ [] → (r : Text) → P r → F (end ++ r)

abbrev pub Mends : {A : Type 0} → (Text → Read A) → (Text → Type 0) → (Text → Type 0) → Type 0
Mends p P F = (t : Text) (h : Halt) → p t ≡ Err h → MendAt p P F t h

-- The reader also reads what it read if bytes follow that F allows.
abbrev pub Resumes : {A : Type 0} → (Text → Read A) → (Text → Type 0) → Type 0
Resumes {A} p F = (t : Text) (a : A) (r : Text) → p t ≡ Ok (a, r) → (u s : Text) → t ≡ u ++ r → F s → p (u ++ s) ≡ Ok (a, s)

-- the reader reads these bytes, whatever was read before
abbrev pub Default : {A : Type 0} → (Text → Read A) → Text → (Text → Type 0) → Type 0
Default {A} p end P = (r : Text) → P r → (a : A) × (p (end ++ r) ≡ Ok (a, r))

pub err_is : {A : Type 0} (k h : Halt) (r : Result A Halt) → r ≡ Err k → r ≡ Err h → k ≡ h
err_is k h r is also = cc

-- ---- readers in a row

mend_second : {A B : Type 0} (p : Text → Read A) (f : A → Text → Read B) (P F G : Text → Type 0) (t : Text) (a : A) (r : Text) (h : Halt) → p t ≡ Ok (a, r) → LocalAt p t (Ok (a, r)) → Resumes p F → MendAt (f a) P (λ s. F s × G s) r h → MendAt (λ u. p u >>= λ x. f x.0 x.1) P G t h
mend_second {A} {B} p f P F G t a r h is local resumes m = record {
  front = local.front ++ m.front;
  split = local.split ∙ ap (λ (u : Text). local.front ++ u) m.split ∙ sym (append_assoc local.front m.front h.rest);
  end = m.end;
  works = λ s ok. let w = m.works s ok in (w.0, ap (λ (u : Text). p u >>= λ x. f x.0 x.1) (append_assoc local.front m.front (m.end ++ s)) ∙ ap (λ y. y >>= λ x. f x.0 x.1) (first m.front refl s ok) ∙ w.1);
  starts = λ none s ok. (m.starts (append_nil-second local.front m.front none) s ok).1;
}
  where
    first : (v : Text) → m.front ≡ v → (s : Text) → P s → p (local.front ++ (v ++ (m.end ++ s))) ≡ Ok (a, v ++ (m.end ++ s))
    first [] e s ok = resumes t a r is local.front (m.end ++ s) local.split (m.starts e s ok).0
    first (b ∷ v) e s ok = local.same b (v ++ h.rest) (v ++ (m.end ++ s)) (m.split ∙ ap (λ (u : Text). u ++ h.rest) e)

pub mend_bind : {A B : Type 0} (p : Text → Read A) (f : A → Text → Read B) (Q P F G : Text → Type 0) (end : Text)
    → Local p → Resumes p F → Mends p Q G → ((a : A) → Mends (f a) P (λ s. F s × G s)) → ((a : A) → Default (f a) end P) → ((r : Text) → P r → Q (end ++ r))
    → Mends (λ t. p t >>= λ x. f x.0 x.1) P G
mend_bind {A} {B} p f Q P F G end local resumes first second default follows t h = go (p t) refl
  where
    go : (m : Read A) → p t ≡ m → (m >>= λ x. f x.0 x.1) ≡ Err h → MendAt (λ u. p u >>= λ x. f x.0 x.1) P G t h
    go (Ok x) is e = mend_second p f P F G t x.0 x.1 h is (subst (LocalAt p t) is (local t)) resumes (second x.0 x.1 h e)
    go (Err k) is e =
        let same : k ≡ h = err_is {A = B × Text} k h (Err k) refl e in
        let m : MendAt p Q G t h = first t h (is ∙ ap (λ (j : Halt). Err j) same) in
        record {
          front = m.front;
          split = m.split;
          end = m.end ++ end;
          works = λ r ok.
              let w = m.works (end ++ r) (follows r ok) in
              let d = default w.0 r ok in
              (d.0, ap (λ (u : Text). p (m.front ++ u) >>= λ x. f x.0 x.1) (append_assoc m.end end r) ∙ ap (λ y. y >>= λ x. f x.0 x.1) w.1 ∙ d.1);
          starts = λ none r ok. subst G (sym (append_assoc m.end end r)) (m.starts none (end ++ r) (follows r ok));
        }

-- one reader after another, if the first takes at least one byte
pub mend_bind_some : {A B : Type 0} (p : Text → Read A) (f : A → Text → Read B) (Q P F G : Text → Type 0) (end : Text)
    → ((t : Text) (a : A) (r : Text) → p t ≡ Ok (a, r) → length r < length t)
    → Local p → Resumes p F → Mends p Q G → ((a : A) → Mends (f a) P F) → ((a : A) → Default (f a) end P) → ((r : Text) → P r → Q (end ++ r))
    → Mends (λ t. p t >>= λ x. f x.0 x.1) P G
mend_bind_some {A} {B} p f Q P F G end takes local resumes first second default follows t h = go (p t) refl
  where
    go : (m : Read A) → p t ≡ m → (m >>= λ x. f x.0 x.1) ≡ Err h → MendAt (λ u. p u >>= λ x. f x.0 x.1) P G t h
    go (Ok x) is e =
        let l : LocalAt p t (Ok x) = subst (LocalAt p t) is (local t) in
        let m = second x.0 x.1 h e in
        let both : MendAt (f x.0) P (λ s. F s × Unit {0}) x.1 h = record { front = m.front; split = m.split; end = m.end; works = m.works; starts = λ none r ok. (m.starts none r ok, tt) } in
        let whole = mend_second p f P F (λ s. Unit {0}) t x.0 x.1 h is l resumes both in
        let shorter = takes t x.0 x.1 is in
        record {
          front = whole.front;
          split = whole.split;
          end = whole.end;
          works = whole.works;
          starts = λ none. absurd (omega (arith, ap (length {A = ℕ}) none, ap (length {A = ℕ}) whole.split, length-append whole.front h.rest, ap (length {A = ℕ}) m.split, length-append m.front h.rest));
        }
    go (Err k) is e =
        let same : k ≡ h = err_is {A = B × Text} k h (Err k) refl e in
        let m : MendAt p Q G t h = first t h (is ∙ ap (λ (j : Halt). Err j) same) in
        record {
          front = m.front;
          split = m.split;
          end = m.end ++ end;
          works = λ r ok.
              let w = m.works (end ++ r) (follows r ok) in
              let d = default w.0 r ok in
              (d.0, ap (λ (u : Text). p (m.front ++ u) >>= λ x. f x.0 x.1) (append_assoc m.end end r) ∙ ap (λ y. y >>= λ x. f x.0 x.1) w.1 ∙ d.1);
          starts = λ none r ok. subst G (sym (append_assoc m.end end r)) (m.starts none (end ++ r) (follows r ok));
        }

pub mend_same : {A : Type 0} (p q : Text → Read A) (P F : Text → Type 0) → ((t : Text) → p t ≡ q t) → Mends q P F → Mends p P F
mend_same p q P F same m t h is =
    let at = m t h (sym (same t) ∙ is) in
    record { front = at.front; split = at.split; end = at.end; works = λ r ok. let w = at.works r ok in (w.0, same _ ∙ w.1); starts = at.starts }

-- ---- a choice by the first byte

pub mend_cond : {A : Type 0} (test : Text → Bool) (p q : Text → Read A) (P G : Text → Type 0) → ((b : ℕ) (t u : Text) → test (b ∷ t) ≡ test (b ∷ u)) → ((t : Text) (h : Halt) → test t ≡ true → p t ≡ Err h → MendAt p P (λ s. (test s ≡ true) × G s) t h) → Mends q P (λ s. (test s ≡ false) × G s) → Mends (λ t. cond (test t) (p t) (q t)) P G
mend_cond {A} test p q P G by_first mp mq t h is = go (test t) refl is
  where
    same_test : (x : Bool) (front rest end r : Text) → test t ≡ x → t ≡ front ++ rest → (front ≡ [] → test (end ++ r) ≡ x) → test (front ++ (end ++ r)) ≡ x
    same_test x [] rest end r was split starts = starts refl
    same_test x (b ∷ front) rest end r was split starts = by_first b (front ++ (end ++ r)) (front ++ rest) ∙ ap test (sym split) ∙ was

    go : (x : Bool) → test t ≡ x → cond x (p t) (q t) ≡ Err h → MendAt (λ u. cond (test u) (p u) (q u)) P G t h
    go true was e =
        let m = mp t h was e in
        record {
          front = m.front;
          split = m.split;
          end = m.end;
          works = λ r ok. let w = m.works r ok in (w.0, cond-true (test _) _ _ (same_test true m.front h.rest m.end r was m.split (λ none. (m.starts none r ok).0)) ∙ w.1);
          starts = λ none r ok. (m.starts none r ok).1;
        }
    go false was e =
        let m = mq t h e in
        record {
          front = m.front;
          split = m.split;
          end = m.end;
          works = λ r ok. let w = m.works r ok in (w.0, cond-false (test _) _ _ (same_test false m.front h.rest m.end r was m.split (λ none. (m.starts none r ok).0)) ∙ w.1);
          starts = λ none r ok. (m.starts none r ok).1;
        }

-- a reader that never stops
pub mend_never : {A : Type 0} (p : Text → Read A) (P F : Text → Type 0) → ((t : Text) → (x : A × Text) × (p t ≡ Ok x)) → Mends p P F
mend_never p P F reads t h is = let x = reads t in absurd (not_ok x.0 h (p t) is x.1)

-- after the first byte of a text that has one
pub mend_after : {A : Type 0} (p : Text → Read A) (P F : Text → Type 0) (test : Text → Bool) → test [] ≡ false → Mends p P (λ s. Unit {0}) → (t : Text) (h : Halt) → test t ≡ true → after_first p t ≡ Err h → MendAt (after_first p) P F t h
mend_after p P F test none m [] h passes is = absurd (both_ways (test []) none passes)
mend_after p P F test none m (b ∷ t) h passes is =
    let at = m t h is in
    record { front = b ∷ at.front; split = ap (λ (u : Text). b ∷ u) at.split; end = at.end; works = at.works; starts = λ e. absurd (cons_nil b at.front e) }

-- ---- braced and quoted text

-- the bytes that close depth + 1 braces
closers : ℕ → Text
closers zero = 125 ∷ []
closers (suc d) = 125 ∷ closers d

braced_closers : (d : ℕ) (r : Text) → (x : Text) × (read_braced d (closers d ++ r) ≡ Ok (x, r))
unfolding closers
braced_closers zero r = ([], braced_ends 125 r refl)
braced_closers (suc d) r =
    let later = braced_closers d r in
    let less : suc d - 1 ≡ d = omega arith in
    (125 ∷ later.0, braced_closes (suc d) 125 (closers d ++ r) (λ e. omega arith) refl ∙ ap (λ (n : ℕ). with_front (125 ∷ []) (read_braced n (closers d ++ r))) less ∙ ap (with_front (125 ∷ [])) later.1)

abbrev pub Always : Text → Type 0
Always s = Unit {0}

mend_front : (b : ℕ) (p q : Text → Read Text) (t : Text) (h : Halt) → ((u : Text) → p (b ∷ u) ≡ with_front (b ∷ []) (q u)) → ((g : Halt) → q t ≡ Err g → MendAt q Always Always t g) → p (b ∷ t) ≡ Err h → MendAt p Always Always (b ∷ t) h
mend_front b p q t h step later is =
    let at = later h (inner (q t) (sym (step t) ∙ is)) in
    record {
      front = b ∷ at.front;
      split = ap (λ (u : Text). b ∷ u) at.split;
      end = at.end;
      works = λ r ok. let w = at.works r ok in (b ∷ w.0, step _ ∙ ap (with_front (b ∷ [])) w.1);
      starts = λ none r ok. tt;
    }
  where
    inner : (m : Read Text) → with_front (b ∷ []) m ≡ Err h → m ≡ Err h
    inner (Ok x) e = absurd (not_ok (b ∷ x.0, x.1) h _ e refl)
    inner (Err k) e = e

pub mend_braced : (d : ℕ) → Mends (read_braced d) Always Always
mend_braced d [] h is =
    let e : stop Unended [] ≡ h = err_is (stop Unended []) h _ (braced_nil d) is in
    record { front = []; split = ap (λ (k : Halt). k.rest) e; end = closers d; works = λ r ok. braced_closers d r; starts = λ none r ok. tt }
mend_braced d (b ∷ t) h is =
    elim (cases_eq b 123) [
      | inl opens ↦ mend_front b (read_braced d) (read_braced (d + 1)) t h (λ u. braced_opens d b u opens) (λ g e. mend_braced (d + 1) t g e) is
      | inr no_open ↦ elim (cases_eq b 125) [
        | inl closes ↦ elim (cases_eq d 0) [
          | inl none ↦ absurd (not_ok ([], t) h _ is (ap (λ (n : ℕ). read_braced n (b ∷ t)) none ∙ braced_ends b t closes))
          | inr some ↦ mend_front b (read_braced d) (read_braced (d - 1)) t h (λ u. braced_closes d b u some closes) (λ g e. mend_braced (d - 1) t g e) is
        ]
        | inr no_close ↦ mend_front b (read_braced d) (read_braced d) t h (λ u. braced_takes d b u (or_from _ _ (ne_eqb b 123 no_open) (ne_eqb b 125 no_close))) (λ g e. mend_braced d t g e) is
      ]
    ]

-- the bytes that close depth braces and end the part
quote_end : ℕ → Text
quote_end zero = 34 ∷ []
quote_end (suc d) = 125 ∷ quote_end d

quoted_end : (d : ℕ) (r : Text) → (x : Text) × (read_quoted d (quote_end d ++ r) ≡ Ok (x, r))
unfolding quote_end
quoted_end zero r = ([], quoted_ends 34 r refl)
quoted_end (suc d) r =
    let later = quoted_end d r in
    let less : suc d - 1 ≡ d = omega arith in
    (125 ∷ later.0, quoted_closes (suc d) 125 (quote_end d ++ r) (λ e. omega arith) refl ∙ ap (λ (n : ℕ). with_front (125 ∷ []) (read_quoted n (quote_end d ++ r))) less ∙ ap (with_front (125 ∷ [])) later.1)

pub mend_quoted : (d : ℕ) → Mends (read_quoted d) Always Always
mend_quoted d [] h is =
    let e : stop Unended [] ≡ h = err_is (stop Unended []) h _ (quoted_nil d) is in
    record { front = []; split = ap (λ (k : Halt). k.rest) e; end = quote_end d; works = λ r ok. quoted_end d r; starts = λ none r ok. tt }
mend_quoted d (b ∷ t) h is =
    elim (cases_eq b 123) [
      | inl opens ↦ mend_front b (read_quoted d) (read_quoted (d + 1)) t h (λ u. quoted_opens d b u opens) (λ g e. mend_quoted (d + 1) t g e) is
      | inr no_open ↦ elim (cases_eq b 125) [
        | inl closes ↦ elim (cases_eq d 0) [
          | inl none ↦
              let e : stop UnbalancedBrace (b ∷ t) ≡ h = err_is (stop UnbalancedBrace (b ∷ t)) h _ (ap (λ (n : ℕ). read_quoted n (b ∷ t)) none ∙ quoted_unbalanced b t closes) is in
              record { front = []; split = ap (λ (k : Halt). k.rest) e; end = 34 ∷ []; works = λ r ok. ([], ap (λ (n : ℕ). read_quoted n (34 ∷ r)) none ∙ quoted_ends 34 r refl); starts = λ nothing r ok. tt }
          | inr some ↦ mend_front b (read_quoted d) (read_quoted (d - 1)) t h (λ u. quoted_closes d b u some closes) (λ g e. mend_quoted (d - 1) t g e) is
        ]
        | inr no_close ↦ elim (cases_eq b 34) [
          | inl mark ↦ elim (cases_eq d 0) [
            | inl none ↦ absurd (not_ok ([], t) h _ is (ap (λ (n : ℕ). read_quoted n (b ∷ t)) none ∙ quoted_ends b t mark))
            | inr some ↦ mend_front b (read_quoted d) (read_quoted d) t h (λ u. quoted_inside d b u some mark) (λ g e. mend_quoted d t g e) is
          ]
          | inr no_mark ↦ mend_front b (read_quoted d) (read_quoted d) t h (λ u. quoted_takes d b u (plain_byte b no_open no_close no_mark)) (λ g e. mend_quoted d t g e) is
        ]
      ]
    ]
