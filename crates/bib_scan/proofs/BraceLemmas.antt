-- Steps of the readers of braced and quoted text.
use Rattle.bib_scan.proofs.Words.{◌≡◌, ℕ, zero, suc, ◌+◌, ◌-◌, ◌<◌, ◌≤◌, Bool, true, false, ◌||◌, eqb, List, [], ◌∷◌, ◌++◌, length, get_or, take, drop, refl, sym, ap, subst, ◌∙◌, arith, append_assoc, append-nil, inl, inr, Ok, Err, None, Some, drop-drop, take-take, get_or-drop, length-drop}
use Rattle.bib_scan.proofs.Words.{drop_more, drop_all, take-append-drop, or_parts, or_cases, false_from_ne_true, eqb-true, eq-eqb, ne_eqb, cond-true, IsFirstByte, NoneBefore, Nowhere, is_byte2, is_byte3, Unended, UnbalancedBrace, Text, Read, Halt, stop, with_front, read_braced, read_quoted}
use Rattle.std.proofs.Common.{add-one}
use Rattle.std.proofs.lemmas.List.{drop-take, take_more}
use Rattle.std.proofs.lemmas.Bool.{and_right}
use Rattle.memchr.specs.Find.{Passes}

pub with_front-nil : (r : Read Text) → with_front [] r ≡ r
with_front-nil (Ok x) = refl
with_front-nil (Err h) = refl

pub with_front-append : (u v : Text) (r : Read Text) → with_front u (with_front v r) ≡ with_front (u ++ v) r
with_front-append u v (Ok x) = ap (λ (f : Text). Ok (f, x.1)) (sym (append_assoc u v x.0))
with_front-append u v (Err h) = refl

-- a reader that takes a byte which fails the test to the front of what it reads
abbrev pub Takes : (ℕ → Bool) → (Text → Read Text) → Type 0
Takes test F = (b : ℕ) (t : Text) → test b ≡ false → F (b ∷ t) ≡ with_front (b ∷ []) (F t)

pub take_run : (test : ℕ → Bool) (F : Text → Read Text) → Takes test F → (n : ℕ) (t : Text) → n ≤ length t → ((k : ℕ) → k < n → test (get_or t k 0) ≡ false) → F t ≡ with_front (take n t) (F (drop n t))
take_run test F takes zero t le none = sym (with_front-nil (F t))
take_run test F takes (suc n) [] le none = absurd (omega arith)
take_run test F takes (suc n) (b ∷ t) le none =
    let later = take_run test F takes n t (omega arith) (λ k lt. none (suc k) (omega arith)) in
    takes b t (none 0 (omega arith)) ∙ ap (with_front (b ∷ [])) later ∙ with_front-append (b ∷ []) (take n t) (F (drop n t))

pub take-more : {X : Type 0} → (n m : ℕ) (t : List X) → take n t ++ take m (drop n t) ≡ take (n + m) t
take-more n m t =
    let whole = take-append-drop n (take (n + m) t) in
    let front : take n (take (n + m) t) ≡ take n t = take-take n (n + m) t (omega arith) in
    let back : drop n (take (n + m) t) ≡ take m (drop n t) = drop-take n m t in
    cc

-- from at on the next byte that passes the test is at at + found
pub advance : (test : ℕ → Bool) (F : Text → Read Text) → Takes test F → (t : Text) (at found : ℕ) (whole : Read Text) → found < length (drop at t) → ((k : ℕ) → k < found → test (get_or (drop at t) k 0) ≡ false) → whole ≡ with_front (take at t) (F (drop at t)) → whole ≡ with_front (take (at + found) t) (F (get_or t (at + found) 0 ∷ drop (at + found + 1) t))
advance test F takes t at found whole lt none before =
    let run = take_run test F takes found (drop at t) (omega arith) none in
    let more = take-more at found t in
    let within : at + found < length t = omega (arith, length-drop at t) in
    let split : drop found (drop at t) ≡ get_or t (at + found) 0 ∷ drop (at + found + 1) t = drop-drop found at t ∙ drop_more t (at + found) 0 within in
    before ∙ ap (with_front (take at t)) run ∙ with_front-append (take at t) (take found (drop at t)) _ ∙ ap (λ (u : Text). with_front u (F (drop found (drop at t)))) more ∙ ap (λ (u : Text). with_front (take (at + found) t) (F u)) split

-- no byte from at on passes the test
pub run_out : (test : ℕ → Bool) (F : Text → Read Text) → Takes test F → (h : Halt) → F [] ≡ Err h → (t : Text) (at : ℕ) (whole : Read Text) → ((k : ℕ) → k < length (drop at t) → test (get_or (drop at t) k 0) ≡ false) → whole ≡ with_front (take at t) (F (drop at t)) → whole ≡ Err h
run_out test F takes h end t at whole none before =
    let run = take_run test F takes (length (drop at t)) (drop at t) (omega arith) none in
    let gone : drop (length (drop at t)) (drop at t) ≡ [] = drop_all _ (drop at t) (omega arith) in
    before ∙ ap (with_front (take at t)) (run ∙ ap (λ (u : Text). with_front (take (length (drop at t)) (drop at t)) (F u)) gone ∙ ap (with_front (take (length (drop at t)) (drop at t))) end)

-- ---- braced text

pub braced_takes : (d : ℕ) → Takes (is_byte2 123 125) (read_braced d)
unfolding read_braced
braced_takes d b t plain = let parts = or_parts (eqb b 123) (eqb b 125) plain in rw (parts.0, parts.1) refl

pub braced_opens : (d b : ℕ) (t : Text) → b ≡ 123 → read_braced d (b ∷ t) ≡ with_front (b ∷ []) (read_braced (d + 1) t)
unfolding read_braced
braced_opens d b t is = rw add-one (cond-true (eqb b 123) _ _ (eq-eqb b 123 is))

pub braced_closes : (d b : ℕ) (t : Text) → (d ≡ 0 → ⊥) → b ≡ 125 → read_braced d (b ∷ t) ≡ with_front (b ∷ []) (read_braced (d - 1) t)
unfolding read_braced
braced_closes zero b t some is = absurd (some refl)
braced_closes (suc d) b t some is = rw (ne_eqb b 123 (λ e. omega arith), eq-eqb b 125 is) refl

pub braced_ends : (b : ℕ) (t : Text) → b ≡ 125 → read_braced 0 (b ∷ t) ≡ Ok ([], t)
unfolding read_braced
braced_ends b t is = rw (ne_eqb b 123 (λ e. omega arith), eq-eqb b 125 is) refl

pub braced_nil : (d : ℕ) → read_braced d [] ≡ Err (stop Unended [])
unfolding read_braced
braced_nil d = refl

-- ---- quoted text

pub quoted_takes : (d : ℕ) → Takes (is_byte3 123 125 34) (read_quoted d)
unfolding read_quoted
quoted_takes d b t plain =
    let parts = or_parts (eqb b 123 || eqb b 125) (eqb b 34) plain in
    let braces = or_parts (eqb b 123) (eqb b 125) parts.0 in
    rw (braces.0, braces.1, parts.1) refl

pub quoted_opens : (d b : ℕ) (t : Text) → b ≡ 123 → read_quoted d (b ∷ t) ≡ with_front (b ∷ []) (read_quoted (d + 1) t)
unfolding read_quoted
quoted_opens d b t is = rw add-one (cond-true (eqb b 123) _ _ (eq-eqb b 123 is))

pub quoted_closes : (d b : ℕ) (t : Text) → (d ≡ 0 → ⊥) → b ≡ 125 → read_quoted d (b ∷ t) ≡ with_front (b ∷ []) (read_quoted (d - 1) t)
unfolding read_quoted
quoted_closes zero b t some is = absurd (some refl)
quoted_closes (suc d) b t some is = rw (ne_eqb b 123 (λ e. omega arith), eq-eqb b 125 is) refl

pub quoted_unbalanced : (b : ℕ) (t : Text) → b ≡ 125 → read_quoted 0 (b ∷ t) ≡ Err (stop UnbalancedBrace (b ∷ t))
unfolding read_quoted
quoted_unbalanced b t is = rw (ne_eqb b 123 (λ e. omega arith), eq-eqb b 125 is) refl

pub quoted_ends : (b : ℕ) (t : Text) → b ≡ 34 → read_quoted 0 (b ∷ t) ≡ Ok ([], t)
unfolding read_quoted
quoted_ends b t is = rw (ne_eqb b 123 (λ e. omega arith), ne_eqb b 125 (λ e. omega arith), eq-eqb b 34 is) refl

-- a quotation mark inside braces
pub quoted_inside : (d b : ℕ) (t : Text) → (d ≡ 0 → ⊥) → b ≡ 34 → read_quoted d (b ∷ t) ≡ with_front (b ∷ []) (read_quoted d t)
unfolding read_quoted
quoted_inside d b t some is = rw (ne_eqb b 123 (λ e. omega arith), ne_eqb b 125 (λ e. omega arith), and_right (eqb b 34) (eqb d 0) (ne_eqb d 0 some)) refl

pub quoted_nil : (d : ℕ) → read_quoted d [] ≡ Err (stop Unended [])
unfolding read_quoted
quoted_nil d = refl

-- the byte at `place` is put in front, too
pub past : (F : Text → Read Text) (t : Text) (place : ℕ) (whole read : Read Text) → place < length t → whole ≡ with_front (take place t) (F (get_or t place 0 ∷ drop (place + 1) t)) → F (get_or t place 0 ∷ drop (place + 1) t) ≡ with_front (get_or t place 0 ∷ []) read → whole ≡ with_front (take (place + 1) t) read
past F t place whole read lt before step =
    before ∙ ap (with_front (take place t)) step ∙ with_front-append (take place t) (get_or t place 0 ∷ []) read
    ∙ ap (λ (u : Text). with_front u read) (sym (take_more t place 0 lt))

-- the next byte that passes the test
pub record Found (test : ℕ → Bool) (F : Text → Read Text) (t : Text) (place : ℕ) (whole : Read Text) : Type 0 where
  pub within : place < length t
  pub passes : test (get_or t place 0) ≡ true
  pub read : whole ≡ with_front (take place t) (F (get_or t place 0 ∷ drop (place + 1) t))

pub found_at : (test : ℕ → Bool) (F : Text → Read Text) → Takes test F → (t hay : Text) (at found : ℕ) (whole : Read Text) → hay ≡ drop at t → IsFirstByte test hay (Some found) → whole ≡ with_front (take at t) (F (drop at t)) → Found test F t (at + found) whole
found_at test F takes t hay at found whole is first before =
    let here = subst (λ (h : Text). IsFirstByte test h (Some found)) is first in
    let lt : found < length (drop at t) = here.0.high in
    let same : get_or (drop at t) found 0 ≡ get_or t (at + found) 0 = get_or-drop at t found 0 in
    record {
      within = omega (arith, length-drop at t);
      passes = subst (λ (b : ℕ). test b ≡ true) same here.1;
      read = advance test F takes t at found whole lt (λ k low. false_from_ne_true _ (here.0.before k (omega arith) low)) before;
    }

pub not_found : (test : ℕ → Bool) (F : Text → Read Text) → Takes test F → (h : Halt) → F [] ≡ Err h → (t hay : Text) (at : ℕ) (whole : Read Text) → hay ≡ drop at t → IsFirstByte test hay None → whole ≡ with_front (take at t) (F (drop at t)) → whole ≡ Err h
not_found test F takes h end t hay at whole is first before =
    let here = subst (λ (u : Text). IsFirstByte test u None) is first in
    run_out test F takes h end t at whole (λ k low. false_from_ne_true _ (here k (omega arith) low)) before

-- the next byte that passes the test, if its place is counted from the start of the text
pub found_from : (test : ℕ → Bool) (F : Text → Read Text) → Takes test F → (t : Text) (at place : ℕ) (whole : Read Text) → NoneBefore (Passes test t) at (length t) place → Passes test t place → whole ≡ with_front (take at t) (F (drop at t)) → Found test F t place whole
found_from test F takes t at place whole first passes before =
    let found = place - at in
    let same : at + found ≡ place = omega (arith, first.low) in
    let lt : found < length (drop at t) = omega (arith, first.low, first.high, length-drop at t) in
    record {
      within = first.high;
      passes = passes;
      read = subst (λ (p : ℕ). whole ≡ with_front (take p t) (F (get_or t p 0 ∷ drop (p + 1) t))) same
          (advance test F takes t at found whole lt (λ k low. ap test (get_or-drop at t k 0) ∙ false_from_ne_true _ (first.before (at + k) (omega arith) (omega (arith, first.low)))) before);
    }

pub not_found_from : (test : ℕ → Bool) (F : Text → Read Text) → Takes test F → (h : Halt) → F [] ≡ Err h → (t : Text) (at : ℕ) (whole : Read Text) → Nowhere (Passes test t) at (length t) → whole ≡ with_front (take at t) (F (drop at t)) → whole ≡ Err h
not_found_from test F takes h end t at whole none before =
    run_out test F takes h end t at whole (λ k low. ap test (get_or-drop at t k 0) ∙ false_from_ne_true _ (none (at + k) (omega arith) (omega (arith, length-drop at t)))) before

pub second : (b : ℕ) → is_byte2 123 125 b ≡ true → (b ≡ 123 → ⊥) → b ≡ 125
second b passes other =
    elim (or_cases (eqb b 123) (eqb b 125) passes) [ inl e ↦ absurd (other (eqb-true b 123 e)) | inr e ↦ eqb-true b 125 e ]

pub third : (b : ℕ) → is_byte3 123 125 34 b ≡ true → (b ≡ 123 → ⊥) → (b ≡ 125 → ⊥) → b ≡ 34
third b passes no_open no_close =
    elim (or_cases (eqb b 123 || eqb b 125) (eqb b 34) passes)
    [ inl e ↦ absurd (no_close (second b e no_open)) | inr e ↦ eqb-true b 34 e ]

pub braced_done : (u r : Text) (d b : ℕ) (whole : Read Text) → whole ≡ with_front u (read_braced d (b ∷ r)) → d ≡ 0 → b ≡ 125 → whole ≡ Ok (u, r)
braced_done u r d b whole read none is =
    read ∙ ap (λ (n : ℕ). with_front u (read_braced n (b ∷ r))) none ∙ ap (with_front u) (braced_ends b r is) ∙ ap (λ (f : Text). Ok (f, r)) (append-nil u)

pub quoted_done : (u r : Text) (d b : ℕ) (whole : Read Text) → whole ≡ with_front u (read_quoted d (b ∷ r)) → d ≡ 0 → b ≡ 34 → whole ≡ Ok (u, r)
quoted_done u r d b whole read none is =
    read ∙ ap (λ (n : ℕ). with_front u (read_quoted n (b ∷ r))) none ∙ ap (with_front u) (quoted_ends b r is) ∙ ap (λ (f : Text). Ok (f, r)) (append-nil u)

pub quoted_refused : (u r : Text) (d b : ℕ) (whole : Read Text) → whole ≡ with_front u (read_quoted d (b ∷ r)) → d ≡ 0 → b ≡ 125 → whole ≡ Err (stop UnbalancedBrace (b ∷ r))
quoted_refused u r d b whole read none is =
    read ∙ ap (λ (n : ℕ). with_front u (read_quoted n (b ∷ r))) none ∙ ap (with_front u) (quoted_unbalanced b r is)
