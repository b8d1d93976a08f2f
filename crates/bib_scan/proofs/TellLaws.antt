-- What a reader does if another byte, and nothing after it, replaces the text at which it stopped. Each fault is known by
-- some bytes that the reader passes and some at which it stops.
use Rattle.bib_scan.proofs.Words.{◌≡◌, ℕ, ◌+◌, ◌<◌, ◌≤◌, Bool, true, false, cond, [], ◌∷◌, ◌++◌, length, refl, sym, ap, subst, ◌∙◌, arith, append_assoc, append-nil, inl, inr, ◌⊎◌, Ok, Err, length-append, append_cancel_right, cond-true, cond-false, both_ways, ReadingFault, Unended, ExpectedName}
use Rattle.bib_scan.proofs.Words.{ExpectedEquals, ExpectedCommaOrClose, ExpectedValue, UnbalancedBrace, KeyTooLong, Text, Read, Halt, stop, ◌>>=◌}
use Rattle.bib_scan.proofs.RunLaws.{not_ok, cons_nil, append_nil-second}
use Rattle.bib_scan.proofs.LocalLaws.{rest_of, LocalAt, Local, after_first}
use Rattle.bib_scan.proofs.UniqueLaws.{tail_same}
use Rattle.bib_scan.proofs.MendLaws.{Resumes, err_is}

-- after u the reader continues past the byte d
abbrev pub Past : {A : Type 0} → (Text → Read A) → Text → ℕ → Type 0
Past p u d = rest_of (p (u ++ d ∷ [])) ≡ []

-- after u the reader stops at the byte d
abbrev pub Stopped : {A : Type 0} → (Text → Read A) → Text → ℕ → Type 0
Stopped p u d = (k : ReadingFault) × (p (u ++ d ∷ []) ≡ Err (stop k (d ∷ [])))

-- after u the reader ends before the byte d, and has read a
abbrev pub Leaves : {A : Type 0} → (Text → Read A) → A → Text → ℕ → Type 0
Leaves p a u d = p (u ++ d ∷ []) ≡ Ok (a, d ∷ [])

-- the bytes that could be at the place of this fault
abbrev pub Passes : ReadingFault → ℕ → Type 0
Passes Unended d = ⊥
Passes ExpectedName d = d ≡ 120
Passes ExpectedEquals d = d ≡ 61
Passes ExpectedCommaOrClose d = ⊥
Passes ExpectedValue d = d ≡ 34
Passes UnbalancedBrace d = (d ≡ 34) ⊎ (d ≡ 44)
Passes KeyTooLong d = ⊥

-- the bytes that could not be at the place of this fault either
abbrev pub Blocks : ReadingFault → ℕ → Type 0
Blocks Unended d = ⊥
Blocks ExpectedName d = (d ≡ 49) ⊎ (d ≡ 61) ⊎ (d ≡ 34)
Blocks ExpectedEquals d = d ≡ 34
Blocks ExpectedCommaOrClose d = (d ≡ 61) ⊎ (d ≡ 34)
Blocks ExpectedValue d = d ≡ 44
Blocks UnbalancedBrace d = ⊥
Blocks KeyTooLong d = ⊥

abbrev pub Tries : ReadingFault → ℕ → Type 0
Tries f d = Passes f d ⊎ Blocks f d

-- a byte by which some fault is known
pub data IsTried : ℕ → Type 0 where
  the_letter : IsTried 120
  the_digit : IsTried 49
  the_sign : IsTried 61
  the_mark : IsTried 34
  the_comma : IsTried 44

tried : (c d : ℕ) → IsTried c → d ≡ c → IsTried d
tried c d is same = subst IsTried (sym same) is

pub passes_tried : (f : ReadingFault) (d : ℕ) → Passes f d → IsTried d
passes_tried Unended d ok = absurd ok
passes_tried ExpectedName d ok = tried 120 d the_letter ok
passes_tried ExpectedEquals d ok = tried 61 d the_sign ok
passes_tried ExpectedCommaOrClose d ok = absurd ok
passes_tried ExpectedValue d ok = tried 34 d the_mark ok
passes_tried UnbalancedBrace d (inl ok) = tried 34 d the_mark ok
passes_tried UnbalancedBrace d (inr ok) = tried 44 d the_comma ok
passes_tried KeyTooLong d ok = absurd ok

pub blocks_tried : (f : ReadingFault) (d : ℕ) → Blocks f d → IsTried d
blocks_tried Unended d ok = absurd ok
blocks_tried ExpectedName d (inl ok) = tried 49 d the_digit ok
blocks_tried ExpectedName d (inr (inl ok)) = tried 61 d the_sign ok
blocks_tried ExpectedName d (inr (inr ok)) = tried 34 d the_mark ok
blocks_tried ExpectedEquals d ok = tried 34 d the_mark ok
blocks_tried ExpectedCommaOrClose d (inl ok) = tried 61 d the_sign ok
blocks_tried ExpectedCommaOrClose d (inr ok) = tried 34 d the_mark ok
blocks_tried ExpectedValue d ok = tried 44 d the_comma ok
blocks_tried UnbalancedBrace d ok = absurd ok
blocks_tried KeyTooLong d ok = absurd ok

-- if a comma or a close is expected, a letter could be there only if a digit could be, too
abbrev pub AsksDigit : ReadingFault → Type 0
AsksDigit Unended = ⊥
AsksDigit ExpectedName = ⊥
AsksDigit ExpectedEquals = ⊥
AsksDigit ExpectedCommaOrClose = Unit {0}
AsksDigit ExpectedValue = ⊥
AsksDigit UnbalancedBrace = ⊥
AsksDigit KeyTooLong = ⊥

-- the text has ended if and only if the fault is that it has ended
abbrev pub IsEnd : ReadingFault → Text → Type 0
IsEnd Unended r = r ≡ []
IsEnd ExpectedName r = r ≡ [] → ⊥
IsEnd ExpectedEquals r = r ≡ [] → ⊥
IsEnd ExpectedCommaOrClose r = r ≡ [] → ⊥
IsEnd ExpectedValue r = r ≡ [] → ⊥
IsEnd UnbalancedBrace r = r ≡ [] → ⊥
IsEnd KeyTooLong r = r ≡ [] → ⊥

abbrev pub DigitToo : {A : Type 0} → (Text → Read A) → Text → Type 0
DigitToo p u = Stopped p u 120 ⊎ Past p u 49

-- At `t` the reader stopped with `h`. G is about the bytes that must be visible to what was read before.
pub record TellsAt {A : Type 0} (p : Text → Read A) (G : ℕ → Type 0) (t : Text) (h : Halt) : Type 0 where
  pub front : Text
  pub split : t ≡ front ++ h.rest
  pub end : IsEnd h.fault h.rest
  pub passed : (d : ℕ) → Passes h.fault d → Past p front d
  pub blocked : (d : ℕ) → Blocks h.fault d → Stopped p front d
  pub digit : AsksDigit h.fault → DigitToo p front
  pub starts : front ≡ [] → (d : ℕ) → Tries h.fault d → G d

abbrev pub Tells : {A : Type 0} → (Text → Read A) → (ℕ → Type 0) → Type 0
Tells p G = (t : Text) (h : Halt) → p t ≡ Err h → TellsAt p G t h

-- The reader also reads what it read if a byte follows that F allows.
abbrev pub Keeps : {A : Type 0} → (Text → Read A) → (ℕ → Type 0) → Type 0
Keeps {A} p F = (t : Text) (a : A) (r u : Text) → p t ≡ Ok (a, r) → t ≡ u ++ r → (d : ℕ) → F d → Leaves p a u d

-- After what the reader read: a letter and a digit follow, or it stops at the letter, or it continues past the digit.
abbrev pub TakesDigit : {A : Type 0} → (Text → Read A) → A → Text → Type 0
TakesDigit p a u = (Leaves p a u 120 × Leaves p a u 49) ⊎ Stopped p u 120 ⊎ Past p u 49

abbrev pub Digits : {A : Type 0} → (Text → Read A) → Type 0
Digits {A} p = (t : Text) (a : A) (r u : Text) → p t ≡ Ok (a, r) → t ≡ u ++ r → TakesDigit p a u

pub keeps_of : {A : Type 0} (p : Text → Read A) (P : Text → Type 0) (F : ℕ → Type 0) → Resumes p P → ((d : ℕ) → F d → P (d ∷ [])) → Keeps p F
keeps_of p P F resumes allowed t a r u is split d ok = resumes t a r is u (d ∷ []) split (allowed d ok)

pub digits_of : {A : Type 0} (p : Text → Read A) (F : ℕ → Type 0) → Keeps p F → F 120 → F 49 → Digits p
digits_of p F keeps letter digit t a r u is split = inl (keeps t a r u is split 120 letter, keeps t a r u is split 49 digit)

pub some_or_none : (v : Text) → (v ≡ []) ⊎ (v ≡ [] → ⊥)
some_or_none [] = inl refl
some_or_none (b ∷ v) = inr (λ e. cc)

-- ---- readers in a row

nothing_left : {A : Type 0} (p : Text → Read A) → Local p → rest_of (p []) ≡ []
nothing_left p local = let at = local [] in by at.front _ at.split
  where
    by : (u r : Text) → [] ≡ u ++ r → r ≡ []
    by [] r e = sym e
    by (b ∷ u) r e = cc

module _ {A B : Type 0} (p : Text → Read A) (f : A → Text → Read B) where
  abbrev pub Both : Text → Read B
  Both t = p t >>= λ x. f x.0 x.1

  pub past_first : ((a : A) → Local (f a)) → (u : Text) (d : ℕ) → Past p u d → Past Both u d
  past_first local u d past = go (p (u ++ d ∷ [])) past
    where
      go : (m : Read A) → rest_of m ≡ [] → rest_of (m >>= λ x. f x.0 x.1) ≡ []
      go (Ok x) none = subst (λ (r : Text). rest_of (f x.0 r) ≡ []) (sym none) (nothing_left (f x.0) (local x.0))
      go (Err h) none = none

  stopped_first : (u : Text) (d : ℕ) → Stopped p u d → Stopped Both u d
  stopped_first u d s = (s.0, ap (λ (m : Read A). m >>= λ x. f x.0 x.1) s.1)

  -- if `p` reads `a` up to `u2` and the text after it, `f` continues there
  goes_on : (a : A) (u1 u2 w : Text) → p (u1 ++ (u2 ++ w)) ≡ Ok (a, u2 ++ w) → Both ((u1 ++ u2) ++ w) ≡ f a (u2 ++ w)
  goes_on a u1 u2 w is = ap Both (append_assoc u1 u2 w) ∙ ap (λ (m : Read A). m >>= λ x. f x.0 x.1) is

  pub past_second : (a : A) (u1 u2 : Text) (d : ℕ) → p (u1 ++ (u2 ++ d ∷ [])) ≡ Ok (a, u2 ++ d ∷ []) → Past (f a) u2 d → Past Both (u1 ++ u2) d
  past_second a u1 u2 d is past = ap rest_of (goes_on a u1 u2 (d ∷ []) is) ∙ past

  stopped_second : (a : A) (u1 u2 : Text) (d : ℕ) → p (u1 ++ (u2 ++ d ∷ [])) ≡ Ok (a, u2 ++ d ∷ []) → Stopped (f a) u2 d → Stopped Both (u1 ++ u2) d
  stopped_second a u1 u2 d is s = (s.0, goes_on a u1 u2 (d ∷ []) is ∙ s.1)

  leaves_second : (a : A) (b : B) (u1 u2 : Text) (d : ℕ) → p (u1 ++ (u2 ++ d ∷ [])) ≡ Ok (a, u2 ++ d ∷ []) → Leaves (f a) b u2 d → Leaves Both b (u1 ++ u2) d
  leaves_second a b u1 u2 d is l = goes_on a u1 u2 (d ∷ []) is ∙ l

  -- `p` also reads what it read if another text follows `c ∷ v`
  read_again : (t : Text) (a : A) (r : Text) → (l : LocalAt p t (Ok (a, r))) → (c : ℕ) (v s w : Text) → r ≡ (c ∷ v) ++ s → p (l.front ++ ((c ∷ v) ++ w)) ≡ Ok (a, (c ∷ v) ++ w)
  read_again t a r l c v s w is = l.same c (v ++ s) (v ++ w) is

  digit_second : (a : A) (u1 u2 : Text) → ((d : ℕ) → p (u1 ++ (u2 ++ d ∷ [])) ≡ Ok (a, u2 ++ d ∷ [])) → DigitToo (f a) u2 → DigitToo Both (u1 ++ u2)
  digit_second a u1 u2 is (inl s) = inl (stopped_second a u1 u2 120 (is 120) s)
  digit_second a u1 u2 is (inr e) = inr (past_second a u1 u2 49 (is 49) e)

  digit_both : ((a : A) → Local (f a)) → (a : A) (u1 : Text) → TakesDigit p a u1 → DigitToo (f a) [] → DigitToo Both (u1 ++ [])
  digit_both local a u1 (inl l) (inl s) = inl (stopped_second a u1 [] 120 l.0 s)
  digit_both local a u1 (inl l) (inr e) = inr (past_second a u1 [] 49 l.1 e)
  digit_both local a u1 (inr (inl s)) later = inl (subst (λ (u : Text). Stopped Both u 120) (sym (append-nil u1)) (stopped_first u1 120 s))
  digit_both local a u1 (inr (inr e)) later = inr (subst (λ (u : Text). Past Both u 49) (sym (append-nil u1)) (past_first local u1 49 e))

  -- if the second reader stopped, and the first reads the text before it with each byte that is tried
  tell_moved : (G H : ℕ → Type 0) (t : Text) (a : A) (r : Text) (h : Halt) → (l : LocalAt p t (Ok (a, r))) → (m : TellsAt (f a) H r h) → ((d : ℕ) → Tries h.fault d → p (l.front ++ (m.front ++ d ∷ [])) ≡ Ok (a, m.front ++ d ∷ []))
      → (DigitToo (f a) m.front → DigitToo Both (l.front ++ m.front)) → (l.front ++ m.front ≡ [] → (d : ℕ) → Tries h.fault d → G d) → TellsAt Both G t h
  tell_moved G H t a r h l m first digit starts = record {
    front = l.front ++ m.front;
    split = l.split ∙ ap (λ (u : Text). l.front ++ u) m.split ∙ sym (append_assoc l.front m.front h.rest);
    end = m.end;
    passed = λ d ok. past_second a l.front m.front d (first d (inl ok)) (m.passed d ok);
    blocked = λ d ok. stopped_second a l.front m.front d (first d (inr ok)) (m.blocked d ok);
    digit = λ asks. digit (m.digit asks);
    starts = starts;
  }

  -- the second reader stopped after its first byte
  pub tell_later : (G H : ℕ → Type 0) (t : Text) (a : A) (r : Text) (h : Halt) → LocalAt p t (Ok (a, r)) → (m : TellsAt (f a) H r h) → (m.front ≡ [] → ⊥) → TellsAt Both G t h
  tell_later G H t a r h l m some = tell_moved G H t a r h l m (λ d ok. first m.front refl d) (digit m.front refl) (λ none. absurd (some (append_nil-second l.front m.front none)))
    where
      first : (v : Text) → m.front ≡ v → (d : ℕ) → p (l.front ++ (v ++ d ∷ [])) ≡ Ok (a, v ++ d ∷ [])
      first [] e d = absurd (some e)
      first (b ∷ v) e d = read_again t a r l b v h.rest (d ∷ []) (m.split ∙ ap (λ (u : Text). u ++ h.rest) e)

      digit : (v : Text) → m.front ≡ v → DigitToo (f a) v → DigitToo Both (l.front ++ v)
      digit v e too = digit_second a l.front v (first v e) too

  -- the second reader stopped at once
  tell_now : (G H : ℕ → Type 0) (t : Text) (a : A) (r : Text) (h : Halt) → (l : LocalAt p t (Ok (a, r))) → ((a : A) → Local (f a)) → (m : TellsAt (f a) H r h) → m.front ≡ [] → ((d : ℕ) → Tries h.fault d → Leaves p a l.front d) → TakesDigit p a l.front → (l.front ≡ [] → (d : ℕ) → Tries h.fault d → G d) → TellsAt Both G t h
  tell_now G H t a r h l local m none leaves takes starts =
      tell_moved G H t a r h l m
      (λ d ok. subst (λ (v : Text). p (l.front ++ (v ++ d ∷ [])) ≡ Ok (a, v ++ d ∷ [])) (sym none) (leaves d ok))
      (λ too. subst (λ (v : Text). DigitToo Both (l.front ++ v)) (sym none) (digit_both local a l.front takes (subst (DigitToo (f a)) none too)))
      (λ gone. starts (sym (append-nil l.front) ∙ subst (λ (v : Text). l.front ++ v ≡ []) none gone))

  tell_second : (F G : ℕ → Type 0) (t : Text) (a : A) (r : Text) (h : Halt) → p t ≡ Ok (a, r) → LocalAt p t (Ok (a, r)) → ((a : A) → Local (f a)) → Keeps p F → Digits p → TellsAt (f a) (λ d. F d × G d) r h → TellsAt Both G t h
  tell_second F G t a r h is l local keeps digits m =
      elim (some_or_none m.front) [
        | inl none ↦ tell_now G (λ d. F d × G d) t a r h l local m none (λ d ok. keeps t a r l.front is l.split d (m.starts none d ok).0) (digits t a r l.front is l.split) (λ gone d ok. (m.starts none d ok).1)
        | inr some ↦ tell_later G (λ d. F d × G d) t a r h l m some
      ]

  -- one reader after another, if the first takes at least one byte
  tell_second_some : (F G : ℕ → Type 0) (t : Text) (a : A) (r : Text) (h : Halt) → length r < length t → p t ≡ Ok (a, r) → LocalAt p t (Ok (a, r)) → ((a : A) → Local (f a)) → Keeps p F → Digits p → TellsAt (f a) F r h → TellsAt Both G t h
  tell_second_some F G t a r h less is l local keeps digits m =
      elim (some_or_none m.front) [
        | inl none ↦ tell_now G F t a r h l local m none (λ d ok. keeps t a r l.front is l.split d (m.starts none d ok)) (digits t a r l.front is l.split) (λ gone. absurd (taken l gone))
        | inr some ↦ tell_later G F t a r h l m some
      ]
    where
      taken : (l : LocalAt p t (Ok (a, r))) → l.front ≡ [] → ⊥
      taken l gone = omega (arith, ap (length {A = ℕ}) l.split, length-append l.front r, ap (length {A = ℕ}) gone)

  tell_first : (G : ℕ → Type 0) (t : Text) (h : Halt) → ((a : A) → Local (f a)) → TellsAt p G t h → TellsAt Both G t h
  tell_first G t h local m = record {
    front = m.front;
    split = m.split;
    end = m.end;
    passed = λ d ok. past_first local m.front d (m.passed d ok);
    blocked = λ d ok. stopped_first m.front d (m.blocked d ok);
    digit = λ asks. either m.front (m.digit asks);
    starts = m.starts;
  }
    where
      either : (u : Text) → DigitToo p u → DigitToo Both u
      either u (inl s) = inl (stopped_first u 120 s)
      either u (inr e) = inr (past_first local u 49 e)

  pub tell_bind : (F G : ℕ → Type 0) → Local p → ((a : A) → Local (f a)) → Keeps p F → Digits p → Tells p G → ((a : A) → Tells (f a) (λ d. F d × G d)) → Tells Both G
  tell_bind F G lp lf keeps digits first second t h = go (p t) refl
    where
      go : (m : Read A) → p t ≡ m → (m >>= λ x. f x.0 x.1) ≡ Err h → TellsAt Both G t h
      go (Ok x) is e = tell_second F G t x.0 x.1 h is (subst (LocalAt p t) is (lp t)) lf keeps digits (second x.0 x.1 h e)
      go (Err k) is e = tell_first G t h lf (first t h (is ∙ ap (λ (j : Halt). Err j) (err_is {A = B × Text} k h (Err k) refl e)))

  pub tell_bind_some : (F G : ℕ → Type 0) → ((t : Text) (a : A) (r : Text) → p t ≡ Ok (a, r) → length r < length t) → Local p → ((a : A) → Local (f a)) → Keeps p F → Digits p → Tells p G → ((a : A) → Tells (f a) F) → Tells Both G
  tell_bind_some F G takes lp lf keeps digits first second t h = go (p t) refl
    where
      go : (m : Read A) → p t ≡ m → (m >>= λ x. f x.0 x.1) ≡ Err h → TellsAt Both G t h
      go (Ok x) is e = tell_second_some F G t x.0 x.1 h (takes t x.0 x.1 is) is (subst (LocalAt p t) is (lp t)) lf keeps digits (second x.0 x.1 h e)
      go (Err k) is e = tell_first G t h lf (first t h (is ∙ ap (λ (j : Halt). Err j) (err_is {A = B × Text} k h (Err k) refl e)))

  digits_both : ((a : A) → Local (f a)) → (a : A) (b : B) (u1 : Text) → TakesDigit p a u1 → TakesDigit (f a) b [] → TakesDigit Both b (u1 ++ [])
  digits_both local a b u1 (inl l) (inl m) = inl (leaves_second a b u1 [] 120 l.0 m.0, leaves_second a b u1 [] 49 l.1 m.1)
  digits_both local a b u1 (inl l) (inr (inl s)) = inr (inl (stopped_second a u1 [] 120 l.0 s))
  digits_both local a b u1 (inl l) (inr (inr e)) = inr (inr (past_second a u1 [] 49 l.1 e))
  digits_both local a b u1 (inr (inl s)) later = inr (inl (subst (λ (u : Text). Stopped Both u 120) (sym (append-nil u1)) (stopped_first u1 120 s)))
  digits_both local a b u1 (inr (inr e)) later = inr (inr (subst (λ (u : Text). Past Both u 49) (sym (append-nil u1)) (past_first local u1 49 e)))

  digits_second : (a : A) (b : B) (u1 u2 : Text) → ((d : ℕ) → p (u1 ++ (u2 ++ d ∷ [])) ≡ Ok (a, u2 ++ d ∷ [])) → TakesDigit (f a) b u2 → TakesDigit Both b (u1 ++ u2)
  digits_second a b u1 u2 is (inl m) = inl (leaves_second a b u1 u2 120 (is 120) m.0, leaves_second a b u1 u2 49 (is 49) m.1)
  digits_second a b u1 u2 is (inr (inl s)) = inr (inl (stopped_second a u1 u2 120 (is 120) s))
  digits_second a b u1 u2 is (inr (inr e)) = inr (inr (past_second a u1 u2 49 (is 49) e))

  pub digits_bind : Local p → ((a : A) → Local (f a)) → Digits p → ((a : A) → Digits (f a)) → Digits Both
  digits_bind lp lf first second t b s u is split = go (p t) refl is
    where
      at : (a : A) (r : Text) → p t ≡ Ok (a, r) → f a r ≡ Ok (b, s) → (l : LocalAt p t (Ok (a, r))) → (v : Text) → r ≡ v ++ s → TakesDigit Both b (l.front ++ v)
      at a r is later l [] e = digits_both lf a b l.front (first t a r l.front is l.split) (second a r b s [] later e)
      at a r is later l (c ∷ v) e = digits_second a b l.front (c ∷ v) (λ d. read_again t a r l c v s (d ∷ []) e) (second a r b s (c ∷ v) later e)

      go : (m : Read A) → p t ≡ m → (m >>= λ x. f x.0 x.1) ≡ Ok (b, s) → TakesDigit Both b u
      go (Err h) is later = absurd (not_ok (b, s) h _ refl later)
      go (Ok x) is later =
          let l : LocalAt p t (Ok x) = subst (LocalAt p t) is (lp t) in
          let m : LocalAt (f x.0) x.1 (Ok (b, s)) = subst (LocalAt (f x.0) x.1) later (lf x.0 x.1) in
          let same : u ≡ l.front ++ m.front = append_cancel_right u (l.front ++ m.front) s (sym split ∙ l.split ∙ ap (λ (w : Text). l.front ++ w) m.split ∙ sym (append_assoc l.front m.front s)) in
          subst (TakesDigit Both b) (sym same) (at x.0 x.1 is later l m.front m.split)

-- ---- the same reader, said in another way

pub tell_same : {A : Type 0} (p q : Text → Read A) (G : ℕ → Type 0) → ((t : Text) → p t ≡ q t) → Tells q G → Tells p G
tell_same p q G same tells t h is =
    let m = tells t h (sym (same t) ∙ is) in
    record {
      front = m.front;
      split = m.split;
      end = m.end;
      passed = λ d ok. ap rest_of (same _) ∙ m.passed d ok;
      blocked = λ d ok. let s = m.blocked d ok in (s.0, same _ ∙ s.1);
      digit = λ asks. digit m.front (m.digit asks);
      starts = m.starts;
    }
  where
    digit : (u : Text) → DigitToo q u → DigitToo p u
    digit u (inl s) = inl (s.0, same _ ∙ s.1)
    digit u (inr e) = inr (ap rest_of (same _) ∙ e)

pub digits_same : {A : Type 0} (p q : Text → Read A) → ((t : Text) → p t ≡ q t) → Digits q → Digits p
digits_same p q same digits t a r u is split = go (digits t a r u (sym (same t) ∙ is) split)
  where
    go : TakesDigit q a u → TakesDigit p a u
    go (inl l) = inl (same _ ∙ l.0, same _ ∙ l.1)
    go (inr (inl s)) = inr (inl (s.0, same _ ∙ s.1))
    go (inr (inr e)) = inr (inr (ap rest_of (same _) ∙ e))

-- if reader n of a family does the same as the reader on texts of at most n bytes, the law for each of them gives it for
-- the reader
pub tell_family : {A : Type 0} (p : Text → Read A) (F : ℕ → Text → Read A) (G : ℕ → Type 0) → ((n : ℕ) (t : Text) → length t ≤ n → p t ≡ F n t) → ((n : ℕ) → Tells (F n) G) → Tells p G
tell_family p F G same tells t h is =
    let n = length t + 1 in
    let m = tells n t h (sym (same n t (omega arith)) ∙ is) in
    let l = length-append m.front h.rest in
    let l2 = ap (length {A = ℕ}) m.split in
    let near : (d : ℕ) → p (m.front ++ d ∷ []) ≡ F n (m.front ++ d ∷ []) = λ d. same n (m.front ++ d ∷ []) (omega (arith, length-append m.front (d ∷ []))) in
    record {
      front = m.front;
      split = m.split;
      end = m.end;
      passed = λ d ok. ap rest_of (near d) ∙ m.passed d ok;
      blocked = λ d ok. let s = m.blocked d ok in (s.0, near d ∙ s.1);
      digit = λ asks. digit m.front near (m.digit asks);
      starts = m.starts;
    }
  where
    digit : (u : Text) → ((d : ℕ) → p (u ++ d ∷ []) ≡ F (length t + 1) (u ++ d ∷ [])) → DigitToo (F (length t + 1)) u → DigitToo p u
    digit u near (inl s) = inl (s.0, near 120 ∙ s.1)
    digit u near (inr e) = inr (ap rest_of (near 49) ∙ e)

pub digits_family : {A : Type 0} (p : Text → Read A) (F : ℕ → Text → Read A) → ((n : ℕ) (t : Text) → length t ≤ n → p t ≡ F n t) → ((n : ℕ) → Digits (F n)) → Digits p
digits_family p F same digits t a r u is split = go (digits n t a r u (sym (same n t (omega arith)) ∙ is) split)
  where
    n : ℕ
    n = length t + 1

    near : (d : ℕ) → p (u ++ d ∷ []) ≡ F n (u ++ d ∷ [])
    near d = same n (u ++ d ∷ []) (omega (arith, length-append u (d ∷ []), ap (length {A = ℕ}) split, length-append u r))

    go : TakesDigit (F n) a u → TakesDigit p a u
    go (inl l) = inl (near 120 ∙ l.0, near 49 ∙ l.1)
    go (inr (inl s)) = inr (inl (s.0, near 120 ∙ s.1))
    go (inr (inr e)) = inr (inr (ap rest_of (near 49) ∙ e))

-- ---- a choice by the first byte

-- The bytes that are tried fail the test, so the second reader reads them.
pub tell_cond : {A : Type 0} (test : Text → Bool) (p q : Text → Read A) (G : ℕ → Type 0) → ((b : ℕ) (t u : Text) → test (b ∷ t) ≡ test (b ∷ u)) → ((d : ℕ) → IsTried d → test (d ∷ []) ≡ false) → ((t : Text) (h : Halt) → test t ≡ true → p t ≡ Err h → (m : TellsAt p G t h) × (m.front ≡ [] → ⊥)) → Tells q G → Tells (λ t. cond (test t) (p t) (q t)) G
tell_cond {A} test p q G by_first other mp mq t h is = go (test t) refl is
  where
    first : (x : Bool) (u r : Text) (d : ℕ) → test t ≡ x → t ≡ u ++ r → (u ≡ [] → test (d ∷ []) ≡ x) → test (u ++ d ∷ []) ≡ x
    first x [] r d was split starts = starts refl
    first x (b ∷ u) r d was split starts = by_first b (u ++ d ∷ []) (u ++ r) ∙ ap test (sym split) ∙ was

    go : (x : Bool) → test t ≡ x → cond x (p t) (q t) ≡ Err h → TellsAt (λ u. cond (test u) (p u) (q u)) G t h
    go true was e =
        let found = mp t h was e in
        let m = found.0 in
        let to : (d : ℕ) → test (m.front ++ d ∷ []) ≡ true = λ d. first true m.front h.rest d was m.split (λ none. absurd (found.1 none)) in
        record {
          front = m.front;
          split = m.split;
          end = m.end;
          passed = λ d ok. ap rest_of (cond-true (test _) _ _ (to d)) ∙ m.passed d ok;
          blocked = λ d ok. let s = m.blocked d ok in (s.0, cond-true (test _) _ _ (to d) ∙ s.1);
          digit = λ asks. too m.front to (m.digit asks);
          starts = m.starts;
        }
      where
        too : (u : Text) → ((d : ℕ) → test (u ++ d ∷ []) ≡ true) → DigitToo p u → DigitToo (λ u. cond (test u) (p u) (q u)) u
        too u to (inl s) = inl (s.0, cond-true (test _) _ _ (to 120) ∙ s.1)
        too u to (inr e) = inr (ap rest_of (cond-true (test _) _ _ (to 49)) ∙ e)
    go false was e =
        let m = mq t h e in
        let to : (d : ℕ) → IsTried d → test (m.front ++ d ∷ []) ≡ false = λ d tried. first false m.front h.rest d was m.split (λ none. other d tried) in
        record {
          front = m.front;
          split = m.split;
          end = m.end;
          passed = λ d ok. ap rest_of (cond-false (test _) _ _ (to d (passes_tried h.fault d ok))) ∙ m.passed d ok;
          blocked = λ d ok. let s = m.blocked d ok in (s.0, cond-false (test _) _ _ (to d (blocks_tried h.fault d ok)) ∙ s.1);
          digit = λ asks. too m.front to (m.digit asks);
          starts = m.starts;
        }
      where
        too : (u : Text) → ((d : ℕ) → IsTried d → test (u ++ d ∷ []) ≡ false) → DigitToo q u → DigitToo (λ u. cond (test u) (p u) (q u)) u
        too u to (inl s) = inl (s.0, cond-false (test _) _ _ (to 120 the_letter) ∙ s.1)
        too u to (inr e) = inr (ap rest_of (cond-false (test _) _ _ (to 49 the_digit)) ∙ e)

-- after the first byte of a text that has one
pub tell_beyond : {A : Type 0} (p : Text → Read A) (G : ℕ → Type 0) (test : Text → Bool) → test [] ≡ false → Tells p (λ d. Unit {0}) → (t : Text) (h : Halt) → test t ≡ true → after_first p t ≡ Err h → (m : TellsAt (after_first p) G t h) × (m.front ≡ [] → ⊥)
tell_beyond p G test none tells [] h passes is = absurd (both_ways (test []) none passes)
tell_beyond {A} p G test none tells (b ∷ t) h passes is =
    let m = tells t h is in
    let at : TellsAt (after_first p) G (b ∷ t) h = record {
      front = b ∷ m.front;
      split = ap (λ (u : Text). b ∷ u) m.split;
      end = m.end;
      passed = m.passed;
      blocked = m.blocked;
      digit = m.digit;
      starts = λ e. absurd (cons_nil b m.front e);
    } in
    (at, λ e. cons_nil b m.front e)

pub digits_cond : {A : Type 0} (test : Text → Bool) (p q : Text → Read A) → ((b : ℕ) (t u : Text) → test (b ∷ t) ≡ test (b ∷ u)) → test [] ≡ false → test (120 ∷ []) ≡ false → test (49 ∷ []) ≡ false → Local p → Digits p → Digits q → Digits (λ t. cond (test t) (after_first p t) (q t))
digits_cond {A} test p q by_first none letter digit local dp dq t a r u is split = go (test t) refl is
  where
    same_test : (x : Bool) (v : Text) (d : ℕ) → test t ≡ x → t ≡ v ++ r → (v ≡ [] → test (d ∷ []) ≡ x) → test (v ++ d ∷ []) ≡ x
    same_test x [] d was shape starts = starts refl
    same_test x (b ∷ v) d was shape starts = by_first b (v ++ d ∷ []) (v ++ r) ∙ ap test (sym shape) ∙ was

    first : (s v : Text) → t ≡ s → t ≡ v ++ r → test s ≡ true → after_first p s ≡ Ok (a, r) → TakesDigit (λ w. cond (test w) (after_first p w) (q w)) a v
    first [] v shape parts was read = absurd (both_ways (test []) none was)
    first (b ∷ s) [] shape parts was read =
        let l = local s in
        absurd (omega (arith, ap (length {A = ℕ}) shape, ap (length {A = ℕ}) parts, shorter (p s) l read))
      where
        shorter : (m : Read A) → LocalAt p s m → m ≡ Ok (a, r) → length r ≤ length s
        shorter m l e = omega (arith, ap (length {A = ℕ}) (subst (λ (x : Read A). s ≡ l.front ++ rest_of x) e l.split), length-append l.front r)
    first (b ∷ s) (c ∷ v) shape parts was read =
        let inner : s ≡ v ++ r = tail_same b c s (v ++ r) (sym shape ∙ parts) in
        let to : (d : ℕ) → test ((c ∷ v) ++ d ∷ []) ≡ true = λ d. same_test true (c ∷ v) d (ap test shape ∙ was) parts (λ e. absurd (cons_nil c v e)) in
        lift to (dp s a r v read inner)
      where
        lift : ((d : ℕ) → test ((c ∷ v) ++ d ∷ []) ≡ true) → TakesDigit p a v → TakesDigit (λ w. cond (test w) (after_first p w) (q w)) a (c ∷ v)
        lift to (inl l) = inl (cond-true (test _) _ _ (to 120) ∙ l.0, cond-true (test _) _ _ (to 49) ∙ l.1)
        lift to (inr (inl s)) = inr (inl (s.0, cond-true (test _) _ _ (to 120) ∙ s.1))
        lift to (inr (inr e)) = inr (inr (ap rest_of (cond-true (test _) _ _ (to 49)) ∙ e))

    other : test (u ++ 120 ∷ []) ≡ false → test (u ++ 49 ∷ []) ≡ false → TakesDigit q a u → TakesDigit (λ w. cond (test w) (after_first p w) (q w)) a u
    other to too (inl l) = inl (cond-false (test _) _ _ to ∙ l.0, cond-false (test _) _ _ too ∙ l.1)
    other to too (inr (inl s)) = inr (inl (s.0, cond-false (test _) _ _ to ∙ s.1))
    other to too (inr (inr e)) = inr (inr (ap rest_of (cond-false (test _) _ _ too) ∙ e))

    go : (x : Bool) → test t ≡ x → cond x (after_first p t) (q t) ≡ Ok (a, r) → TakesDigit (λ w. cond (test w) (after_first p w) (q w)) a u
    go true was e = first t u refl split was e
    go false was e = other (same_test false u 120 was split (λ gone. letter)) (same_test false u 49 was split (λ gone. digit)) (dq t a r u e split)
