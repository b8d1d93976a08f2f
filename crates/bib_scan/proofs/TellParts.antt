-- What the readers of names and parts do with other bytes where they stopped.
use Rattle.bib_scan.proofs.Words.{◌≡◌, ℕ, ◌+◌, ◌-◌, ◌<◌, ◌≤◌, Bool, true, false, eqb, ltb, [], ◌∷◌, ◌++◌, length, drop, refl, sym, ap, subst, ◌∙◌, arith, append_assoc, append-nil, inl, inr, Ok, Err, cases_eq, or_from, ne_eqb, eqb-true, cond-true, cond-false, not_from_false, lt-ltb, not-true}
use Rattle.bib_scan.proofs.Words.{append_cancel_right, length-append, length-drop, drop_at, prefix_len-le-length, All-head, All-push, ltb-true, prefix_len, take_while, AllPass, is_ascii_digit, ReadingFault, Unended, ExpectedName, ExpectedValue, UnbalancedBrace, KeyTooLong, Text, is_name_within}
use Rattle.bib_scan.proofs.Words.{is_name_byte, does_not_begin_with, after_run, Part, Braced, Quoted, Macro, part_bytes, IsPart, Read, Halt, stop, expected, read_run, with_front, read_braced, read_quoted, begins_name, read_name, read_part, ◌>>=◌}
use Rattle.bib_spec.specs.Tree.{Digits}
use Rattle.bib_scan.proofs.RunLaws.{chosen, not_ok, limited_again, cons_nil}
use Rattle.bib_scan.proofs.BraceLemmas.{braced_takes, quoted_takes, braced_opens, braced_closes, braced_ends, braced_nil, quoted_opens, quoted_closes, quoted_ends, quoted_inside, quoted_unbalanced, quoted_nil}
use Rattle.bib_scan.proofs.BraceLaws.{plain_byte, braced_again, quoted_again, balanced_closes, quotes_inside}
use Rattle.bib_scan.proofs.PartLaws.{AfterPart, name_byte_no, part_ok, part_again, name_parts, name_ok, name_again, begins_from}
use Rattle.bib_scan.proofs.AgainLaws.{Breaks}
use Rattle.bib_scan.proofs.LocalLaws.{rest_of, run, run_beyond}
use Rattle.bib_scan.proofs.MendLaws.{err_is}
use Rattle.bib_scan.proofs.MendRows.{resumes_run, resumes_name, resumes_part, x_name, inner_err, as_part, too_long}
use Rattle.bib_scan.proofs.TellLaws.{Past, Stopped, Passes, Blocks, Tries, AsksDigit, IsEnd, DigitToo, TellsAt, Tells, Keeps, TakesDigit, keeps_of}
use Rattle.bib_scan.proofs.TellLaws as tells

-- ---- what a fault at the end of `front` shows

pub told : {A : Type 0} (p : Text → Read A) (G : ℕ → Type 0) (t front r : Text) (f : ReadingFault) (h : Halt) → stop f r ≡ h → t ≡ front ++ r → IsEnd f r
    → ((d : ℕ) → Passes f d → Past p front d) → ((d : ℕ) → Blocks f d → Stopped p front d) → (AsksDigit f → DigitToo p front) → (front ≡ [] → (d : ℕ) → Tries f d → G d) → TellsAt p G t h
told p G t front r f h e split end passed blocked digit starts =
    subst (TellsAt p G t) e (record { front = front; split = split; end = end; passed = passed; blocked = blocked; digit = digit; starts = starts })

-- the text has ended
pub told_end : {A : Type 0} (p : Text → Read A) (G : ℕ → Type 0) (t : Text) (h : Halt) → stop Unended [] ≡ h → TellsAt p G t h
told_end p G t h e = told p G t t [] Unended h e (sym (append-nil t)) refl (λ d ok. absurd ok) (λ d ok. absurd ok) (λ asks. absurd asks) (λ none d ok. elim ok [ inl x ↦ absurd x | inr x ↦ absurd x ])

-- a name or key is too long
pub told_long : {A : Type 0} (p : Text → Read A) (G : ℕ → Type 0) (t front r : Text) (h : Halt) → stop KeyTooLong r ≡ h → t ≡ front ++ r → (r ≡ [] → ⊥) → TellsAt p G t h
told_long p G t front r h e split end = told p G t front r KeyTooLong h e split end (λ d ok. absurd ok) (λ d ok. absurd ok) (λ asks. absurd asks) (λ none d ok. elim ok [ inl x ↦ absurd x | inr x ↦ absurd x ])

-- ---- runs

pub keeps_run : (test : ℕ → Bool) → Keeps (run test) (λ d. test d ≡ false)
keeps_run test = keeps_of (run test) (λ s. does_not_begin_with test s ≡ true) (λ d. test d ≡ false) (resumes_run test) (λ d fails. not_from_false (test d) fails)

pub tell_run : (test : ℕ → Bool) (G : ℕ → Type 0) → Tells (run test) G
tell_run test G t h is = absurd (not_ok (take_while test t, after_run test t) h (run test t) is refl)

pub tell_limited : {A : Type 0} (limit : ℕ) (test : ℕ → Bool) (p : Text → Read A) (G : ℕ → Type 0) (t : Text) (h : Halt) → read_run limit test t ≡ Err h → TellsAt p G t h
tell_limited limit test p G t h is =
    let l = too_long limit test t h is in
    elim (chosen (ltb limit (prefix_len test t)) _ _ _ is) [
      | inl long ↦
          let e : stop KeyTooLong (drop limit t) ≡ h = err_is {A = Text × Text} (stop KeyTooLong (drop limit t)) h _ refl long.1 in
          let more : limit < prefix_len test t = ltb-true _ _ long.0 in
          told_long p G t l.front (drop limit t) h e (l.split ∙ ap (λ (k : Halt). l.front ++ k.rest) (sym e)) (λ none. omega (arith, prefix_len-le-length test t, length-drop limit t, ap (length {A = ℕ}) none))
      | inr short ↦ absurd (not_ok _ h _ short.1 refl)
    ]

-- a run of bytes of the class: one more continues it, or it is too long
pub run_too : (limit : ℕ) (test : ℕ → Bool) (u : Text) → AllPass test u → length u ≤ limit → test 120 ≡ true → test 49 ≡ true → DigitToo (read_run limit test) u
run_too limit test u all fits letter digit =
    elim (cases_eq (length u) limit) [
      | inl full ↦
          let more : limit < prefix_len test (u ++ 120 ∷ []) = omega (arith, run_beyond test u 120 [] all letter) in
          inl (KeyTooLong, cond-true (ltb limit (prefix_len test (u ++ 120 ∷ []))) _ _ (lt-ltb _ _ more) ∙ ap (λ (s : Text). Err (stop KeyTooLong s)) (drop_at u (120 ∷ []) limit full))
      | inr room ↦
          let longer : AllPass test (u ++ 49 ∷ []) = All-push (λ (x : ℕ). test x ≡ true) u 49 all digit in
          let read : read_run limit test ((u ++ 49 ∷ []) ++ []) ≡ Ok (u ++ 49 ∷ [], []) = limited_again limit test (u ++ 49 ∷ []) [] longer (omega (arith, length-append u (49 ∷ []))) refl in
          inr (ap rest_of (ap (read_run limit test) (sym (append-nil (u ++ 49 ∷ []))) ∙ read))
    ]

x_named : is_name_byte 120 ≡ true
unfolding is_name_byte
x_named = refl

one_named : is_name_byte 49 ≡ true
unfolding is_name_byte
one_named = refl

-- ---- names

name_digit : (limit : ℕ) → (b : ℕ) → begins_name (b ∷ []) ≡ false → Stopped (read_name limit) [] b
name_digit limit b none = (ExpectedName, cond-false (begins_name (b ∷ [])) _ _ none)

no_names : (d : ℕ) → Blocks ExpectedName d → begins_name (d ∷ []) ≡ false
unfolding is_name_byte
no_names d (inl is) = subst (λ (n : ℕ). begins_name (n ∷ []) ≡ false) (sym is) refl
no_names d (inr (inl is)) = subst (λ (n : ℕ). begins_name (n ∷ []) ≡ false) (sym is) refl
no_names d (inr (inr is)) = subst (λ (n : ℕ). begins_name (n ∷ []) ≡ false) (sym is) refl

pub tell_name : (limit : ℕ) (some : 0 < limit) (G : ℕ → Type 0) → ((d : ℕ) → Tries ExpectedName d → G d) → Tells (read_name limit) G
tell_name limit some G each t h is =
    elim (chosen (begins_name t) _ _ _ is) [
      | inl begins ↦ tell_limited limit is_name_byte (read_name limit) G t h begins.1
      | inr none ↦ at t none.1
    ]
  where
    letter : (d : ℕ) → d ≡ 120 → Past (read_name limit) [] d
    letter d e = subst (Past (read_name limit) []) (sym e) (ap rest_of (name_again limit (120 ∷ []) [] (x_name limit some) refl))

    at : (u : Text) → (let r : Read Text = Err (expected ExpectedName u) in r ≡ Err h) → TellsAt (read_name limit) G u h
    at [] e = told_end (read_name limit) G [] h (err_is {A = Text × Text} (stop Unended []) h _ refl e)
    at (b ∷ u) e = told (read_name limit) G (b ∷ u) [] (b ∷ u) ExpectedName h (err_is {A = Text × Text} (stop ExpectedName (b ∷ u)) h _ refl e) refl (cons_nil b u) letter (λ d ok. name_digit limit d (no_names d ok)) (λ asks. absurd asks) (λ none. each)

pub keeps_name : (limit : ℕ) → Keeps (read_name limit) (λ d. is_name_byte d ≡ false)
keeps_name limit = keeps_of (read_name limit) (λ s. does_not_begin_with is_name_byte s ≡ true) (λ d. is_name_byte d ≡ false) (resumes_name limit) (λ d fails. not_from_false (is_name_byte d) fails)

pub digits_name : (limit : ℕ) → tells.Digits (read_name limit)
digits_name limit t a r u is split =
    let n = name_ok limit t (a, r) is in
    let u_is : u ≡ a = append_cancel_right u a r (sym split ∙ n.split) in
    let name : is_name_within limit u ≡ true = subst (λ (v : Text). is_name_within limit v ≡ true) (sym u_is) n.name in
    let parts = name_parts limit u name in
    let same : (d : ℕ) → read_name limit (u ++ d ∷ []) ≡ read_run limit is_name_byte (u ++ d ∷ []) = λ d. cond-true (begins_name (u ++ d ∷ [])) _ _ (begins_from limit u (d ∷ []) name) in
    elim (run_too limit is_name_byte u parts.bytes parts.short x_named one_named) [
      | inl s ↦ inr (inl (s.0, same 120 ∙ s.1))
      | inr e ↦ inr (inr (ap rest_of (same 49) ∙ e))
    ]

-- ---- braced and quoted text

pub front_err : (b : ℕ) (m : Read Text) (h : Halt) → with_front (b ∷ []) m ≡ Err h → m ≡ Err h
front_err b (Ok x) h e = absurd (not_ok (b ∷ x.0, x.1) h _ e refl)
front_err b (Err k) h e = e

-- a braced text stops only at the end
pub braced_err : (d : ℕ) (t : Text) (h : Halt) → read_braced d t ≡ Err h → stop Unended [] ≡ h
braced_err d [] h is = err_is (stop Unended []) h _ (braced_nil d) is
braced_err d (b ∷ t) h is =
    elim (cases_eq b 123) [
      | inl opens ↦ braced_err (d + 1) t h (front_err b _ h (sym (braced_opens d b t opens) ∙ is))
      | inr no_open ↦ elim (cases_eq b 125) [
        | inl closes ↦ elim (cases_eq d 0) [
          | inl none ↦ absurd (not_ok ([], t) h _ is (ap (λ (n : ℕ). read_braced n (b ∷ t)) none ∙ braced_ends b t closes))
          | inr some ↦ braced_err (d - 1) t h (front_err b _ h (sym (braced_closes d b t some closes) ∙ is))
        ]
        | inr no_close ↦ braced_err d t h (front_err b _ h (sym (braced_takes d b t (or_from _ _ (ne_eqb b 123 no_open) (ne_eqb b 125 no_close))) ∙ is))
      ]
    ]

abbrev Anything : ℕ → Type 0
Anything d = Unit {0}

front_rest : (b : ℕ) (m : Read Text) → rest_of m ≡ [] → rest_of (with_front (b ∷ []) m) ≡ []
front_rest b (Ok x) e = e
front_rest b (Err h) e = e

tell_front : (b : ℕ) (p q : Text → Read Text) (t : Text) (h : Halt) → ((u : Text) → p (b ∷ u) ≡ with_front (b ∷ []) (q u)) → ((g : Halt) → q t ≡ Err g → TellsAt q Anything t g) → p (b ∷ t) ≡ Err h → TellsAt p Anything (b ∷ t) h
tell_front b p q t h step later is =
    let m = later h (front_err b (q t) h (sym (step t) ∙ is)) in
    record {
      front = b ∷ m.front;
      split = ap (λ (u : Text). b ∷ u) m.split;
      end = m.end;
      passed = λ d ok. past m.front d (m.passed d ok);
      blocked = λ d ok. stopped m.front d (m.blocked d ok);
      digit = λ asks. digit m.front (m.digit asks);
      starts = λ none. absurd (cons_nil b m.front none);
    }
  where
    past : (u : Text) (d : ℕ) → Past q u d → Past p (b ∷ u) d
    past u d e = ap rest_of (step (u ++ d ∷ [])) ∙ front_rest b (q (u ++ d ∷ [])) e

    stopped : (u : Text) (d : ℕ) → Stopped q u d → Stopped p (b ∷ u) d
    stopped u d s = (s.0, step (u ++ d ∷ []) ∙ ap (with_front (b ∷ [])) s.1)

    digit : (u : Text) → DigitToo q u → DigitToo p (b ∷ u)
    digit u (inl s) = inl (stopped u 120 s)
    digit u (inr e) = inr (past u 49 e)

quoted_passes : (d : ℕ) → Passes UnbalancedBrace d → Past (read_quoted 0) [] d
unfolding read_quoted
quoted_passes d (inl is) = subst (Past (read_quoted 0) []) (sym is) refl
quoted_passes d (inr is) = subst (Past (read_quoted 0) []) (sym is) refl

pub tell_quoted : (d : ℕ) → Tells (read_quoted d) Anything
tell_quoted d [] h is = told_end (read_quoted d) Anything [] h (err_is (stop Unended []) h _ (quoted_nil d) is)
tell_quoted d (b ∷ t) h is =
    elim (cases_eq b 123) [
      | inl opens ↦ tell_front b (read_quoted d) (read_quoted (d + 1)) t h (λ u. quoted_opens d b u opens) (λ g e. tell_quoted (d + 1) t g e) is
      | inr no_open ↦ elim (cases_eq b 125) [
        | inl closes ↦ elim (cases_eq d 0) [
          | inl none ↦
              let e : stop UnbalancedBrace (b ∷ t) ≡ h = err_is (stop UnbalancedBrace (b ∷ t)) h _ (ap (λ (n : ℕ). read_quoted n (b ∷ t)) none ∙ quoted_unbalanced b t closes) is in
              told (read_quoted d) Anything (b ∷ t) [] (b ∷ t) UnbalancedBrace h e refl (cons_nil b t) (λ c ok. subst (λ (n : ℕ). Past (read_quoted n) [] c) (sym none) (quoted_passes c ok)) (λ c ok. absurd ok) (λ asks. absurd asks) (λ nothing c ok. tt)
          | inr some ↦ tell_front b (read_quoted d) (read_quoted (d - 1)) t h (λ u. quoted_closes d b u some closes) (λ g e. tell_quoted (d - 1) t g e) is
        ]
        | inr no_close ↦ elim (cases_eq b 34) [
          | inl mark ↦ elim (cases_eq d 0) [
            | inl none ↦ absurd (not_ok ([], t) h _ is (ap (λ (n : ℕ). read_quoted n (b ∷ t)) none ∙ quoted_ends b t mark))
            | inr some ↦ tell_front b (read_quoted d) (read_quoted d) t h (λ u. quoted_inside d b u some mark) (λ g e. tell_quoted d t g e) is
          ]
          | inr no_mark ↦ tell_front b (read_quoted d) (read_quoted d) t h (λ u. quoted_takes d b u (plain_byte b no_open no_close no_mark)) (λ g e. tell_quoted d t g e) is
        ]
      ]
    ]

-- ---- parts

quoted_part_rest : (m : Read Text) → rest_of m ≡ [] → rest_of (m >>= λ x. as_part (λ u. Quoted u) x) ≡ []
quoted_part_rest (Ok x) e = e
quoted_part_rest (Err h) e = e

-- a part that begins with a quotation mark
quoted_first : (limit : ℕ) (u : Text) → read_part limit (34 ∷ u) ≡ (read_quoted 0 u >>= as_part (λ v. Quoted v))
unfolding read_part
quoted_first limit u = refl

value_passes : (limit d : ℕ) → Passes ExpectedValue d → Past (read_part limit) [] d
unfolding read_part read_quoted
value_passes limit d is = subst (Past (read_part limit) []) (sym is) refl

value_blocks : (limit d : ℕ) → Blocks ExpectedValue d → Stopped (read_part limit) [] d
unfolding read_part is_name_byte
value_blocks limit d is = subst (Stopped (read_part limit) []) (sym is) (ExpectedValue, refl)

tell_quoted_part : (limit : ℕ) (G : ℕ → Type 0) (t : Text) (h : Halt) → TellsAt (read_quoted 0) Anything t h → TellsAt (read_part limit) G (34 ∷ t) h
tell_quoted_part limit G t h m = record {
  front = 34 ∷ m.front;
  split = ap (λ (u : Text). 34 ∷ u) m.split;
  end = m.end;
  passed = λ d ok. past m.front d (m.passed d ok);
  blocked = λ d ok. stopped m.front d (m.blocked d ok);
  digit = λ asks. digit m.front (m.digit asks);
  starts = λ none. absurd (cons_nil 34 m.front none);
}
  where
    past : (u : Text) (d : ℕ) → Past (read_quoted 0) u d → Past (read_part limit) (34 ∷ u) d
    past u d e = ap rest_of (quoted_first limit (u ++ d ∷ [])) ∙ quoted_part_rest (read_quoted 0 (u ++ d ∷ [])) e

    stopped : (u : Text) (d : ℕ) → Stopped (read_quoted 0) u d → Stopped (read_part limit) (34 ∷ u) d
    stopped u d s = (s.0, quoted_first limit (u ++ d ∷ []) ∙ ap (λ (m : Read Text). m >>= as_part (λ v. Quoted v)) s.1)

    digit : (u : Text) → DigitToo (read_quoted 0) u → DigitToo (read_part limit) (34 ∷ u)
    digit u (inl s) = inl (stopped u 120 s)
    digit u (inr e) = inr (past u 49 e)

pub tell_part : (limit : ℕ) (G : ℕ → Type 0) → ((d : ℕ) → Tries ExpectedValue d → G d) → Tells (read_part limit) G
unfolding read_part
tell_part limit G each [] h is = told_end (read_part limit) G [] h (err_is {A = Part × Text} (stop Unended []) h _ refl is)
tell_part limit G each (b ∷ t) h is =
    elim (chosen (eqb b 123) _ _ _ is) [
      | inl brace ↦ told_end (read_part limit) G (b ∷ t) h (braced_err 0 t h (inner_err (λ u. Braced u) (read_braced 0 t) h brace.1))
      | inr other ↦ elim (chosen (eqb b 34) _ _ _ other.1) [
        | inl mark ↦
            let m = tell_quoted_part limit G t h (tell_quoted 0 t h (inner_err (λ u. Quoted u) (read_quoted 0 t) h mark.1)) in
            subst (λ (c : ℕ). TellsAt (read_part limit) G (c ∷ t) h) (sym (eqb-true b 34 mark.0)) m
        | inr plain ↦ elim (chosen (is_ascii_digit b) _ _ _ plain.1) [
          | inl digit ↦ absurd (not_ok (Digits (take_while is_ascii_digit (b ∷ t)), after_run is_ascii_digit (b ∷ t)) h _ digit.1 refl)
          | inr letter ↦ elim (chosen (is_name_byte b) _ _ _ letter.1) [
            | inl named ↦ tell_limited limit is_name_byte (read_part limit) G (b ∷ t) h (inner_err (λ u. Macro u) (read_run limit is_name_byte (b ∷ t)) h named.1)
            | inr wrong ↦ told (read_part limit) G (b ∷ t) [] (b ∷ t) ExpectedValue h (err_is {A = Part × Text} (stop ExpectedValue (b ∷ t)) h _ refl wrong.1) refl (cons_nil b t) (value_passes limit) (value_blocks limit) (λ asks. absurd asks) (λ none. each)
          ]
        ]
      ]
    ]

pub keeps_part : (limit : ℕ) → Keeps (read_part limit) Breaks
keeps_part limit = keeps_of (read_part limit) AfterPart Breaks (resumes_part limit) (λ d ok. record { name = not_from_false _ ok.name; digit = not_from_false _ ok.digit })

-- the text after a braced or quoted part does not matter
braced_any : (limit : ℕ) (c r : Text) → IsPart limit (Braced c) → read_part limit (part_bytes (Braced c) ++ r) ≡ Ok (Braced c, r)
unfolding read_part
braced_any limit c r is =
    let read = ap (read_braced 0) (append_assoc c (125 ∷ []) r) ∙ braced_again 0 c r (balanced_closes c is) in
    rw read refl

quoted_any : (limit : ℕ) (c r : Text) → IsPart limit (Quoted c) → read_part limit (part_bytes (Quoted c) ++ r) ≡ Ok (Quoted c, r)
unfolding read_part
quoted_any limit c r is =
    let read = ap (read_quoted 0) (append_assoc c (34 ∷ []) r) ∙ quoted_again 0 c r (balanced_closes c is.0) (quotes_inside c is.1) in
    rw read refl

one_digit : is_ascii_digit 49 ≡ true
one_digit = refl

-- the first byte determines that a part is a macro name
macro_first : (limit : ℕ) (u r : Text) → is_name_within limit u ≡ true → read_part limit (u ++ r) ≡ (read_run limit is_name_byte (u ++ r) >>= as_part (λ v. Macro v))
unfolding read_part is_name_byte
macro_first limit [] r is = let n = name_parts limit [] is in absurd (omega (arith, n.some))
macro_first limit (b ∷ u) r is =
    let n = name_parts limit (b ∷ u) is in
    let first : is_name_byte b ≡ true = All-head (λ (x : ℕ). is_name_byte x ≡ true) b u n.bytes in
    rw (name_byte_no b 123 first refl, name_byte_no b 34 first refl, not-true _ n.first) (cond-true (is_name_byte b) _ _ first)

part_digit : (limit : ℕ) (a : Part) → IsPart limit a → TakesDigit (read_part limit) a (part_bytes a)
part_digit limit (Braced c) is = inl (braced_any limit c (120 ∷ []) is, braced_any limit c (49 ∷ []) is)
part_digit limit (Quoted c) is = inl (quoted_any limit c (120 ∷ []) is, quoted_any limit c (49 ∷ []) is)
part_digit limit (Digits c) is =
    let more : IsPart limit (Digits (c ++ 49 ∷ [])) = (omega (arith, length-append c (49 ∷ [])), All-push (λ (x : ℕ). is_ascii_digit x ≡ true) c 49 is.1 one_digit) in
    let read = part_again limit (Digits (c ++ 49 ∷ [])) [] more (record { name = refl; digit = refl }) in
    inr (inr (ap rest_of (ap (read_part limit) (sym (append-nil (c ++ 49 ∷ []))) ∙ read)))
part_digit limit (Macro m) is =
    let n = name_parts limit m is in
    elim (run_too limit is_name_byte m n.bytes n.short x_named one_named) [
      | inl s ↦ inr (inl (s.0, macro_first limit m (120 ∷ []) is ∙ ap (λ (r : Read Text). r >>= as_part (λ v. Macro v)) s.1))
      | inr e ↦ inr (inr (ap rest_of (macro_first limit m (49 ∷ []) is) ∙ macro_rest (read_run limit is_name_byte (m ++ 49 ∷ [])) e))
    ]
  where
    macro_rest : (r : Read Text) → rest_of r ≡ [] → rest_of (r >>= as_part (λ v. Macro v)) ≡ []
    macro_rest (Ok x) e = e
    macro_rest (Err h) e = e

pub digits_part : (limit : ℕ) → tells.Digits (read_part limit)
digits_part limit t a r u is split =
    let p = part_ok limit t (a, r) is in
    let u_is : u ≡ part_bytes a = append_cancel_right u (part_bytes a) r (sym split ∙ p.0) in
    subst (TakesDigit (read_part limit) a) (sym u_is) (part_digit limit a p.1)
