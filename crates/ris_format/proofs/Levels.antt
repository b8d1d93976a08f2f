-- Depth of places in parts of a text.
use Rattle.ris_format.proofs.Words.{◌≡◌, ℕ, zero, suc, ◌+◌, ◌-◌, ◌≤◌, ◌<◌, Bool, true, false, cond, ◌&&◌, ◌||◌, eqb, [], ◌∷◌, ◌++◌, length, take, drop, get_or, refl, sym, ap, ◌∙◌, arith, ⊎_elim, subst, inl, inr, ◌⊎◌, below_more, count_by, slice_range, list_any, AllByRecursion, cases_Bool, cond-true}
use Rattle.ris_format.proofs.Words.{cond-false, eqb-true, eq-eqb, ne_eqb, and_parts, or_parts, both_ways, not-false, take-append-drop, take-append-le, take_all, get_or-append-add, length-drop, length-take-le, Text, is_space, after_run, opened_before, closed_before, IsBalanced, is_level, places_from}
use Rattle.ris_format.proofs.Words.{between, Stretch, stretch, before_run, is_comma, commas}
use Rattle.std.proofs.Common.{List, leb}
use Rattle.std.proofs.lemmas.Bool.{leb-true, leb-false}
use Rattle.std.proofs.lemmas.List.{get_or_append_left}
use Rattle.std.proofs.lemmas.List.Sums.{sum_by-append, sum_by-cons}
use Rattle.std.proofs.Math.Seq.{take-append-add}
use Rattle.bib_spec.proofs.Names.{both_true}
use Rattle.bib_names.proofs.CommaLemmas.{level_after}
use Rattle.ris_format.proofs.Trims.{after_run-yes, after_run-no, before_run-cons, before_run-none, fails}

-- how many braces open in the text, and how many close
abbrev pub opens : Text → ℕ
opens text = count_by (λ b. eqb b 123) text

abbrev pub closes : Text → ℕ
closes text = count_by (λ b. eqb b 125) text

pub count-append : (p : ℕ → Bool) (x y : Text) → count_by p (x ++ y) ≡ count_by p x + count_by p y
count-append p x y = sum_by-append (λ b. cond (p b) 1 0) x y

pub count-cons : (p : ℕ → Bool) (b : ℕ) (x : Text) → count_by p (b ∷ x) ≡ cond (p b) 1 0 + count_by p x
count-cons p b x = sum_by-cons (λ b. cond (p b) 1 0) b x

pub eqb-shift : (k a b : ℕ) → eqb (k + a) (k + b) ≡ eqb a b
eqb-shift k a b = both_true (eqb (k + a) (k + b)) (eqb a b) (λ e. eq-eqb a b (omega (arith, eqb-true (k + a) (k + b) e))) (λ e. eq-eqb (k + a) (k + b) (omega (arith, eqb-true a b e)))

-- after a front that closes what it opens, depth is as in the rest
pub level-after : (front x : Text) (k : ℕ) → opens front ≡ closes front → is_level (front ++ x) (length front + k) ≡ is_level x k
level-after front x k same =
    let o : opened_before (front ++ x) (length front + k) ≡ opens front + opened_before x k = ap opens (take-append-add front x k) ∙ count-append (λ b. eqb b 123) front (take k x) in
    let c : closed_before (front ++ x) (length front + k) ≡ opens front + closed_before x k = ap closes (take-append-add front x k) ∙ count-append (λ b. eqb b 125) front (take k x) ∙ ap (λ n. n + closed_before x k) (sym same) in
    ap (λ n. eqb n (closed_before (front ++ x) (length front + k))) o ∙ ap (eqb (opens front + opened_before x k)) c ∙ eqb-shift (opens front) (opened_before x k) (closed_before x k)

pub level-front : (x rest : Text) (k : ℕ) → k ≤ length x → is_level (x ++ rest) k ≡ is_level x k
level-front x rest k le = ap (λ (u : Text). eqb (opens u) (closes u)) (take-append-le k x rest le)

-- ---- a part of a text

-- the part is in the text, at depth 0
pub record IsWithin (text part : Text) : Type 0 where
  pub front : Text
  pub rest : Text
  pub is : text ≡ front ++ (part ++ rest)
  pub level : opens front ≡ closes front

pub level-within : (text part : Text) (w : IsWithin text part) (k : ℕ) → k ≤ length part → is_level text (length w.front + k) ≡ is_level part k
level-within text part w k le = ap (λ (u : Text). is_level u (length w.front + k)) w.is ∙ level-after w.front (part ++ w.rest) k w.level ∙ level-front part w.rest k le

pub byte-within : (text part : Text) (w : IsWithin text part) (k : ℕ) → k < length part → get_or text (length w.front + k) 0 ≡ get_or part k 0
byte-within text part w k lt = ap (λ (u : Text). get_or u (length w.front + k) 0) w.is ∙ get_or-append-add w.front (part ++ w.rest) k 0 ∙ get_or_append_left part w.rest 0 k lt

pub comma-within : (text part : Text) (w : IsWithin text part) (k : ℕ) → k < length part → is_comma text (length w.front + k) ≡ is_comma part k
comma-within text part w k lt =
    ap (λ c. c && eqb (get_or text (length w.front + k) 0) 44) (level-within text part w k (omega arith))
    ∙ ap (λ b. is_level part k && eqb b 44) (byte-within text part w k lt)

-- a part of a balanced text that closes what it opens is balanced
pub balanced-within : (text part : Text) → IsWithin text part → opens part ≡ closes part → IsBalanced text → IsBalanced part
balanced-within text part w same is = record {
  never_negative = λ n. ⊎_elim (λ (h : n ≤ length part). short n h) (λ (h : length part ≤ n). long n h) (cases_le n (length part));
  all_closed = ap closes (take_all (length part) part (omega arith)) ∙ sym same ∙ sym (ap opens (take_all (length part) part (omega arith)));
}
  where
    cases_le : (a b : ℕ) → (a ≤ b) ⊎ (b ≤ a)
    cases_le a b = elim (leb a b) as (λ c. leb a b ≡ c → (a ≤ b) ⊎ (b ≤ a)) [
      | true ↦ λ e. inl (leb-true a b e)
      | false ↦ λ e. inr (omega (arith, leb-false a b e))
    ] refl

    short : (n : ℕ) → n ≤ length part → closed_before part n ≤ opened_before part n
    short n le =
        let o = ap opens (ap (take (length w.front + n)) w.is ∙ take-append-add w.front (part ++ w.rest) n ∙ ap (λ (u : Text). w.front ++ u) (take-append-le n part w.rest le)) ∙ count-append (λ b. eqb b 123) w.front (take n part) in
        let c = ap closes (ap (take (length w.front + n)) w.is ∙ take-append-add w.front (part ++ w.rest) n ∙ ap (λ (u : Text). w.front ++ u) (take-append-le n part w.rest le)) ∙ count-append (λ b. eqb b 125) w.front (take n part) in
        omega (arith, is.never_negative (length w.front + n), o, c, w.level)

    long : (n : ℕ) → length part ≤ n → closed_before part n ≤ opened_before part n
    long n le =
        let e : take n part ≡ part = take_all n part le in
        omega (arith, ap opens e, ap closes e, same)

-- ---- bytes that are dropped and are no braces

pub count-before_run : (test q : ℕ → Bool) (t : Text) → ((b : ℕ) → test b ≡ true → q b ≡ false) → count_by q (before_run test t) ≡ count_by q t
count-before_run test q [] unlike = refl
count-before_run test q (b ∷ t) unlike =
    ⊎_elim
    (λ some. ap (count_by q) (before_run-cons test b t some) ∙ count-cons q b (before_run test t) ∙ ap (λ n. cond (q b) 1 0 + n) (count-before_run test q t unlike) ∙ sym (count-cons q b t))
    (λ none. ap (count_by q) (before_run-none test (b ∷ t) none) ∙ sym (nothing (b ∷ t) none))
    (cases_Bool (list_any (fails test) (b ∷ t)))
  where
    nothing : (t : Text) → list_any (fails test) t ≡ false → count_by q t ≡ 0
    nothing [] none = refl
    nothing (b ∷ t) none =
        let p = or_parts (fails test b) (list_any (fails test) t) none in
        count-cons q b t ∙ omega (arith, ap {B = ℕ} (λ c. cond c 1 0) (unlike b (not-false (test b) p.0)), nothing t p.1)

pub count-after_run : (test q : ℕ → Bool) (t : Text) → ((b : ℕ) → test b ≡ true → q b ≡ false) → count_by q (after_run test t) ≡ count_by q t
count-after_run test q [] unlike = refl
count-after_run test q (b ∷ t) unlike =
    ⊎_elim
    (λ h. ap (count_by q) (after_run-yes test b t h) ∙ count-after_run test q t unlike ∙ sym (count-cons q b t ∙ omega (arith, ap {B = ℕ} (λ c. cond c 1 0) (unlike b h))))
    (λ h. ap (count_by q) (after_run-no test b t h))
    (cases_Bool (test b))

pub space-no_brace : (b k : ℕ) → 32 < k → is_space b ≡ true → eqb b k ≡ false
unfolding is_space
space-no_brace b k lt h = ne_eqb b k (λ e. absurd (small b k lt e h))
  where
    small : (b k : ℕ) → 32 < k → b ≡ k → (eqb b 32 || eqb b 9 || eqb b 10 || eqb b 13) ≡ true → ⊥
    small b k lt e h =
        both_ways (eqb b 32 || eqb b 9 || eqb b 10 || eqb b 13)
        (rw (ne_eqb b 32 (λ i. omega arith), ne_eqb b 9 (λ i. omega arith), ne_eqb b 10 (λ i. omega arith), ne_eqb b 13 (λ i. omega arith)) refl) h

-- ---- stretches between cuts

-- a stretch of a text between places where it is cut, as at commas: at depth 0 at both ends, with no such place in it
pub record IsStretch (cut : ℕ → Bool) (text : Text) (s : Stretch) : Type 0 where
  pub within : IsWithin text s.text
  pub at_is : s.at ≡ length within.front
  pub level : opens s.text ≡ closes s.text
  pub alone : (k : ℕ) → k < length s.text → cut (s.at + k) ≡ false

pub level_at : (text : Text) (at : ℕ) → is_level text at ≡ true → opens (take at text) ≡ closes (take at text)
level_at text at h = eqb-true (opened_before text at) (closed_before text at) h

pub cut_off : (text : Text) (at m : ℕ) → take at text ++ (take m (drop at text) ++ drop m (drop at text)) ≡ text
cut_off text at m = ap (λ (u : Text). take at text ++ u) (take-append-drop m (drop at text)) ∙ take-append-drop at text

pub take-sum : (text : Text) (at m : ℕ) → at + m ≤ length text → take (at + m) text ≡ take at text ++ take m (drop at text)
take-sum text at m le =
    let e : length (take at text) ≡ at = length-take-le at text (omega arith) in
    ap (λ (u : Text). take (at + m) u) (sym (take-append-drop at text))
    ∙ ap (λ n. take (n + m) (take at text ++ drop at text)) (sym e)
    ∙ take-append-add (take at text) (drop at text) m

pub stretch-is : (cut : ℕ → Bool) (text : Text) (at place : ℕ) → at ≤ place → place ≤ length text → is_level text at ≡ true → is_level text place ≡ true → ((p : ℕ) → at ≤ p → p < place → cut p ≡ false)
    → IsStretch cut text (stretch at (slice_range text at place))
stretch-is cut text at place le within start end none =
    let m : at + (place - at) ≡ place = omega arith in
    let parts : take place text ≡ take at text ++ take (place - at) (drop at text) = ap (λ n. take n text) (sym m) ∙ take-sum text at (place - at) (omega arith) in
    let o = ap opens parts ∙ count-append (λ b. eqb b 123) (take at text) (take (place - at) (drop at text)) in
    let c = ap closes parts ∙ count-append (λ b. eqb b 125) (take at text) (take (place - at) (drop at text)) in
    let len : length (take (place - at) (drop at text)) ≡ place - at = length-take-le (place - at) (drop at text) (omega (arith, length-drop at text)) in
    record {
      within = record { front = take at text; rest = drop (place - at) (drop at text); is = sym (cut_off text at (place - at)); level = level_at text at start };
      at_is = sym (length-take-le at text (omega arith));
      level = omega (arith, o, c, level_at text at start, level_at text place end);
      alone = λ k lt. none (at + k) (omega arith) (omega (arith, len));
    }

stretches : (text : Text) (at place n : ℕ) → at ≤ place → place + n ≡ length text → is_level text at ≡ true → is_level text (length text) ≡ true → ((p : ℕ) → at ≤ p → p < place → is_comma text p ≡ false)
    → AllByRecursion (IsStretch (is_comma text) text) (between 1 text at (places_from (is_comma text) place n))
stretches text at place zero le sum start end none =
    let whole : slice_range text at place ≡ drop at text = take_all (place - at) (drop at text) (omega (arith, length-drop at text)) in
    let here : IsStretch (is_comma text) text (stretch at (slice_range text at place)) = stretch-is (is_comma text) text at place le (omega arith) start (ap (is_level text) (omega arith) ∙ end) none in
    (subst (λ (u : Text). IsStretch (is_comma text) text (stretch at u)) whole here, tt)
stretches text at place (suc n) le sum start end none =
    ⊎_elim
    (λ (h : is_comma text place ≡ true).
    let p = and_parts (is_level text place) (eqb (get_or text place 0) 44) h in
    let here = stretch-is (is_comma text) text at place le (omega arith) start p.0 none in
    let later = stretches text (place + 1) (place + 1) n (omega arith) (omega arith) (level_after text place (omega arith) p.0 (eqb-true (get_or text place 0) 44 p.1)) end (λ q low high. absurd (omega arith)) in
    subst (λ (ps : List ℕ). AllByRecursion (IsStretch (is_comma text) text) (between 1 text at ps)) (sym (cond-true (is_comma text place) (place ∷ places_from (is_comma text) (place + 1) n) _ h)) (here, later))
    (λ (h : is_comma text place ≡ false).
    let later = stretches text at (place + 1) n (omega arith) (omega arith) start end (λ q low high. below_more (λ r. at ≤ r → is_comma text r ≡ false) place (λ r hr lr. none r lr hr) (λ _. h) q high low) in
    subst (λ (ps : List ℕ). AllByRecursion (IsStretch (is_comma text) text) (between 1 text at ps)) (sym (cond-false (is_comma text place) (place ∷ places_from (is_comma text) (place + 1) n) _ h)) later)
    (cases_Bool (is_comma text place))

pub all-stretches : (text : Text) → opens text ≡ closes text → AllByRecursion (IsStretch (is_comma text) text) (between 1 text 0 (commas text))
all-stretches text level =
    let whole : take (length text) text ≡ text = take_all (length text) text (omega arith) in
    stretches text 0 0 (length text) (omega arith) (omega arith) refl (eq-eqb (opened_before text (length text)) (closed_before text (length text)) (ap opens whole ∙ level ∙ sym (ap closes whole))) (λ q low high. absurd (omega arith))
