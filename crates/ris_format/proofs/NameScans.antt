-- The commas and the cuts of a name, from left to right.
use Rattle.ris_format.proofs.Words.{◌≡◌, ℕ, ◌+◌, ◌-◌, ◌≤◌, Bool, true, false, cond, ◌&&◌, eqb, ltb, [], ◌∷◌, ◌++◌, length, take, drop, get_or, refl, sym, ap, ◌∙◌, arith, ⊎_elim, append-nil, slice_range, list_all, onto_first, cases_Bool, cond-true, cond-false, eqb-true, eq-eqb, and_parts, and_from}
use Rattle.ris_format.proofs.Words.{lt-ltb, take-append-le, take_all, drop-append-le, drop_all, get_or-append-add, length-drop, to_ascii_lowercase, Text, is_space, same, is_level, places_from, between, Stretch, is_and, is_cut, cuts, names_of, is_comma, commas, trimmed, one, pieces_from, with_front}
use Rattle.ris_format.proofs.Words.{lacks_and}
use Rattle.std.proofs.Common.{not, List, append_assoc, map, ◌==◌}
use Rattle.std.specs.Prelude.{codes}
use Rattle.std.proofs.lemmas.List.{length_push}
use Rattle.std.proofs.Math.Seq.{take-append_seam, drop-append_seam, get_or-append_seam}
use Rattle.std.proofs.Math.Bool.{and-false, and_assoc}
use Rattle.ris_format.proofs.Levels.{opens, closes, count-append, count-cons, eqb-shift}
use Rattle.ris_format.proofs.KeywordLaws.{front-onto}

-- ---- one byte more before a place

level-here : (pre t : Text) → is_level (pre ++ t) (length pre) ≡ eqb (opens pre) (closes pre)
level-here pre t = ap (λ (u : Text). eqb (opens u) (closes u)) (take-append_seam pre t)

opens-more : (pre : Text) (b : ℕ) → opens (pre ++ b ∷ []) ≡ opens pre + one 123 b
opens-more pre b = count-append (λ x. eqb x 123) pre (b ∷ []) ∙ omega (arith, count-cons (λ x. eqb x 123) b [])

closes-more : (pre : Text) (b : ℕ) → closes (pre ++ b ∷ []) ≡ closes pre + one 125 b
closes-more pre b = count-append (λ x. eqb x 125) pre (b ∷ []) ∙ omega (arith, count-cons (λ x. eqb x 125) b [])

-- ---- pieces between commas

onto-front : (b : ℕ) (ps : List Text) → with_front [] (onto_first b ps) ≡ onto_first b ps
onto-front b [] = refl
onto-front b (p ∷ ps) = refl

pub pieces-front : (o c : ℕ) (t : Text) → with_front [] (pieces_from o c t) ≡ pieces_from o c t
pieces-front o c [] = refl
pieces-front o c (b ∷ t) =
    ⊎_elim
    (λ h. let e = cond-true (eqb o c && eqb b 44) ([] ∷ pieces_from o c t) (onto_first b (pieces_from (o + one 123 b) (c + one 125 b) t)) h in ap (with_front []) e ∙ sym e)
    (λ h. let e = cond-false (eqb o c && eqb b 44) ([] ∷ pieces_from o c t) (onto_first b (pieces_from (o + one 123 b) (c + one 125 b) t)) h in ap (with_front []) e ∙ onto-front b _ ∙ sym e)
    (cases_Bool (eqb o c && eqb b 44))

abbrev texts_between : Text → ℕ → List ℕ → List Text
texts_between text at ps = map (λ (s : Stretch). s.text) (between 1 text at ps)

pieces-between : (pre t : Text) (at : ℕ) → at ≤ length pre → texts_between (pre ++ t) at (places_from (is_comma (pre ++ t)) (length pre) (length t)) ≡ with_front (drop at pre) (pieces_from (opens pre) (closes pre) t)
pieces-between pre [] at le = ap (λ (u : Text). drop at u ∷ []) (append-nil pre) ∙ ap (λ (u : Text). u ∷ []) (sym (append-nil (drop at pre)))
pieces-between pre (b ∷ t) at le =
    let total : Text = pre ++ (b ∷ t) in
    let next : Text = pre ++ (b ∷ []) in
    let whole : next ++ t ≡ total = append_assoc pre (b ∷ []) t in
    let len : length next ≡ length pre + 1 = length_push pre b in
    let ps = places_from (is_comma total) (length pre + 1) (length t) in
    let later = λ (from : ℕ) (low : from ≤ length next).
    ap (λ n. texts_between total from (places_from (is_comma total) n (length t))) (sym len)
    ∙ ap (λ (u : Text). texts_between u from (places_from (is_comma u) (length next) (length t))) (sym whole)
    ∙ pieces-between next t from low
    ∙ ap (λ n. with_front (drop from next) (pieces_from n (closes next) t)) (opens-more pre b)
    ∙ ap (λ n. with_front (drop from next) (pieces_from (opens pre + one 123 b) n t)) (closes-more pre b) in
    let test : is_comma total (length pre) ≡ (eqb (opens pre) (closes pre) && eqb b 44) =
    ap (λ x. x && eqb (get_or total (length pre) 0) 44) (level-here pre (b ∷ t)) ∙ ap (λ n. eqb (opens pre) (closes pre) && eqb n 44) (get_or-append_seam pre b t 0) in
    ⊎_elim
    (λ (h : (eqb (opens pre) (closes pre) && eqb b 44) ≡ true).
    let is = eqb-true b 44 (and_parts (eqb (opens pre) (closes pre)) (eqb b 44) h).1 in
    let o : opens pre + one 123 b ≡ opens pre = ap (λ n. opens pre + one 123 n) is ∙ omega arith in
    let c : closes pre + one 125 b ≡ closes pre = ap (λ n. closes pre + one 125 n) is ∙ omega arith in
    let head : slice_range total at (length pre) ≡ drop at pre =
    ap (take (length pre - at)) (drop-append-le at pre (b ∷ t) le) ∙ take-append-le (length pre - at) (drop at pre) (b ∷ t) (omega (arith, length-drop at pre)) ∙ take_all (length pre - at) (drop at pre) (omega (arith, length-drop at pre)) in
    ap (texts_between total at) (cond-true (is_comma total (length pre)) (length pre ∷ ps) ps (test ∙ h))
    ∙ ap (λ (u : Text). u ∷ texts_between total (length pre + 1) ps) (head ∙ sym (append-nil (drop at pre)))
    ∙ ap (λ (us : List Text). (drop at pre ++ []) ∷ us)
    (later (length pre + 1) (omega (arith, len)) ∙ ap (λ (u : Text). with_front u (pieces_from (opens pre + one 123 b) (closes pre + one 125 b) t)) (drop_all (length pre + 1) next (omega (arith, len)))
    ∙ pieces-front _ _ t ∙ ap (λ n. pieces_from n (closes pre + one 125 b) t) o ∙ ap (λ n. pieces_from (opens pre) n t) c)
    ∙ ap (with_front (drop at pre)) (sym (cond-true (eqb (opens pre) (closes pre) && eqb b 44) ([] ∷ pieces_from (opens pre) (closes pre) t) _ h)))
    (λ (h : (eqb (opens pre) (closes pre) && eqb b 44) ≡ false).
    ap (texts_between total at) (cond-false (is_comma total (length pre)) (length pre ∷ ps) ps (test ∙ h))
    ∙ later at (omega (arith, len))
    ∙ ap (λ (u : Text). with_front u (pieces_from (opens pre + one 123 b) (closes pre + one 125 b) t)) (drop-append-le at pre (b ∷ []) le)
    ∙ sym (front-onto (drop at pre) b (pieces_from (opens pre + one 123 b) (closes pre + one 125 b) t))
    ∙ ap (with_front (drop at pre)) (sym (cond-false (eqb (opens pre) (closes pre) && eqb b 44) ([] ∷ pieces_from (opens pre) (closes pre) t) _ h)))
    (cases_Bool (eqb (opens pre) (closes pre) && eqb b 44))

pub pieces-are : (text : Text) → texts_between text 0 (commas text) ≡ pieces_from 0 0 text
pieces-are text = pieces-between [] text 0 (omega arith) ∙ pieces-front 0 0 text

pub pieces-alone : (text : Text) → commas text ≡ [] → pieces_from 0 0 text ≡ text ∷ []
pieces-alone text none = sym (pieces-are text) ∙ ap (texts_between text 0) none

length-between : (text : Text) (at : ℕ) (ps : List ℕ) → length (texts_between text at ps) ≡ 1 + length ps
length-between text at [] = refl
length-between text at (p ∷ ps) = let rest = length-between text (p + 1) ps in omega (arith, rest)

pub commas-count : (text : Text) → length (pieces_from 0 0 text) ≡ 1 + length (commas text)
commas-count text = ap length (sym (pieces-are text)) ∙ length-between text 0 (commas text)

pieces-shift : (k o c : ℕ) (t : Text) → pieces_from (k + o) (k + c) t ≡ pieces_from o c t
pieces-shift k o c [] = refl
pieces-shift k o c (b ∷ t) =
    let x : k + o + one 123 b ≡ k + (o + one 123 b) = omega arith in
    let y : k + c + one 125 b ≡ k + (c + one 125 b) = omega arith in
    ap (λ e. cond (e && eqb b 44) ([] ∷ pieces_from (k + o) (k + c) t) (onto_first b (pieces_from (k + o + one 123 b) (k + c + one 125 b) t))) (eqb-shift k o c)
    ∙ ap (λ (ps : List Text). cond (eqb o c && eqb b 44) ([] ∷ ps) (onto_first b (pieces_from (k + o + one 123 b) (k + c + one 125 b) t))) (pieces-shift k o c t)
    ∙ ap (λ (ps : List Text). cond (eqb o c && eqb b 44) ([] ∷ pieces_from o c t) (onto_first b ps)) (ap (λ n. pieces_from n (k + c + one 125 b) t) x ∙ ap (λ n. pieces_from (k + (o + one 123 b)) n t) y ∙ pieces-shift k (o + one 123 b) (c + one 125 b) t)

onto-some : (b : ℕ) (ps : List Text) → onto_first b ps ≡ [] → ⊥
onto-some b [] e = cc
onto-some b (p ∷ ps) e = cc

-- there is a piece
pub pieces-some : (o c : ℕ) (t : Text) → pieces_from o c t ≡ [] → ⊥
pieces-some o c [] e = cc
pieces-some o c (b ∷ t) e =
    ⊎_elim
    (λ h. let f = sym (cond-true (eqb o c && eqb b 44) ([] ∷ pieces_from o c t) (onto_first b (pieces_from (o + one 123 b) (c + one 125 b) t)) h) ∙ e in cc)
    (λ h. onto-some b _ (sym (cond-false (eqb o c && eqb b 44) ([] ∷ pieces_from o c t) (onto_first b (pieces_from (o + one 123 b) (c + one 125 b) t)) h) ∙ e))
    (cases_Bool (eqb o c && eqb b 44))

onto-one : (b : ℕ) (x : Text) (ps : List Text) → (ps ≡ [] → ⊥) → onto_first b ps ≡ (b ∷ x) ∷ [] → ps ≡ x ∷ []
onto-one b x [] some e = absurd (some refl)
onto-one b x (p ∷ ps) some e = cc

pieces-part : (o c : ℕ) (x y : Text) → pieces_from o c x ≡ x ∷ [] → eqb (o + opens x) (c + closes x) ≡ true → pieces_from o c (x ++ (44 ∷ y)) ≡ x ∷ pieces_from (o + opens x) (c + closes x) y
pieces-part o c [] y alone level =
    let a : o + 0 ≡ o = omega arith in
    let b : c + 0 ≡ c = omega arith in
    cond-true (eqb o c && true) ([] ∷ pieces_from o c y) _ (and_from (eqb o c) true (ap (λ n. eqb n c) (sym a) ∙ ap (eqb (o + 0)) (sym b) ∙ level) refl)
    ∙ ap (λ n. [] ∷ pieces_from n c y) (sym a) ∙ ap (λ n. [] ∷ pieces_from (o + 0) n y) (sym b)
pieces-part o c (b ∷ x) y alone level =
    let oo = o + one 123 b in
    let cc' = c + one 125 b in
    let a : oo + opens x ≡ o + opens (b ∷ x) = omega (arith, count-cons (λ n. eqb n 123) b x) in
    let d : cc' + closes x ≡ c + closes (b ∷ x) = omega (arith, count-cons (λ n. eqb n 125) b x) in
    ⊎_elim
    (λ (h : (eqb o c && eqb b 44) ≡ true). absurd (let f = sym (cond-true (eqb o c && eqb b 44) ([] ∷ pieces_from o c x) (onto_first b (pieces_from oo cc' x)) h) ∙ alone in cc))
    (λ (h : (eqb o c && eqb b 44) ≡ false).
    let rest = onto-one b x (pieces_from oo cc' x) (pieces-some oo cc' x) (sym (cond-false (eqb o c && eqb b 44) ([] ∷ pieces_from o c x) (onto_first b (pieces_from oo cc' x)) h) ∙ alone) in
    cond-false (eqb o c && eqb b 44) ([] ∷ pieces_from o c (x ++ (44 ∷ y))) (onto_first b (pieces_from oo cc' (x ++ (44 ∷ y)))) h
    ∙ ap (onto_first b) (pieces-part oo cc' x y rest (ap (λ n. eqb n (cc' + closes x)) a ∙ ap (eqb (o + opens (b ∷ x))) d ∙ level))
    ∙ ap (λ n. (b ∷ x) ∷ pieces_from n (cc' + closes x) y) a ∙ ap (λ n. (b ∷ x) ∷ pieces_from (o + opens (b ∷ x)) n y) d)
    (cases_Bool (eqb o c && eqb b 44))

-- a piece without a comma, a comma, and the rest
pub pieces-comma : (x y : Text) → commas x ≡ [] → opens x ≡ closes x → pieces_from 0 0 (x ++ (44 ∷ y)) ≡ x ∷ pieces_from 0 0 y
pieces-comma x y alone level =
    let a : 0 + opens x ≡ opens x + 0 = omega arith in
    let b : 0 + closes x ≡ opens x + 0 = omega (arith, level) in
    pieces-part 0 0 x y (pieces-alone x alone) (eq-eqb (0 + opens x) (0 + closes x) (omega (arith, level)))
    ∙ ap (λ n. x ∷ pieces_from n (0 + closes x) y) a ∙ ap (λ n. x ∷ pieces_from (opens x + 0) n y) b
    ∙ ap (λ (ps : List Text). x ∷ ps) (pieces-shift (opens x) 0 0 y)

-- ---- the word `and` at depth 0

-- the word `and` is at the front of the text, between white space
abbrev and_at : Bool → Text → Bool
and_at s t = s && same (take 3 t) (codes "and") && is_space (get_or t 3 0)

-- no cut is in the text, with white space before it or not, if `opened` braces open and `closed` braces close before the text
abbrev pub free : Bool → ℕ → ℕ → Text → Bool
free s o c [] = true
free s o c (b ∷ t) = not (o == c && and_at s (b ∷ t)) && free (is_space b) (o + one 123 b) (c + one 125 b) t

abbrev pub is_nil : List ℕ → Bool
is_nil [] = true
is_nil (n ∷ ns) = false

nil-cond : (b : Bool) (n : ℕ) (ns : List ℕ) → is_nil (cond b (n ∷ ns) ns) ≡ (not b && is_nil ns)
nil-cond true n ns = refl
nil-cond false n ns = refl

cuts-free : (pre t : Text) (s : Bool) → s ≡ (ltb 0 (length pre) && is_space (get_or (pre ++ t) (length pre - 1) 0)) → is_nil (places_from (is_cut (pre ++ t)) (length pre) (length t)) ≡ free s (opens pre) (closes pre) t
cuts-free pre [] s e = refl
cuts-free pre (b ∷ t) s e =
    let total : Text = pre ++ (b ∷ t) in
    let next : Text = pre ++ (b ∷ []) in
    let whole : next ++ t ≡ total = append_assoc pre (b ∷ []) t in
    let len : length next ≡ length pre + 1 = length_push pre b in
    let test : is_cut total (length pre) ≡ (eqb (opens pre) (closes pre) && and_at s (b ∷ t)) =
    ap (λ x. x && is_and total (length pre)) (level-here pre (b ∷ t))
    ∙ ap (λ x. eqb (opens pre) (closes pre) && (x && same (take 3 (drop (length pre) total)) (codes "and") && is_space (get_or total (length pre + 3) 0))) (sym e)
    ∙ ap (λ (u : Text). eqb (opens pre) (closes pre) && (s && same (take 3 u) (codes "and") && is_space (get_or total (length pre + 3) 0))) (drop-append_seam pre (b ∷ t))
    ∙ ap (λ n. eqb (opens pre) (closes pre) && (s && same (take 3 (b ∷ t)) (codes "and") && is_space n)) (get_or-append-add pre (b ∷ t) 3 0) in
    let last : is_space b ≡ (ltb 0 (length next) && is_space (get_or (next ++ t) (length next - 1) 0)) =
    sym (ap (λ x. x && is_space (get_or (next ++ t) (length next - 1) 0)) (lt-ltb 0 (length next) (omega (arith, len)))
    ∙ ap (λ (u : Text). is_space (get_or u (length next - 1) 0)) whole
    ∙ ap (λ n. is_space (get_or total n 0)) (omega (arith, len))
    ∙ ap is_space (get_or-append_seam pre b t 0)) in
    nil-cond (is_cut total (length pre)) (length pre) (places_from (is_cut total) (length pre + 1) (length t))
    ∙ ap (λ x. not x && is_nil (places_from (is_cut total) (length pre + 1) (length t))) test
    ∙ ap (λ x. not (eqb (opens pre) (closes pre) && and_at s (b ∷ t)) && x)
    (ap (λ n. is_nil (places_from (is_cut total) n (length t))) (sym len)
    ∙ ap (λ (u : Text). is_nil (places_from (is_cut u) (length next) (length t))) (sym whole)
    ∙ cuts-free next t (is_space b) last
    ∙ ap (λ n. free (is_space b) n (closes next) t) (opens-more pre b)
    ∙ ap (λ n. free (is_space b) (opens pre + one 123 b) n t) (closes-more pre b))

pub free-is : (text : Text) → is_nil (cuts text) ≡ free false 0 0 text
free-is text = cuts-free [] text false refl

nil-is : (ns : List ℕ) → is_nil ns ≡ true → ns ≡ []
nil-is [] h = refl
nil-is (n ∷ ns) h = absurd (cc)

-- a text without a cut is at most one name
pub free-one : (text : Text) → free false 0 0 text ≡ true → ltb 1 (length (names_of text)) ≡ false
free-one text h =
    let none : cuts text ≡ [] = nil-is (cuts text) (free-is text ∙ h) in
    go (list_all is_space text) none
  where
    go : (b : Bool) → cuts text ≡ [] → ltb 1 (length (cond b [] (map (λ (s : Stretch). trimmed s.text) (between 3 text 0 (cuts text))))) ≡ false
    go true none = refl
    go false none = ap (λ ps. ltb 1 (length (map (λ (s : Stretch). trimmed s.text) (between 3 text 0 ps)))) none

free-shift : (s : Bool) (k o c : ℕ) (t : Text) → free s (k + o) (k + c) t ≡ free s o c t
free-shift s k o c [] = refl
free-shift s k o c (b ∷ t) =
    let x : k + o + one 123 b ≡ k + (o + one 123 b) = omega arith in
    let y : k + c + one 125 b ≡ k + (c + one 125 b) = omega arith in
    ap (λ e. not (e && and_at s (b ∷ t)) && free (is_space b) (k + o + one 123 b) (k + c + one 125 b) t) (eqb-shift k o c)
    ∙ ap (λ e. not (eqb o c && and_at s (b ∷ t)) && e) (ap (λ n. free (is_space b) n (k + c + one 125 b) t) x ∙ ap (λ n. free (is_space b) (k + (o + one 123 b)) n t) y ∙ free-shift (is_space b) k (o + one 123 b) (c + one 125 b) t)

and-comma : (s : Bool) (y : Text) → and_at s (44 ∷ y) ≡ false
and-comma true y = refl
and-comma false y = refl

pub comma-plain : is_space 44 ≡ false
unfolding is_space
comma-plain = refl

zero-plain : is_space 0 ≡ false
unfolding is_space
zero-plain = refl

-- a comma after a text does not help to make the word
and-front : (s : Bool) (b : ℕ) (x y : Text) → and_at s ((b ∷ x) ++ (44 ∷ y)) ≡ and_at s (b ∷ x)
and-front s b [] y = ap (λ e. e && is_space (get_or (b ∷ 44 ∷ y) 3 0)) (two s (eqb (to_ascii_lowercase b) 97)) ∙ sym (ap (λ e. e && is_space (get_or (b ∷ []) 3 0)) (two s (eqb (to_ascii_lowercase b) 97)))
  where
    two : (s e : Bool) → (s && (e && false)) ≡ false
    two s e = ap (λ x. s && x) (and-false e) ∙ and-false s
and-front s b (d ∷ []) y = ap (λ e. e && is_space (get_or (b ∷ d ∷ 44 ∷ y) 3 0)) (three s (eqb (to_ascii_lowercase b) 97) (eqb (to_ascii_lowercase d) 110)) ∙ sym (ap (λ e. e && is_space (get_or (b ∷ d ∷ []) 3 0)) (three s (eqb (to_ascii_lowercase b) 97) (eqb (to_ascii_lowercase d) 110)))
  where
    three : (s e f : Bool) → (s && (e && (f && false))) ≡ false
    three s e f = ap (λ x. s && (e && x)) (and-false f) ∙ ap (λ x. s && x) (and-false e) ∙ and-false s
and-front s b (d ∷ e ∷ []) y = ap (λ z. s && same (b ∷ d ∷ e ∷ []) (codes "and") && z) (comma-plain ∙ sym zero-plain)
and-front s b (d ∷ e ∷ f ∷ x) y = refl

free-part : (s : Bool) (o c : ℕ) (x y : Text) → free s o c (x ++ (44 ∷ y)) ≡ (free s o c x && free false (o + opens x) (c + closes x) y)
free-part s o c [] y =
    ap (λ e. not e && free (is_space 44) (o + 0) (c + 0) y) (ap (λ e. eqb o c && e) (and-comma s y) ∙ and-false (eqb o c))
    ∙ ap (λ e. free e (o + 0) (c + 0) y) comma-plain
free-part s o c (b ∷ x) y =
    let oo = o + one 123 b in
    let cc' = c + one 125 b in
    let a : oo + opens x ≡ o + opens (b ∷ x) = omega (arith, count-cons (λ n. eqb n 123) b x) in
    let d : cc' + closes x ≡ c + closes (b ∷ x) = omega (arith, count-cons (λ n. eqb n 125) b x) in
    ap (λ e. not (eqb o c && e) && free (is_space b) oo cc' (x ++ (44 ∷ y))) (and-front s b x y)
    ∙ ap (λ e. not (eqb o c && and_at s (b ∷ x)) && e) (free-part (is_space b) oo cc' x y)
    ∙ sym (and_assoc (not (eqb o c && and_at s (b ∷ x))) (free (is_space b) oo cc' x) (free false (oo + opens x) (cc' + closes x) y))
    ∙ ap (λ n. free s o c (b ∷ x) && free false n (cc' + closes x) y) a ∙ ap (λ n. free s o c (b ∷ x) && free false (o + opens (b ∷ x)) n y) d

free-space : (y : Text) → free false 0 0 (32 ∷ y) ≡ free true 0 0 y
unfolding is_space
free-space y = refl

-- a part at depth 0, a comma and a space, and the rest
pub free-comma : (s : Bool) (x y : Text) → opens x ≡ closes x → free s 0 0 (x ++ (44 ∷ 32 ∷ y)) ≡ (free s 0 0 x && free true 0 0 y)
free-comma s x y level =
    let a : 0 + opens x ≡ opens x + 0 = omega arith in
    let b : 0 + closes x ≡ opens x + 0 = omega (arith, level) in
    free-part s 0 0 x (32 ∷ y)
    ∙ ap (λ n. free s 0 0 x && free false n (0 + closes x) (32 ∷ y)) a ∙ ap (λ n. free s 0 0 x && free false (opens x + 0) n (32 ∷ y)) b
    ∙ ap (λ e. free s 0 0 x && e) (free-shift false (opens x) 0 0 (32 ∷ y) ∙ free-space y)

no-and : (s e rest last : Bool) → not (s && e) ≡ true → ((s && (e && rest)) && last) ≡ false
no-and false e rest last h = refl
no-and true false rest last h = refl
no-and true true rest last h = absurd (cc)

-- if no word begins with an `a`, there is no cut
pub lacks-free : (s : Bool) (o c : ℕ) (t : Text) → lacks_and s t ≡ true → free s o c t ≡ true
lacks-free s o c [] h = refl
lacks-free s o c (b ∷ t) h =
    let parts = and_parts (not (s && eqb (to_ascii_lowercase b) 97)) (lacks_and (is_space b) t) h in
    let plain : and_at s (b ∷ t) ≡ false = no-and s (eqb (to_ascii_lowercase b) 97) _ _ parts.0 in
    let others : Bool = free (is_space b) (o + one 123 b) (c + one 125 b) t in
    ap (λ e. not (eqb o c && e) && others) plain ∙ ap (λ e. not e && others) (and-false (eqb o c))
    ∙ lacks-free (is_space b) (o + one 123 b) (c + one 125 b) t parts.1
