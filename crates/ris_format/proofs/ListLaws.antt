-- The names of a list, as parts of it.
use Rattle.ris_format.proofs.Words.{◌≡◌, ℕ, zero, suc, ◌+◌, ◌-◌, ◌≤◌, ◌<◌, true, false, cond, ◌&&◌, eqb, ltb, [], ◌∷◌, ◌++◌, length, take, drop, get_or, refl, sym, ap, subst, ◌∙◌, arith, ⊎_elim, inl, inr, ◌⊎◌, below_more, count_by, slice_range, list_all, prefix_len, AllByRecursion}
use Rattle.ris_format.proofs.Words.{to_ascii_lowercase, cases_Bool, cond-true, cond-false, eqb-true, eq-eqb, ne_eqb, and_parts, and_from, both_ways, cases_lt, ltb-true, lt-ltb, false_from_ne_true, take-append-drop, take-append-le, take_all, drop-append-le, length-drop, length-take-le}
use Rattle.ris_format.proofs.Words.{drop-append-add, Text, is_space, after_run, same, opened_before, closed_before, IsBalanced, trimmed, is_level, places_from, between, Stretch, stretch, is_and, is_cut, cuts, names_of, neat, has_bytes}
use Rattle.std.proofs.Common.{List, map, lit<}
use Rattle.std.specs.Prelude.{codes}
use Rattle.bib_names.proofs.NameListLemmas.{space_within}
use Rattle.ris_format.proofs.Trims.{cut_out, neat-cut}
use Rattle.ris_format.proofs.Levels.{opens, closes, count-append, count-cons, count-before_run, count-after_run, space-no_brace, IsWithin, IsStretch, stretch-is, level-within, byte-within, balanced-within, level_at, take-sum}
use Rattle.ris_format.proofs.PartLaws.{none-in}

-- how often the text has a byte
abbrev count_of : ℕ → Text → ℕ
count_of k text = count_by (λ b. eqb b k) text

-- a cut in a part is one in the text
cut-within : (text part : Text) (w : IsWithin text part) (k : ℕ) → is_cut part k ≡ true → (k < length part) × (is_cut text (length w.front + k) ≡ true)
cut-within text part w k h =
    let p = and_parts (is_level part k) (is_and part k) h in
    let q = and_parts (ltb 0 k && is_space (get_or part (k - 1) 0) && same (take 3 (drop k part)) (codes "and")) (is_space (get_or part (k + 3) 0)) p.1 in
    let r = and_parts (ltb 0 k && is_space (get_or part (k - 1) 0)) (same (take 3 (drop k part)) (codes "and")) q.0 in
    let s = and_parts (ltb 0 k) (is_space (get_or part (k - 1) 0)) r.0 in
    let some = ltb-true 0 k s.0 in
    let inside = space_within part (k + 3) q.1 in
    let at = length w.front + k in
    let before : at - 1 ≡ length w.front + (k - 1) = omega (arith, some) in
    let after : at + 3 ≡ length w.front + (k + 3) = omega arith in
    let word : take 3 (drop at text) ≡ take 3 (drop k part) =
    ap (λ (u : Text). take 3 (drop at u)) w.is ∙ ap (take 3) (drop-append-add w.front (part ++ w.rest) k ∙ drop-append-le k part w.rest (omega (arith, inside)))
    ∙ take-append-le 3 (drop k part) w.rest (omega (arith, length-drop k part, inside)) in (
      omega (arith, inside),
      and_from (is_level text at) _ (level-within text part w k (omega (arith, inside)) ∙ p.0)
          (and_from (ltb 0 at && is_space (get_or text (at - 1) 0) && same (take 3 (drop at text)) (codes "and")) _
          (and_from (ltb 0 at && is_space (get_or text (at - 1) 0)) _
          (and_from (ltb 0 at) _ (lt-ltb 0 at (omega (arith, some))) (ap (λ n. is_space (get_or text n 0)) before ∙ ap is_space (byte-within text part w (k - 1) (omega (arith, inside))) ∙ s.1))
          (ap (λ (u : Text). same u (codes "and")) word ∙ r.1))
          (ap (λ n. is_space (get_or text n 0)) after ∙ ap is_space (byte-within text part w (k + 3) inside) ∙ q.1)),
    )

-- ---- stretches between cuts

-- an empty one
no-stretch : (text : Text) (at : ℕ) → at ≤ length text → is_level text at ≡ true → IsStretch (is_cut text) text (stretch at [])
no-stretch text at le start = record {
  within = record { front = take at text; rest = drop at text; is = sym (take-append-drop at text); level = level_at text at start };
  at_is = sym (length-take-le at text le);
  level = refl;
  alone = λ k lt. absurd (omega arith);
}

any-stretch : (text : Text) (at place : ℕ) → at ≤ length text → place ≤ length text → is_level text at ≡ true → is_level text place ≡ true → ((p : ℕ) → at ≤ p → p < place → is_cut text p ≡ false) → IsStretch (is_cut text) text (stretch at (slice_range text at place))
any-stretch text at place inside within start end none =
    ⊎_elim
    (λ (lt : place < at). let e : place - at ≡ 0 = omega arith in subst (λ n. IsStretch (is_cut text) text (stretch at (take n (drop at text)))) (sym e) (no-stretch text at inside start))
    (λ (le : at ≤ place). stretch-is (is_cut text) text at place le within start end none)
    (cases_lt place at)

-- none of the bytes of `and` is a brace
letter-no_brace : (b l k : ℕ) → 90 < l → l < 123 → (k ≡ 123) ⊎ (k ≡ 125) → eqb (to_ascii_lowercase b) l ≡ true → eqb b k ≡ false
letter-no_brace b l k low high which h =
    let e = eqb-true (to_ascii_lowercase b) l h in
    ne_eqb b k (λ same. ⊎_elim
    (λ (w : k ≡ 123). let f : to_ascii_lowercase b ≡ 123 = ap to_ascii_lowercase (same ∙ w) in omega (arith, e, f))
    (λ (w : k ≡ 125). let f : to_ascii_lowercase b ≡ 125 = ap to_ascii_lowercase (same ∙ w) in omega (arith, e, f))
    which)

and-no_brace : (text : Text) (k : ℕ) → (k ≡ 123) ⊎ (k ≡ 125) → same (take 3 text) (codes "and") ≡ true → count_of k (take 3 text) ≡ 0
and-no_brace [] k which h = absurd (cc)
and-no_brace (a ∷ []) k which h = absurd (let p = and_parts (eqb (to_ascii_lowercase a) 97) false h in cc)
and-no_brace (a ∷ b ∷ []) k which h = absurd (let p = and_parts (eqb (to_ascii_lowercase a) 97) (eqb (to_ascii_lowercase b) 110 && false) h in let q = and_parts (eqb (to_ascii_lowercase b) 110) false p.1 in cc)
and-no_brace (a ∷ b ∷ c ∷ rest) k which h =
    let p = and_parts (eqb (to_ascii_lowercase a) 97) (eqb (to_ascii_lowercase b) 110 && (eqb (to_ascii_lowercase c) 100 && true)) h in
    let q = and_parts (eqb (to_ascii_lowercase b) 110) (eqb (to_ascii_lowercase c) 100 && true) p.1 in
    let r = and_parts (eqb (to_ascii_lowercase c) 100) true q.1 in
    let test = λ (n : ℕ). eqb n k in
    let x : cond (eqb a k) 1 0 ≡ 0 = ap {B = ℕ} (λ t. cond t 1 0) (letter-no_brace a 97 k (lit< tt) (lit< tt) which p.0) in
    let y : cond (eqb b k) 1 0 ≡ 0 = ap {B = ℕ} (λ t. cond t 1 0) (letter-no_brace b 110 k (lit< tt) (lit< tt) which q.0) in
    let z : cond (eqb c k) 1 0 ≡ 0 = ap {B = ℕ} (λ t. cond t 1 0) (letter-no_brace c 100 k (lit< tt) (lit< tt) which r.0) in
    count-cons test a (b ∷ c ∷ []) ∙ omega (arith, x, y, z, count-cons test b (c ∷ []), count-cons test c [])

level-after_and : (text : Text) (place : ℕ) → is_level text place ≡ true → is_and text place ≡ true → (place + 3 < length text) × (is_level text (place + 3) ≡ true)
level-after_and text place level h =
    let q = and_parts (ltb 0 place && is_space (get_or text (place - 1) 0) && same (take 3 (drop place text)) (codes "and")) (is_space (get_or text (place + 3) 0)) h in
    let r = and_parts (ltb 0 place && is_space (get_or text (place - 1) 0)) (same (take 3 (drop place text)) (codes "and")) q.0 in
    let inside = space_within text (place + 3) q.1 in
    let parts : take (place + 3) text ≡ take place text ++ take 3 (drop place text) = take-sum text place 3 (omega (arith, inside)) in
    let o = ap opens parts ∙ count-append (λ b. eqb b 123) (take place text) (take 3 (drop place text)) in
    let c = ap closes parts ∙ count-append (λ b. eqb b 125) (take place text) (take 3 (drop place text)) in (
      inside,
      eq-eqb (opened_before text (place + 3)) (closed_before text (place + 3))
          (omega (arith, o, c, level_at text place level, and-no_brace (drop place text) 123 (inl refl) r.1, and-no_brace (drop place text) 125 (inr refl) r.1)),
    )

list-stretches : (text : Text) (at place n : ℕ) → at ≤ length text → place + n ≡ length text → is_level text at ≡ true → is_level text (length text) ≡ true → ((p : ℕ) → at ≤ p → p < place → is_cut text p ≡ false)
    → AllByRecursion (IsStretch (is_cut text) text) (between 3 text at (places_from (is_cut text) place n))
list-stretches text at place zero inside sum start end none =
    let whole : slice_range text at place ≡ drop at text = take_all (place - at) (drop at text) (omega (arith, length-drop at text)) in
    let here = any-stretch text at place inside (omega arith) start (ap (is_level text) (omega arith) ∙ end) none in
    (subst (λ (u : Text). IsStretch (is_cut text) text (stretch at u)) whole here, tt)
list-stretches text at place (suc n) inside sum start end none =
    ⊎_elim
    (λ (h : is_cut text place ≡ true).
    let p = and_parts (is_level text place) (is_and text place) h in
    let after = level-after_and text place p.0 p.1 in
    let here = any-stretch text at place inside (omega arith) start p.0 none in
    let later = list-stretches text (place + 3) (place + 1) n (omega (arith, after.0)) (omega arith) after.1 end (λ q low high. absurd (omega arith)) in
    subst (λ (ps : List ℕ). AllByRecursion (IsStretch (is_cut text) text) (between 3 text at ps)) (sym (cond-true (is_cut text place) (place ∷ places_from (is_cut text) (place + 1) n) _ h)) (here, later))
    (λ (h : is_cut text place ≡ false).
    let later = list-stretches text at (place + 1) n inside (omega arith) start end (λ q low high. below_more (λ r. at ≤ r → is_cut text r ≡ false) place (λ r hr lr. none r lr hr) (λ _. h) q high low) in
    subst (λ (ps : List ℕ). AllByRecursion (IsStretch (is_cut text) text) (between 3 text at ps)) (sym (cond-false (is_cut text place) (place ∷ places_from (is_cut text) (place + 1) n) _ h)) later)
    (cases_Bool (is_cut text place))

-- ---- names

-- a name of a list: it is balanced, no list itself, and has its white space as the list has
pub record IsListed (text name : Text) : Type 0 where
  pub level : opens name ≡ closes name
  pub balanced : IsBalanced text → IsBalanced name
  pub uncut : cuts name ≡ []
  pub neat_is : neat true text ≡ true → has_bytes name ≡ true → neat true name ≡ true

count-trimmed : (k : ℕ) (u : Text) → 32 < k → count_of k (trimmed u) ≡ count_of k u
count-trimmed k u lt =
    count-before_run is_space (λ b. eqb b k) (after_run is_space u) (λ b h. space-no_brace b k lt h)
    ∙ count-after_run is_space (λ b. eqb b k) u (λ b h. space-no_brace b k lt h)

trimmed-within : (u : Text) → opens u ≡ closes u → IsWithin u (trimmed u)
trimmed-within u level =
    let cut = cut_out is_space u in
    let n = prefix_len is_space u in
    let o : opens u ≡ opens (take n u) + opens (after_run is_space u) = ap opens (sym (take-append-drop n u)) ∙ count-append (λ b. eqb b 123) (take n u) (drop n u) in
    let c : closes u ≡ closes (take n u) + closes (after_run is_space u) = ap closes (sym (take-append-drop n u)) ∙ count-append (λ b. eqb b 125) (take n u) (drop n u) in
    let oo = count-after_run is_space (λ b. eqb b 123) u (λ b h. space-no_brace b 123 (lit< tt) h) in
    let ccc = count-after_run is_space (λ b. eqb b 125) u (λ b h. space-no_brace b 125 (lit< tt) h) in
    record { front = take n u; rest = cut.rest; is = cut.is; level = omega (arith, o, c, oo, ccc) }

listed : (text : Text) (s : Stretch) → IsStretch (is_cut text) text s → IsListed text (trimmed s.text)
listed text s is =
    let u = s.text in
    let name = trimmed u in
    let o = count-trimmed 123 u (lit< tt) in
    let c = count-trimmed 125 u (lit< tt) in
    let level : opens name ≡ closes name = o ∙ is.level ∙ sym c in
    let w = trimmed-within u is.level in
    record {
      level = level;
      balanced = λ b. balanced-within u name w level (balanced-within text u is.within is.level b);
      uncut = none-in (is_cut name) 0 (length name) (λ k low high. false_from_ne_true (is_cut name k) (λ h.
          let in_u = cut-within u name w k h in
          let in_text = cut-within text u is.within (length w.front + k) in_u.1 in
          both_ways (is_cut text (s.at + (length w.front + k))) (is.alone (length w.front + k) in_text.0) (ap (λ n. is_cut text (n + (length w.front + k))) is.at_is ∙ in_text.1)));
      neat_is = λ n some. neat-cut is_space true is.within.front u is.within.rest (λ b h. h) (ap (neat true) (sym is.within.is) ∙ n) some;
    }

all-listed : (text : Text) (ss : List Stretch) → AllByRecursion (IsStretch (is_cut text) text) ss → AllByRecursion (IsListed text) (map (λ (s : Stretch). trimmed s.text) ss)
all-listed text [] all = tt
all-listed text (s ∷ ss) all = (listed text s all.0, all-listed text ss all.1)

pub names-listed : (text : Text) → opens text ≡ closes text → AllByRecursion (IsListed text) (names_of text)
names-listed text level =
    let whole : take (length text) text ≡ text = take_all (length text) text (omega arith) in
    let end : is_level text (length text) ≡ true = eq-eqb (opened_before text (length text)) (closed_before text (length text)) (ap opens whole ∙ level ∙ sym (ap closes whole)) in
    let all = all-listed text (between 3 text 0 (cuts text)) (list-stretches text 0 0 (length text) (omega arith) (omega arith) refl end (λ q low high. absurd (omega arith))) in
    ⊎_elim
    (λ (h : list_all is_space text ≡ true). subst (AllByRecursion (IsListed text)) (sym (cond-true (list_all is_space text) [] (map (λ (s : Stretch). trimmed s.text) (between 3 text 0 (cuts text))) h)) tt)
    (λ (h : list_all is_space text ≡ false). subst (AllByRecursion (IsListed text)) (sym (cond-false (list_all is_space text) [] (map (λ (s : Stretch). trimmed s.text) (between 3 text 0 (cuts text))) h)) all)
    (cases_Bool (list_all is_space text))
