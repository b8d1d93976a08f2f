-- The parts of a name as texts: where they begin and end.
use Rattle.ris_format.proofs.Words.{◌≡◌, ℕ, zero, suc, ◌+◌, ◌-◌, ◌≤◌, ◌<◌, Bool, true, false, cond, ◌||◌, eqb, [], ◌∷◌, ◌++◌, length, take, drop, get_or, refl, sym, ap, subst, ◌∙◌, arith, ⊎_elim, inl, inr, ◌⊎◌, Some, slice_range, prefix_len, AllByRecursion, cases_Bool, cond-true, cond-false}
use Rattle.ris_format.proofs.Words.{eqb-true, eq-eqb, and_parts, and_from, not-true, not-false, or_cases, or_left, both_ways, cases_lt, false_from_ne_true, not_from_false, take-append-drop, take-append-le, take_all, drop-append-le, get_or-drop, length-drop, length-take-le, drop-append-add, Text}
use Rattle.ris_format.proofs.Words.{is_space, opened_before, closed_before, IsBalanced, up_to_last, is_level, places_from, between, Stretch, stretch, NameWord, is_comma, commas, parts_of, without_end, Name, has_bytes, words_end, part_text, family}
use Rattle.std.proofs.Common.{not, List, append_assoc, map}
use Rattle.std.specs.List.{range_with_len}
use Rattle.std.proofs.lemmas.List.{get_or-take}
use Rattle.std.proofs.lemmas.List.Sums.{prefix_len-le-length, prefix_len_passes, prefix_len_stops}
use Rattle.std.proofs.lemmas.List.FromFn.{length-range_with_len, get_or-range_with_len}
use Rattle.bib_names.specs.Marks.{is_separator, is_dropped_at_end}
use Rattle.bib_names.specs.Places.{places}
use Rattle.bib_names.specs.Words.{is_gap, begins_word, word_at, words_of}
use Rattle.bib_names.specs.Name.{von_end, von_start, hyphened_start, cut_at, without_comma, with_commas, parts_of_pieces}
use Rattle.bib_names.proofs.BraceLemmas.{opened_more, closed_more}
use Rattle.ris_format.proofs.Neat.{begins_plain, ends_plain}
use Rattle.ris_format.proofs.Levels.{opens, closes, space-no_brace, IsWithin, IsStretch, stretch-is, balanced-within, comma-within, count-before_run, all-stretches}

-- ---- lists whose members are all alike

pub all-take : {X : Type 0} (P : X → Type 0) (n : ℕ) (xs : List X) → AllByRecursion P xs → AllByRecursion P (take n xs)
all-take P zero xs all = tt
all-take P (suc n) [] all = tt
all-take P (suc n) (x ∷ xs) all = (all.0, all-take P n xs all.1)

pub all-drop : {X : Type 0} (P : X → Type 0) (n : ℕ) (xs : List X) → AllByRecursion P xs → AllByRecursion P (drop n xs)
all-drop P zero xs all = all
all-drop P (suc n) [] all = tt
all-drop P (suc n) (x ∷ xs) all = all-drop P n xs all.1

pub all-append : {X : Type 0} (P : X → Type 0) (xs ys : List X) → AllByRecursion P xs → AllByRecursion P ys → AllByRecursion P (xs ++ ys)
all-append P [] ys all more = more
all-append P (x ∷ xs) ys all more = (all.0, all-append P xs ys all.1 more)

pub all-map : {X Y : Type 0} (P : Y → Type 0) (f : X → Y) (xs : List X) → AllByRecursion (λ x. P (f x)) xs → AllByRecursion P (map f xs)
all-map P f [] all = tt
all-map P f (x ∷ xs) all = (all.0, all-map P f xs all.1)

-- what holds of each number of a range that passes a test
pub all-range : (P : ℕ → Type 0) (test : ℕ → Bool) (at n : ℕ) → ((k : ℕ) → at ≤ k → k < at + n → test k ≡ true → P k) → AllByRecursion P (places_from test at n)
all-range P test at zero each = tt
all-range P test at (suc n) each =
    let later = all-range P test (at + 1) n (λ k low high passes. each k (omega arith) (omega arith) passes) in
    ⊎_elim
    (λ (h : test at ≡ true). subst (AllByRecursion P) (sym (cond-true (test at) (at ∷ places_from test (at + 1) n) _ h)) (each at (omega arith) (omega arith) h, later))
    (λ (h : test at ≡ false). subst (AllByRecursion P) (sym (cond-false (test at) (at ∷ places_from test (at + 1) n) _ h)) later)
    (cases_Bool (test at))

-- ---- words

-- after a byte that is no brace depth is as before it
level-past : (text : Text) (k : ℕ) → k < length text → eqb (get_or text k 0) 123 ≡ false → eqb (get_or text k 0) 125 ≡ false → is_level text (k + 1) ≡ is_level text k
level-past text k lt a b =
    let o : opened_before text (k + 1) ≡ opened_before text k = opened_more text k lt ∙ omega (arith, ap {B = ℕ} (λ c. cond c 1 0) a) in
    let c : closed_before text (k + 1) ≡ closed_before text k = closed_more text k lt ∙ omega (arith, ap {B = ℕ} (λ c. cond c 1 0) b) in
    ap (λ n. eqb n (closed_before text (k + 1))) o ∙ ap (eqb (opened_before text k)) c

separator-no_brace : (b k : ℕ) → (k ≡ 123) ⊎ (k ≡ 125) → is_separator b ≡ true → eqb b k ≡ false
separator-no_brace b k which h =
    ⊎_elim
    (λ (h : (is_space b || eqb b 126) ≡ true).
    ⊎_elim
    (λ (s : is_space b ≡ true). space-no_brace b k (⊎_elim (λ e. omega arith) (λ e. omega arith) which) s)
    (λ (s : eqb b 126 ≡ true). false_from_ne_true (eqb b k) (λ e. let x = eqb-true b 126 s in let y = eqb-true b k e in ⊎_elim (λ w. absurd (omega arith)) (λ w. absurd (omega arith)) which))
    (or_cases (is_space b) (eqb b 126) h))
    (λ (s : eqb b 45 ≡ true). false_from_ne_true (eqb b k) (λ e. let x = eqb-true b 45 s in let y = eqb-true b k e in ⊎_elim (λ w. absurd (omega arith)) (λ w. absurd (omega arith)) which))
    (or_cases (is_space b || eqb b 126) (eqb b 45) h)

space-separates : (b : ℕ) → is_space b ≡ true → is_separator b ≡ true
space-separates b h = or_left (is_space b || eqb b 126) (eqb b 45) (or_left (is_space b) (eqb b 126) h)

-- a place of depth 0 that is no gap has no white space
no-space : (text : Text) (k : ℕ) → is_level text k ≡ true → is_gap text k ≡ false → is_space (get_or text k 0) ≡ false
no-space text k level gap =
    false_from_ne_true (is_space (get_or text k 0)) (λ s. both_ways (is_gap text k) gap (and_from (is_level text k) _ level (space-separates (get_or text k 0) s)))

-- the word is in the piece, at depth 0 at both ends, and has white space at neither
pub record IsWordIn (at : ℕ) (text : Text) (w : NameWord) : Type 0 where
  pub place : ℕ
  pub is_at : w.at ≡ at + place
  pub within : place + length w.text ≤ length text
  pub level : is_level text place ≡ true
  pub level_end : is_level text (place + length w.text) ≡ true
  pub some : 0 < length w.text
  pub begins : is_space (get_or text place 0) ≡ false
  pub ends : is_space (get_or text (place + length w.text - 1) 0) ≡ false

word-level : (text : Text) (place : ℕ) → place < length text → begins_word text place ≡ true → is_level text place ≡ true
word-level text zero lt h = refl
word-level text (suc place) lt h =
    let p = and_parts (not (is_gap text (suc place))) (eqb (suc place) 0 || is_gap text (suc place - 1)) h in
    let less : place ≡ suc place - 1 = omega arith in
    let gap : is_gap text place ≡ true =
    ⊎_elim
    (λ (e : eqb (suc place) 0 ≡ true). absurd (let x = eqb-true (suc place) 0 e in omega arith))
    (λ (g : is_gap text (suc place - 1) ≡ true). ap (is_gap text) less ∙ g)
    (or_cases (eqb (suc place) 0) (is_gap text (suc place - 1)) p.1) in
    let q = and_parts (is_level text place) _ gap in
    let e : place + 1 ≡ suc place = omega arith in
    ap (is_level text) (sym e) ∙ level-past text place (omega arith) (separator-no_brace (get_or text place 0) 123 (inl refl) q.1) (separator-no_brace (get_or text place 0) 125 (inr refl) q.1) ∙ q.0

word-in : (at : ℕ) (text : Text) (place : ℕ) → is_level text (length text) ≡ true → place < length text → begins_word text place ≡ true → IsWordIn at text (word_at (stretch at text) place)
word-in at text place end lt h =
    let rest = range_with_len place (length text - place) in
    let test = λ (p : ℕ). not (is_gap text p) in
    let n = prefix_len test rest in
    let len : length rest ≡ length text - place = length-range_with_len place (length text - place) in
    let le = prefix_len-le-length test rest in
    let size : length (slice_range text place (place + n)) ≡ n =
    ap (λ m. length (take m (drop place text))) (minus place n) ∙ length-take-le n (drop place text) (omega (arith, length-drop place text, le, len)) in
    let gap : is_gap text place ≡ false = not-true (is_gap text place) (and_parts (not (is_gap text place)) _ h).0 in
    let level = word-level text place lt h in
    let some : 0 < n = first-passes test place (length text - place) (omega arith) (not_from_false (is_gap text place) gap) in
    let level_end : is_level text (place + n) ≡ true =
    ⊎_elim
    (λ (short : n < length rest).
    let stop = prefix_len_stops test rest 0 short in
    let at_stop : get_or rest n 0 ≡ place + n = get_or-range_with_len place (length text - place) n 0 (omega (arith, len, short)) in
    (and_parts (is_level text (place + n)) _ (ap (is_gap text) (sym at_stop) ∙ not-false (is_gap text (get_or rest n 0)) stop)).0)
    (λ (whole : length rest ≤ n). ap (is_level text) (omega (arith, le, len, whole)) ∙ end)
    (cases_lt n (length rest)) in
    let before : place + n - 1 ≡ place + (n - 1) = omega (arith, some) in
    let last_gap : is_gap text (place + n - 1) ≡ false =
    ap (is_gap text) (before ∙ sym (get_or-range_with_len place (length text - place) (n - 1) 0 (omega (arith, some, le, len))))
    ∙ not-true (is_gap text (get_or rest (n - 1) 0)) (prefix_len_passes test rest (n - 1) 0 (omega (arith, some))) in
    let ends : is_space (get_or text (place + n - 1) 0) ≡ false =
    false_from_ne_true (is_space (get_or text (place + n - 1) 0)) (λ s.
    let sep = space-separates (get_or text (place + n - 1) 0) s in
    let up : place + n - 1 + 1 ≡ place + n = omega (arith, some) in
    let lower : is_level text (place + n - 1) ≡ true =
    sym (level-past text (place + n - 1) (omega (arith, some, le, len, lt)) (separator-no_brace (get_or text (place + n - 1) 0) 123 (inl refl) sep) (separator-no_brace (get_or text (place + n - 1) 0) 125 (inr refl) sep))
    ∙ ap (is_level text) up ∙ level_end in
    both_ways (is_gap text (place + n - 1)) last_gap (and_from (is_level text (place + n - 1)) _ lower sep)) in
    record {
      place = place;
      is_at = refl;
      within = omega (arith, size, le, len);
      level = level;
      level_end = ap (λ m. is_level text (place + m)) size ∙ level_end;
      some = omega (arith, size, some);
      begins = no-space text place level gap;
      ends = ap (λ m. is_space (get_or text (place + m - 1) 0)) size ∙ ends;
    }
  where
    minus : (a b : ℕ) → a + b - a ≡ b
    minus a b = omega arith

    first-passes : (test : ℕ → Bool) (at n : ℕ) → 0 < n → test at ≡ true → 0 < prefix_len test (range_with_len at n)
    first-passes test at zero lt h = absurd (omega arith)
    first-passes test at (suc n) lt h = let e = cond-true (test at) (1 + prefix_len test (range_with_len (at + 1) n)) 0 h in omega (arith, e)

pub words-in : (at : ℕ) (text : Text) → is_level text (length text) ≡ true → AllByRecursion (IsWordIn at text) (words_of (stretch at text))
words-in at text end =
    all-map (IsWordIn at text) (word_at (stretch at text)) (places (begins_word text) text)
    (all-range (λ k. IsWordIn at text (word_at (stretch at text) k)) (begins_word text) 0 (length text) (λ k low high passes. word-in at text k end (omega arith) passes))

-- ---- parts

-- a text that is balanced, has no comma at depth 0, and has no white space at its ends
pub record IsPart (text : Text) : Type 0 where
  pub balanced : IsBalanced text
  pub level : opens text ≡ closes text
  pub alone : commas text ≡ []
  pub plain : has_bytes text ≡ true → (begins_plain text ≡ true) × (ends_plain text ≡ true)

pub none-in : (test : ℕ → Bool) (at n : ℕ) → ((k : ℕ) → at ≤ k → k < at + n → test k ≡ false) → places_from test at n ≡ []
none-in test at zero none = refl
none-in test at (suc n) none =
    cond-false (test at) (at ∷ places_from test (at + 1) n) _ (none at (omega arith) (omega arith))
    ∙ none-in test (at + 1) n (λ k low high. none k (omega arith) (omega arith))

begins-from : (text : Text) → 0 < length text → is_space (get_or text 0 0) ≡ false → begins_plain text ≡ true
begins-from [] lt h = absurd (omega arith)
begins-from (b ∷ t) lt h = ap not h

ends-from : (text : Text) → 0 < length text → is_space (get_or text (length text - 1) 0) ≡ false → ends_plain text ≡ true
ends-from [] lt h = absurd (omega arith)
ends-from (b ∷ []) lt h = ap not h
ends-from (b ∷ c ∷ t) lt h =
    let e : suc (suc (length t)) - 1 ≡ suc (length t) = omega arith in
    let f : suc (length t) - 1 ≡ length t = omega arith in
    ends-from (c ∷ t) (omega arith) (ap (λ n. is_space (get_or (c ∷ t) n 0)) f ∙ sym (ap (λ n. is_space (get_or (b ∷ c ∷ t) n 0)) e) ∙ h)

balanced-none : IsBalanced []
balanced-none = record { never_negative = none; all_closed = refl }
  where
    none : (n : ℕ) → closed_before [] n ≤ opened_before [] n
    none zero = omega arith
    none (suc n) = omega arith

pub part-none : IsPart []
part-none = record { balanced = balanced-none; level = refl; alone = refl; plain = λ h. absurd (cc) }

-- a piece of a name between its commas
pub record IsPieceOf (name : Text) (s : Stretch) : Type 0 where
  pub within : IsWithin name s.text
  pub at_is : s.at ≡ length within.front
  pub level : opens s.text ≡ closes s.text
  pub alone : (k : ℕ) → k < length s.text → is_comma s.text k ≡ false

level-end : (text : Text) → opens text ≡ closes text → is_level text (length text) ≡ true
level-end text level =
    let whole : take (length text) text ≡ text = take_all (length text) text (omega arith) in
    eq-eqb (opened_before text (length text)) (closed_before text (length text)) (ap opens whole ∙ level ∙ sym (ap closes whole))

-- a slice of a piece between places of depth 0
slice-part : (piece : Text) (p q : ℕ) → IsBalanced piece → ((k : ℕ) → k < length piece → is_comma piece k ≡ false) → p < q → q ≤ length piece → is_level piece p ≡ true → is_level piece q ≡ true
    → is_space (get_or piece p 0) ≡ false → is_space (get_or piece (q - 1) 0) ≡ false → IsPart (slice_range piece p q)
slice-part piece p q is none lt le start end begins ends =
    let s = stretch-is (is_comma piece) piece p q (omega arith) le start end (λ k low high. none k (omega arith)) in
    let part = slice_range piece p q in
    let size : length part ≡ q - p = length-take-le (q - p) (drop p piece) (omega (arith, length-drop p piece)) in
    let first : get_or part 0 0 ≡ get_or piece p 0 = get_or-take (q - p) (drop p piece) 0 0 (omega arith) ∙ get_or-drop p piece 0 0 ∙ ap (λ n. get_or piece n 0) (omega arith) in
    let last : get_or part (length part - 1) 0 ≡ get_or piece (q - 1) 0 =
    ap (λ n. get_or part (n - 1) 0) size ∙ get_or-take (q - p) (drop p piece) (q - p - 1) 0 (omega arith) ∙ get_or-drop p piece (q - p - 1) 0 ∙ ap (λ n. get_or piece n 0) (omega arith) in
    record {
      balanced = balanced-within piece part s.within s.level is;
      level = s.level;
      alone = none-in (is_comma part) 0 (length part) (λ k low high.
          sym (comma-within piece part s.within k (omega arith)) ∙ ap (λ n. is_comma piece (n + k)) (sym s.at_is) ∙ s.alone k (omega arith));
      plain = λ some. (begins-from part (omega (arith, size)) (ap is_space first ∙ begins), ends-from part (omega (arith, size)) (ap is_space last ∙ ends));
    }

-- where the last of these words ends
record EndsAt (at : ℕ) (piece : Text) (w : NameWord) (ws : List NameWord) : Type 0 where
  place : ℕ
  is : words_end w ws ≡ at + place
  within : place ≤ length piece
  level : is_level piece place ≡ true
  ends : is_space (get_or piece (place - 1) 0) ≡ false

ends_at : (at : ℕ) (piece : Text) (w : NameWord) (ws : List NameWord) → AllByRecursion (IsWordIn at piece) (w ∷ ws) → EndsAt at piece w ws
ends_at at piece w [] all =
    let word = all.0 in
    record { place = word.place + length w.text; is = omega (arith, word.is_at); within = word.within; level = word.level_end; ends = word.ends }
ends_at at piece w (v ∷ ws) all =
    let e = ends_at at piece v ws all.1 in
    record { place = e.place; is = e.is; within = e.within; level = e.level; ends = e.ends }

range-within : (front piece rest : Text) (p q : ℕ) → p ≤ length piece → q ≤ length piece → slice_range (front ++ (piece ++ rest)) (length front + p) (length front + q) ≡ slice_range piece p q
range-within front piece rest p q low high =
    let m : length front + q - (length front + p) ≡ q - p = omega arith in
    ap (λ n. take n (drop (length front + p) (front ++ (piece ++ rest)))) m
    ∙ ap (take (q - p)) (drop-append-add front (piece ++ rest) p ∙ drop-append-le p piece rest low)
    ∙ take-append-le (q - p) (drop p piece) rest (omega (arith, length-drop p piece))

no_bytes : (p q : ℕ) (text : Text) → q ≤ p → slice_range text p q ≡ []
no_bytes p q text le = let none : q - p ≡ 0 = omega arith in ap (λ n. take n (drop p text)) none

pub part-is : (name : Text) (s : Stretch) → IsPieceOf name s → IsBalanced name → (ws : List NameWord) → AllByRecursion (IsWordIn s.at s.text) ws → IsPart (part_text name ws)
part-is name s piece is [] all = part-none
part-is name s piece is (w ∷ ws) all =
    let word = all.0 in
    let e = ends_at s.at s.text w ws all in
    let p = word.place in
    let q = e.place in
    let low : p ≤ length s.text = omega (arith, word.within) in
    let text_is : part_text name (w ∷ ws) ≡ slice_range s.text p q =
    ap (λ n. slice_range name n (words_end w ws)) (word.is_at ∙ ap (λ n. n + p) piece.at_is)
    ∙ ap (slice_range name (length piece.within.front + p)) (e.is ∙ ap (λ n. n + q) piece.at_is)
    ∙ ap (λ (u : Text). slice_range u (length piece.within.front + p) (length piece.within.front + q)) piece.within.is
    ∙ range-within piece.within.front s.text piece.within.rest p q low e.within in
    subst IsPart (sym text_is)
    (⊎_elim
    (λ (lt : p < q). slice-part s.text p q (balanced-within name s.text piece.within piece.level is) piece.alone lt e.within word.level e.level word.begins e.ends)
    (λ (le : q ≤ p). subst IsPart (sym (no_bytes p q s.text le)) part-none)
    (cases_lt p q))

-- the parts of a name as texts
pub record AreParts (name : Text) (parts : Name) : Type 0 where
  pub last : IsPart (part_text name (family parts.von parts.last))
  pub first : IsPart (part_text name parts.first)
  pub suffix : IsPart (part_text name parts.jr)

all-family : (P : NameWord → Type 0) (von last : List NameWord) → AllByRecursion P von → AllByRecursion P last → AllByRecursion P (family von last)
all-family P von [] all more = tt
all-family P von (w ∷ ws) all more = all-append P von (w ∷ ws) all more

pub words-of : (name : Text) (s : Stretch) → IsPieceOf name s → AllByRecursion (IsWordIn s.at s.text) (words_of s)
words-of name s piece = words-in s.at s.text (level-end s.text piece.level)

one-piece : (name : Text) (s : Stretch) → IsPieceOf name s → IsBalanced name → (a e : ℕ) → AreParts name (cut_at a e (words_of s))
one-piece name s piece is a e =
    let P = IsWordIn s.at s.text in
    let ws = words_of s in
    let all = words-of name s piece in
    record {
      last = part-is name s piece is (family (drop a (take e ws)) (drop e ws)) (all-family P (drop a (take e ws)) (drop e ws) (all-drop P a (take e ws) (all-take P e ws all)) (all-drop P e ws all));
      first = part-is name s piece is (take a ws) (all-take P a ws all);
      suffix = part-none;
    }

front-piece : (name : Text) (s : Stretch) → IsPieceOf name s → IsBalanced name → IsPart (part_text name (family (take (von_end (words_of s)) (words_of s)) (drop (von_end (words_of s)) (words_of s))))
front-piece name s piece is =
    let P = IsWordIn s.at s.text in
    let ws = words_of s in
    let all = words-of name s piece in
    part-is name s piece is (family (take (von_end ws) ws) (drop (von_end ws) ws)) (all-family P (take (von_end ws) ws) (drop (von_end ws) ws) (all-take P (von_end ws) ws all) (all-drop P (von_end ws) ws all))

from-pieces : (name : Text) (ps : List Stretch) → AllByRecursion (IsPieceOf name) ps → IsBalanced name → (parts : Name) → parts_of_pieces ps ≡ Some parts → AreParts name parts
from-pieces name [] all is parts e = absurd (cc)
from-pieces name (p ∷ []) all is parts e =
    let same : without_comma (words_of p) ≡ parts = cc in
    subst (AreParts name) same
    (⊎_elim
    (λ (h : eqb (von_end (words_of p)) 0 ≡ true). subst (AreParts name) (sym (cond-true (eqb (von_end (words_of p)) 0) _ _ h)) (one-piece name p all.0 is (hyphened_start (words_of p)) (hyphened_start (words_of p))))
    (λ (h : eqb (von_end (words_of p)) 0 ≡ false). subst (AreParts name) (sym (cond-false (eqb (von_end (words_of p)) 0) _ _ h)) (one-piece name p all.0 is (von_start (words_of p)) (von_end (words_of p))))
    (cases_Bool (eqb (von_end (words_of p)) 0)))
from-pieces name (p ∷ q ∷ []) all is parts e =
    let same : with_commas (words_of p) [] (words_of q) ≡ parts = cc in
    subst (AreParts name) same (record {
      last = front-piece name p all.0 is;
      first = part-is name q all.1.0 is (words_of q) (words-of name q all.1.0);
      suffix = part-none;
    })
from-pieces name (p ∷ q ∷ r ∷ []) all is parts e =
    let same : with_commas (words_of p) (words_of q) (words_of r) ≡ parts = cc in
    subst (AreParts name) same (record {
      last = front-piece name p all.0 is;
      first = part-is name r all.1.1.0 is (words_of r) (words-of name r all.1.1.0);
      suffix = part-is name q all.1.0 is (words_of q) (words-of name q all.1.0);
    })
from-pieces name (p ∷ q ∷ r ∷ s ∷ ps) all is parts e = absurd (cc)

-- the pieces of a text's front are pieces of the text
pieces-of : (front rest : Text) (ps : List Stretch) → AllByRecursion (IsStretch (is_comma front) front) ps → AllByRecursion (IsPieceOf (front ++ rest)) ps
pieces-of front rest [] all = tt
pieces-of front rest (s ∷ ps) all =
    let here = all.0 in (
      record {
        within = record {
          front = here.within.front;
          rest = here.within.rest ++ rest;
          is = ap (λ (u : Text). u ++ rest) here.within.is ∙ simp append_assoc;
          level = here.within.level;
        };
        at_is = here.at_is;
        level = here.level;
        alone = λ k lt. sym (comma-within front s.text here.within k lt) ∙ ap (λ n. is_comma front (n + k)) (sym here.at_is) ∙ here.alone k lt;
      },
      pieces-of front rest ps all.1,
    )

dropped-no_brace : (b k : ℕ) → (k ≡ 123) ⊎ (k ≡ 125) → is_dropped_at_end b ≡ true → eqb b k ≡ false
dropped-no_brace b k which h =
    ⊎_elim
    (λ (s : is_separator b ≡ true). separator-no_brace b k which s)
    (λ (s : eqb b 44 ≡ true). false_from_ne_true (eqb b k) (λ e. let x = eqb-true b 44 s in let y = eqb-true b k e in ⊎_elim (λ w. absurd (omega arith)) (λ w. absurd (omega arith)) which))
    (or_cases (is_separator b) (eqb b 44) h)

-- the pieces of a name without its end are pieces of the name
pub name-pieces : (name : Text) → opens name ≡ closes name → AllByRecursion (IsPieceOf name) (between 1 (without_end name) 0 (commas (without_end name)))
name-pieces name level =
    let bare = without_end name in
    let n = up_to_last (λ byte. not (is_dropped_at_end byte)) name in
    let o : opens bare ≡ opens name = count-before_run is_dropped_at_end (λ b. eqb b 123) name (λ b h. dropped-no_brace b 123 (inl refl) h) in
    let c : closes bare ≡ closes name = count-before_run is_dropped_at_end (λ b. eqb b 125) name (λ b h. dropped-no_brace b 125 (inr refl) h) in
    let whole : bare ++ drop n name ≡ name = take-append-drop n name in
    subst (λ (u : Text). AllByRecursion (IsPieceOf u) (between 1 bare 0 (commas bare))) whole
    (pieces-of bare (drop n name) (between 1 bare 0 (commas bare)) (all-stretches bare (o ∙ level ∙ sym c)))

pub name-parts : (name : Text) (parts : Name) → IsBalanced name → opens name ≡ closes name → parts_of name ≡ Some parts → AreParts name parts
name-parts name parts is level e = from-pieces name (between 1 (without_end name) 0 (commas (without_end name))) (name-pieces name level) is parts e
