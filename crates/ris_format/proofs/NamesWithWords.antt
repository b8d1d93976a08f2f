-- A name that is not refused has a word exactly if a byte is left of it without its end.
use Rattle.ris_format.proofs.Words.{◌≡◌, ℕ, zero, suc, ◌+◌, ◌-◌, ◌≤◌, ◌<◌, Bool, true, false, ◌||◌, eqb, [], ◌∷◌, ◌++◌, length, take, drop, get_or, refl, sym, ap, ap₂, subst, ◌∙◌, arith, ⊎_elim, Some, slice_range, list_any, AllByRecursion, cases_Bool, cond-true, cond-false}
use Rattle.ris_format.proofs.Words.{and_parts, and_from, or_parts, or_left, or_right, both_ways, cases_lt, length-drop, Text, IsBalanced, up_to_last, places_from, between, Stretch, stretch, NameWord, is_comma, commas, parts_of, without_end, Name, has_bytes, person, is_somebody, words_end, part_text, family}
use Rattle.std.proofs.Common.{not, List, map}
use Rattle.std.proofs.lemmas.List.{drop_more, length-append, length-take-le}
use Rattle.bib_names.specs.Marks.{is_separator, is_dropped_at_end}
use Rattle.bib_names.specs.Words.{is_gap, begins_word, word_at, words_of}
use Rattle.bib_names.specs.Name.{is_von, is_free, von_end, von_start, hyphened_start, cut_at, without_comma, with_commas, parts_of_bare, parts_of_pieces}
use Rattle.ris_format.proofs.Trims.{before_run-none, fails, ends_not, ends-before}
use Rattle.ris_format.proofs.SliceLemmas.{words_end-append}
use Rattle.ris_format.proofs.PeopleLaws.{level-of}
use Rattle.ris_format.proofs.PartLaws.{IsWordIn, IsPieceOf, all-take, all-drop, all-map, all-range, words-of, name-pieces}

-- ---- slices

slice-some : (text : Text) (a b : ℕ) → a < b → a < length text → has_bytes (slice_range text a b) ≡ true
slice-some text a b lt within =
    let more : b - a ≡ suc (b - a - 1) = omega (arith, lt) in
    ap₂ (λ n (t : Text). has_bytes (take n t)) more (drop_more text a 0 within)

last-fails : (test : ℕ → Bool) (text : Text) → has_bytes text ≡ true → ends_not test text ≡ true → test (get_or text (length text - 1) 0) ≡ false
last-fails test [] some ends = absurd (cc)
last-fails test (b ∷ []) some ends = not_fails (test b) ends
  where
    not_fails : (c : Bool) → not c ≡ true → c ≡ false
    not_fails true e = absurd (cc)
    not_fails false e = refl
last-fails test (b ∷ c ∷ t) some ends =
    let e : suc (suc (length t)) - 1 ≡ suc (suc (length t) - 1) = omega arith in
    ap (λ n. test (get_or (b ∷ c ∷ t) n 0)) e ∙ last-fails test (c ∷ t) refl ends

-- ---- the words of a piece come one after another

-- each word begins where another one before it begins, or after that
abbrev AreInOrder : List NameWord → Type 0
AreInOrder [] = Unit {0}
AreInOrder (w ∷ ws) = AllByRecursion (λ (v : NameWord). w.at ≤ v.at) ws × AreInOrder ws

words_ordered : (s : Stretch) (test : ℕ → Bool) (at n : ℕ) → AreInOrder (map (word_at s) (places_from test at n))
words_ordered s test at zero = tt
words_ordered s test at (suc n) =
    let later = words_ordered s test (at + 1) n in
    let after = all-map (λ (v : NameWord). s.at + at ≤ v.at) (word_at s) (places_from test (at + 1) n) (all-range (λ k. s.at + at ≤ s.at + k) test (at + 1) n (λ k low high passes. omega (arith, low))) in
    ⊎_elim
    (λ (h : test at ≡ true). subst (λ (ps : List ℕ). AreInOrder (map (word_at s) ps)) (sym (cond-true (test at) (at ∷ places_from test (at + 1) n) _ h)) (after, later))
    (λ (h : test at ≡ false). subst (λ (ps : List ℕ). AreInOrder (map (word_at s) ps)) (sym (cond-false (test at) (at ∷ places_from test (at + 1) n) _ h)) later)
    (cases_Bool (test at))

order-dropped : (e : ℕ) (ws : List NameWord) → AreInOrder ws → AreInOrder (drop e ws)
order-dropped zero ws order = order
order-dropped (suc e) [] order = tt
order-dropped (suc e) (w ∷ ws) order = order-dropped e ws order.1

order-split : (e : ℕ) (ws : List NameWord) → AreInOrder ws → AllByRecursion (λ (x : NameWord). AllByRecursion (λ (v : NameWord). x.at ≤ v.at) (drop e ws)) (take e ws)
order-split zero ws order = tt
order-split (suc e) [] order = tt
order-split (suc e) (w ∷ ws) order = (all-drop (λ (v : NameWord). w.at ≤ v.at) e ws order.0, order-split e ws order.1)

-- ---- a piece that does not end with a separator has a word

none-passes : (test : ℕ → Bool) (at n : ℕ) → places_from test at n ≡ [] → (k : ℕ) → at ≤ k → k < at + n → test k ≡ false
none-passes test at zero none k low high = absurd (omega arith)
none-passes test at (suc n) none k low high =
    ⊎_elim
    (λ (h : test at ≡ true). absurd (let e = sym (cond-true (test at) (at ∷ places_from test (at + 1) n) _ h) ∙ none in cc))
    (λ (h : test at ≡ false).
    ⊎_elim
    (λ (lt : at < k). none-passes test (at + 1) n (sym (cond-false (test at) (at ∷ places_from test (at + 1) n) _ h) ∙ none) k (omega arith) (omega arith))
    (λ (le : k ≤ at). let e : k ≡ at = omega arith in ap test e ∙ h)
    (cases_lt at k))
    (cases_Bool (test at))

-- without a word there are only gaps
all_gaps : (text : Text) → ((p : ℕ) → p < length text → begins_word text p ≡ false) → (k : ℕ) → k < length text → is_gap text k ≡ true
all_gaps text none zero lt =
    ⊎_elim
    (λ (h : is_gap text 0 ≡ true). h)
    (λ (h : is_gap text 0 ≡ false). absurd (both_ways (begins_word text 0) (none 0 lt) (and_from (not (is_gap text 0)) (eqb 0 0 || is_gap text (0 - 1)) (ap not h) refl)))
    (cases_Bool (is_gap text 0))
all_gaps text none (suc k) lt =
    let before : is_gap text k ≡ true = all_gaps text none k (omega arith) in
    let less : suc k - 1 ≡ k = omega arith in
    ⊎_elim
    (λ (h : is_gap text (suc k) ≡ true). h)
    (λ (h : is_gap text (suc k) ≡ false).
    absurd (both_ways (begins_word text (suc k)) (none (suc k) lt)
    (and_from (not (is_gap text (suc k))) (eqb (suc k) 0 || is_gap text (suc k - 1)) (ap not h) (or_right (eqb (suc k) 0) (is_gap text (suc k - 1)) (ap (is_gap text) less ∙ before)))))
    (cases_Bool (is_gap text (suc k)))

-- the piece has a byte, and its last byte is no separator
pub record EndsInWord (text : Text) : Type 0 where
  pub some : 0 < length text
  pub ends : is_separator (get_or text (length text - 1) 0) ≡ false

some_words : (at : ℕ) (text : Text) → EndsInWord text → words_of (stretch at text) ≡ [] → ⊥
some_words at text is none = both_ways (is_separator (get_or text (length text - 1) 0)) is.ends (and_parts _ _ gap).1
  where
    no_places : (ps : List ℕ) → map (word_at (stretch at text)) ps ≡ [] → ps ≡ []
    no_places [] e = refl
    no_places (p ∷ ps) e = absurd (cc)

    gap : is_gap text (length text - 1) ≡ true
    gap =
        all_gaps text (λ p lt. none-passes (begins_word text) 0 (length text) (no_places (places_from (begins_word text) 0 (length text)) none) p (omega arith) (omega arith)) (length text - 1) (omega (arith, is.some))

-- ---- parts that have words have bytes

ends-past : (at : ℕ) (piece : Text) (x : ℕ) (w : NameWord) (ws : List NameWord) → AllByRecursion (IsWordIn at piece) (w ∷ ws) → x ≤ w.at → AllByRecursion (λ (v : NameWord). x ≤ v.at) ws → x < words_end w ws
ends-past at piece x w [] all low lows = omega (arith, all.0.some, low)
ends-past at piece x w (v ∷ ws) all low lows = ends-past at piece x v ws all.1 lows.0 lows.1

word-within : (name : Text) (s : Stretch) → IsPieceOf name s → (w : NameWord) → IsWordIn s.at s.text w → w.at < length name
word-within name s piece w word =
    let front = piece.within.front in
    let rest = piece.within.rest in
    let len = ap length piece.within.is ∙ length-append front (s.text ++ rest) in
    omega (arith, len, length-append s.text rest, word.is_at, word.within, word.some, piece.at_is)

-- the text of some words of a piece, in order
part-some : (name : Text) (s : Stretch) → IsPieceOf name s → (ws : List NameWord) → AllByRecursion (IsWordIn s.at s.text) ws → AreInOrder ws → (ws ≡ [] → ⊥) → has_bytes (part_text name ws) ≡ true
part-some name s piece [] all order some = absurd (some refl)
part-some name s piece (w ∷ ws) all order some = slice-some name w.at (words_end w ws) (ends-past s.at s.text w.at w ws all (omega arith) order.0) (word-within name s piece w all.0)

-- von and Last together, if Last has a word
family-some : (name : Text) (s : Stretch) → IsPieceOf name s → (von last : List NameWord) → AllByRecursion (IsWordIn s.at s.text) von → AllByRecursion (IsWordIn s.at s.text) last → AreInOrder last
    → AllByRecursion (λ (x : NameWord). AllByRecursion (λ (v : NameWord). x.at ≤ v.at) last) von → (last ≡ [] → ⊥) → has_bytes (part_text name (family von last)) ≡ true
family-some name s piece von [] all more order low some = absurd (some refl)
family-some name s piece [] (v ∷ vs) all more order low some = part-some name s piece (v ∷ vs) more order some
family-some name s piece (x ∷ xs) (v ∷ vs) all more order low some =
    ap (λ n. has_bytes (slice_range name x.at n)) (words_end-append x xs v vs)
    ∙ slice-some name x.at (words_end v vs) (ends-past s.at s.text x.at v vs more low.0.0 low.0.1) (word-within name s piece x all.0)

-- ---- Last has a word if the name has one piece

up-within : (test : NameWord → Bool) (ws : List NameWord) → up_to_last test ws ≤ length ws
up-within test [] = omega arith
up-within test (w ∷ ws) =
    ⊎_elim
    (λ (h : list_any test (w ∷ ws) ≡ true). let e = cond-true (list_any test (w ∷ ws)) (suc (up_to_last test ws)) 0 h in omega (arith, e, up-within test ws))
    (λ (h : list_any test (w ∷ ws) ≡ false). let e = cond-false (list_any test (w ∷ ws)) (suc (up_to_last test ws)) 0 h in omega (arith, e))
    (cases_Bool (list_any test (w ∷ ws)))

some-length : (ws : List NameWord) → (ws ≡ [] → ⊥) → 0 < length ws
some-length [] some = absurd (some refl)
some-length (w ∷ ws) some = omega arith

some-dropped : (e : ℕ) (ws : List NameWord) → e < length ws → drop e ws ≡ [] → ⊥
some-dropped e ws lt none = let len = length-drop e ws in omega (arith, len, ap length none)

last-some : (name : Text) (s : Stretch) → IsPieceOf name s → (a e : ℕ) → e < length (words_of s) → is_somebody (person name (cut_at a e (words_of s))) ≡ true
last-some name s piece a e lt =
    let ws = words_of s in
    let P = IsWordIn s.at s.text in
    let all = words-of name s piece in
    let order = words_ordered s (begins_word s.text) 0 (length s.text) in
    let some = family-some name s piece (drop a (take e ws)) (drop e ws) (all-drop P a (take e ws) (all-take P e ws all)) (all-drop P e ws all) (order-dropped e ws order)
    (all-drop (λ (x : NameWord). AllByRecursion (λ (v : NameWord). x.at ≤ v.at) (drop e ws)) a (take e ws) (order-split e ws order)) (some-dropped e ws lt) in
    or_left _ _ (or_left _ _ some)

one-some : (name : Text) (s : Stretch) → IsPieceOf name s → EndsInWord s.text → is_somebody (person name (without_comma (words_of s))) ≡ true
one-some name s piece is =
    let ws = words_of s in
    let some = some-length ws (some_words s.at s.text is) in
    let start : hyphened_start ws < length ws = omega (arith, some, up-within is_free ws) in
    let short : length (take (length ws - 1) ws) ≡ length ws - 1 = length-take-le (length ws - 1) ws (omega arith) in
    let end : von_end ws < length ws = omega (arith, some, up-within is_von (take (length ws - 1) ws), short) in
    ⊎_elim
    (λ (h : eqb (von_end ws) 0 ≡ true). ap (λ (n : Name). is_somebody (person name n)) (cond-true (eqb (von_end ws) 0) _ _ h) ∙ last-some name s piece (hyphened_start ws) (hyphened_start ws) start)
    (λ (h : eqb (von_end ws) 0 ≡ false). ap (λ (n : Name). is_somebody (person name n)) (cond-false (eqb (von_end ws) 0) _ _ h) ∙ last-some name s piece (von_start ws) (von_end ws) end)
    (cases_Bool (eqb (von_end ws) 0))

-- ---- First has a word if the name has more

first-some : (name : Text) (s : Stretch) → IsPieceOf name s → EndsInWord s.text → (front jr : List NameWord) → is_somebody (person name (with_commas front jr (words_of s))) ≡ true
first-some name s piece is front jr =
    let some = part-some name s piece (words_of s) (words-of name s piece) (words_ordered s (begins_word s.text) 0 (length s.text)) (some_words s.at s.text is) in
    or_left _ _ (or_right _ _ some)

-- what is after a place before the last byte ends as the whole does
ends_after : (bare : Text) (at : ℕ) → EndsInWord bare → at < length bare → EndsInWord (drop at bare)
ends_after bare at is lt =
    let len = length-drop at bare in
    record {
      some = omega (arith, len, lt);
      ends = ap is_separator (last at bare lt) ∙ is.ends;
    }
  where
    last : (at : ℕ) (t : Text) → at < length t → get_or (drop at t) (length (drop at t) - 1) 0 ≡ get_or t (length t - 1) 0
    last zero t lt = refl
    last (suc at) [] lt = absurd (omega arith)
    last (suc at) (b ∷ t) lt =
        let e : length (b ∷ t) - 1 ≡ suc (length t - 1) = omega (arith, lt) in
        last at t (omega arith) ∙ sym (ap (λ n. get_or (b ∷ t) n 0) e)

from-cuts : (name bare : Text) (ps : List ℕ) → EndsInWord bare → AllByRecursion (λ p. p + 1 < length bare) ps → AllByRecursion (IsPieceOf name) (between 1 bare 0 ps) → (parts : Name) → parts_of_pieces (between 1 bare 0 ps) ≡ Some parts
    → is_somebody (person name parts) ≡ true
from-cuts name bare [] is low all parts e =
    let same : without_comma (words_of (stretch 0 bare)) ≡ parts = cc in
    ap (λ (n : Name). is_somebody (person name n)) (sym same) ∙ one-some name (stretch 0 bare) all.0 is
from-cuts name bare (p ∷ []) is low all parts e =
    let s = stretch (p + 1) (drop (p + 1) bare) in
    let front = words_of (stretch 0 (slice_range bare 0 p)) in
    let same : with_commas front [] (words_of s) ≡ parts = cc in
    ap (λ (n : Name). is_somebody (person name n)) (sym same) ∙ first-some name s all.1.0 (ends_after bare (p + 1) is low.0) front []
from-cuts name bare (p ∷ q ∷ []) is low all parts e =
    let s = stretch (q + 1) (drop (q + 1) bare) in
    let front = words_of (stretch 0 (slice_range bare 0 p)) in
    let jr = words_of (stretch (p + 1) (slice_range bare (p + 1) q)) in
    let same : with_commas front jr (words_of s) ≡ parts = cc in
    ap (λ (n : Name). is_somebody (person name n)) (sym same) ∙ first-some name s all.1.1.0 (ends_after bare (q + 1) is low.1.0) front jr
from-cuts name bare (p ∷ q ∷ r ∷ []) is low all parts e = absurd (cc)
from-cuts name bare (p ∷ q ∷ r ∷ t ∷ ts) is low all parts e = absurd (cc)

-- no comma is the last byte
commas-low : (bare : Text) → eqb (get_or bare (length bare - 1) 0) 44 ≡ false → AllByRecursion (λ p. p + 1 < length bare) (commas bare)
commas-low bare ends = all-range (λ p. p + 1 < length bare) (is_comma bare) 0 (length bare) (λ k low high passes.
    ⊎_elim
    (λ (lt : k + 1 < length bare). lt)
    (λ (le : length bare ≤ k + 1).
    let e : k ≡ length bare - 1 = omega arith in
    absurd (both_ways (eqb (get_or bare (length bare - 1) 0) 44) ends (ap (λ n. eqb (get_or bare n 0) 44) (sym e) ∙ (and_parts _ _ passes).1)))
    (cases_lt (k + 1) (length bare)))

-- a name with parts has a word exactly if a byte is left of it
pub somebody-left : (name : Text) (parts : Name) → IsBalanced name → parts_of name ≡ Some parts → is_somebody (person name parts) ≡ has_bytes (without_end name)
somebody-left name parts is e =
    ⊎_elim
    (λ (some : list_any (fails is_dropped_at_end) name ≡ true).
    let bare = without_end name in
    let left = ends-before is_dropped_at_end name some in
    let last = or_parts (is_separator (get_or bare (length bare - 1) 0)) (eqb (get_or bare (length bare - 1) 0) 44) (last-fails is_dropped_at_end bare left.1 left.0) in
    from-cuts name bare (commas bare) (record { some = some-bytes bare left.1; ends = last.0 }) (commas-low bare last.1) (name-pieces name (level-of name is)) parts e ∙ sym left.1)
    (λ (none : list_any (fails is_dropped_at_end) name ≡ false).
    let bare : without_end name ≡ [] = before_run-none is_dropped_at_end name none in
    nobody parts (sym (ap parts_of_bare bare) ∙ e) ∙ sym (ap has_bytes bare))
    (cases_Bool (list_any (fails is_dropped_at_end) name))
  where
    some-bytes : (t : Text) → has_bytes t ≡ true → 0 < length t
    some-bytes [] h = absurd (cc)
    some-bytes (b ∷ t) h = omega arith

    nobody : (parts : Name) → parts_of_bare [] ≡ Some parts → is_somebody (person name parts) ≡ false
    nobody parts e =
        let same : without_comma [] ≡ parts = cc in
        ap (λ (n : Name). is_somebody (person name n)) (sym same)
