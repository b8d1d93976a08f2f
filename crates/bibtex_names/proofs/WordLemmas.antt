-- The words of a piece that are found after some of its places are passed.
use Rattle.bib_names.proofs.Words.{◌≡◌, ℕ, suc, ◌+◌, ◌-◌, ◌≤◌, ◌<◌, true, false, cond, eqb, List, [], ◌∷◌, ◌++◌, length, get_or, sym, ap, ◌∙◌, arith, map, append-nil, below_more, and-false, ◌&&◌, slice_range, Text, places_from}
use Rattle.std.proofs.Common.{append_assoc, add-one}
use Rattle.std.proofs.lemmas.Bool.{ne_eqb}
use Rattle.std.specs.Prelude.{◌||◌, not}
use Rattle.bibtex_names.specs.Words.{NameWord, is_gap, begins_word, word_end, run_start, kept_separator, sep_before, word_at, words_of}
use Rattle.bib_names.proofs.PlaceLemmas.{places_here, places_past, places_none, places_skip_to, run_to, run_to_end}

-- no gap is between start and place, so at most the front of one word is there, and all words before it are found
pub record AreWordsSoFar (text : Text) (words : List NameWord) (start before place : ℕ) : Type 0 where
  pub within : start ≤ place
  pub front : (eqb start 0 || is_gap text (start - 1)) ≡ true
  pub inside : (p : ℕ) → start ≤ p → p < place → is_gap text p ≡ false
  pub sep : before ≡ sep_before text start
  pub told : words ++ map (word_at text) (places_from (begins_word text) start (length text - start)) ≡ words_of text

-- no gap: the word goes on
pub words_on : (text : Text) (words : List NameWord) (start sep place : ℕ) → AreWordsSoFar text words start sep place → is_gap text place ≡ false → AreWordsSoFar text words start sep (place + 1)
words_on text words start sep place far gap = record {
  within = omega (arith, far.within);
  front = far.front;
  inside = λ p low high. below_more (λ q. start ≤ q → is_gap text q ≡ false) place (λ q h l. far.inside q l h) (λ _. gap) p high low;
  sep = far.sep;
  told = far.told;
}

-- a run of gaps goes on
run_next : (text : Text) (place : ℕ) → is_gap text place ≡ true → run_start text (place + 1) ≡ run_start text place
run_next text place gap = ap (run_start text) (add-one place) ∙ ap (λ b. cond b (run_start text place) (suc place)) gap

-- no run of gaps ends here
run_here : (text : Text) (place : ℕ) → 0 < place → is_gap text (place - 1) ≡ false → run_start text place ≡ place
run_here text place lt none =
    let e : place ≡ suc (place - 1) = omega arith in
    ap (run_start text) e ∙ ap (λ b. cond b (run_start text (place - 1)) (suc (place - 1))) none ∙ sym e

-- after a gap a word may begin
front_after : (text : Text) (place : ℕ) → is_gap text place ≡ true → (eqb (place + 1) 0 || is_gap text (place + 1 - 1)) ≡ true
front_after text place gap =
    let e : place + 1 - 1 ≡ place = omega arith in
    ap (λ b. b || is_gap text (place + 1 - 1)) (ne_eqb (place + 1) 0 (λ i. omega arith)) ∙ ap (is_gap text) e ∙ gap

-- a gap directly after another, or at the front
pub words_gap : (text : Text) (words : List NameWord) (start sep place : ℕ) → place < length text → AreWordsSoFar text words start sep place → start ≡ place → is_gap text place ≡ true → AreWordsSoFar text words (place + 1) sep (place + 1)
words_gap text words start sep place lt far is gap =
    let past : begins_word text place ≡ false = ap (λ g. not g && (eqb place 0 || is_gap text (place - 1))) gap in
    let told_from = λ (s : ℕ). words ++ map (word_at text) (places_from (begins_word text) s (length text - s)) in
    record {
      within = omega arith;
      front = front_after text place gap;
      inside = λ p low high. absurd (omega arith);
      sep = far.sep ∙ ap (sep_before text) is ∙ ap (λ r. cond (eqb r 0) 32 (kept_separator (get_or text r 0))) (sym (run_next text place gap));
      told = ap (λ ps. words ++ map (word_at text) ps) (sym (places_past (begins_word text) place (length text) lt past)) ∙ ap told_from (sym is) ∙ far.told;
    }

-- the word begins at start
begins_at : (text : Text) (words : List NameWord) (start sep place : ℕ) → AreWordsSoFar text words start sep place → start < place → begins_word text start ≡ true
begins_at text words start sep place far before =
    ap (λ g. not g && (eqb start 0 || is_gap text (start - 1))) (far.inside start (omega arith) before) ∙ far.front

-- and no other up to place
begins_inside : (text : Text) (words : List NameWord) (start sep place : ℕ) → AreWordsSoFar text words start sep place → (p : ℕ) → start + 1 ≤ p → p < place + 1 → begins_word text p ≡ false
begins_inside text words start sep place far p low high =
    ap (λ b. not (is_gap text p) && (b || is_gap text (p - 1))) (ne_eqb p 0 (λ i. omega arith))
    ∙ ap (λ g. not (is_gap text p) && g) (far.inside (p - 1) (omega arith) (omega arith))
    ∙ and-false (not (is_gap text p))

-- the word that begins at start, with its end known
word_is : (text : Text) (start sep end : ℕ) → sep ≡ sep_before text start → word_end text start ≡ end → word_at text start ≡ record { sep = sep; text = slice_range text start end }
word_is text start sep end sep_is end_is =
    ap (λ (e : ℕ). record { sep = sep_before text start; text = slice_range text start e }) end_is
    ∙ ap (λ (s : ℕ). record { sep = s; text = slice_range text start end }) (sym sep_is)

-- a gap after a word
pub words_end : (text : Text) (words : List NameWord) (start sep place : ℕ) → place < length text → AreWordsSoFar text words start sep place → start < place → is_gap text place ≡ true
    → AreWordsSoFar text (words ++ record { sep = sep; text = slice_range text start place } ∷ []) (place + 1) (kept_separator (get_or text place 0)) (place + 1)
words_end text words start sep place lt far before gap =
    let f = word_at text in
    let here = places_here (begins_word text) start (length text) (omega arith) (begins_at text words start sep place far before) in
    let past = places_skip_to (begins_word text) (start + 1) (place + 1) (length text) (omega arith) (omega arith) (begins_inside text words start sep place far) in
    let ends = run_to (λ p. not (is_gap text p)) start place (length text) (omega arith) lt (λ p low high. ap not (far.inside p low high)) (ap not gap) in
    let word = word_is text start sep place far.sep ends in
    let run : run_start text (place + 1) ≡ place = run_next text place gap ∙ run_here text place (omega arith) (far.inside (place - 1) (omega arith) (omega arith)) in
    let shown = ap (λ r. cond (eqb r 0) 32 (kept_separator (get_or text r 0))) run in
    record {
      within = omega arith;
      front = front_after text place gap;
      inside = λ p low high. absurd (omega arith);
      sep = sym (shown ∙ ap (λ b. cond b 32 (kept_separator (get_or text place 0))) (ne_eqb place 0 (λ i. omega arith)));
      told = append_assoc words _ _ ∙ ap (λ w. words ++ w ∷ map f (places_from (begins_word text) (place + 1) (length text - (place + 1)))) (sym word)
          ∙ ap (λ ps. words ++ f start ∷ map f ps) (sym past) ∙ ap (λ ps. words ++ map f ps) (sym here) ∙ far.told;
    }

-- the last word ends the piece
pub words_last : (text : Text) (words : List NameWord) (start sep place : ℕ) → place ≡ length text → AreWordsSoFar text words start sep place → start < place
    → words ++ record { sep = sep; text = slice_range text start (length text) } ∷ [] ≡ words_of text
words_last text words start sep place is far before =
    let f = word_at text in
    let here = places_here (begins_word text) start (length text) (omega arith) (begins_at text words start sep place far before) in
    let past = places_skip_to (begins_word text) (start + 1) (length text) (length text) (omega arith) (omega arith) (λ p low high. begins_inside text words start sep place far p low (omega arith)) in
    let none = places_none (begins_word text) (length text) (length text) (omega arith) in
    let ends = run_to_end (λ p. not (is_gap text p)) start (length text) (omega arith) (λ p low high. ap not (far.inside p low (omega arith))) in
    let word = word_is text start sep (length text) far.sep ends in
    ap (λ w. words ++ w ∷ []) (sym word)
    ∙ ap (λ ps. words ++ f start ∷ map f ps) (sym (past ∙ none)) ∙ ap (λ ps. words ++ map f ps) (sym here) ∙ far.told

-- a gap ends the piece
pub words_none : (text : Text) (words : List NameWord) (start sep place : ℕ) → place ≡ length text → AreWordsSoFar text words start sep place → place ≤ start → words ≡ words_of text
words_none text words start sep place is far le =
    let none = places_none (begins_word text) start (length text) (omega arith) in
    sym (append-nil words) ∙ ap (λ ps. words ++ map (word_at text) ps) (sym none) ∙ far.told
