-- The pieces between commas that are found after some places are passed.
use Rattle.ris_format.proofs.Words.{◌≡◌, ℕ, ◌+◌, ◌-◌, ◌≤◌, ◌<◌, Bool, true, false, cond, ◌&&◌, eqb, [], ◌∷◌, ◌++◌, length, take, drop, get_or, refl, sym, ap, ◌∙◌, arith, append-nil, slice_range, slice_split, onto_first, cond-true, cond-false, and_parts, eqb-true, take_all, drop_all, get_or-drop}
use Rattle.ris_format.proofs.Words.{length-drop, Text, commas, trimmed, one, pieces_from, with_front, name_pieces, is_comma_byte}
use Rattle.std.proofs.Common.{List, append_assoc, map}
use Rattle.std.proofs.lemmas.List.{take_more, drop_more}
use Rattle.ris_format.specs.Keywords.{keyword_pieces}
use Rattle.ris_format.proofs.KeywordLaws.{front-onto, front-split}
use Rattle.ris_format.proofs.NameScans.{pieces-front, pieces-some, commas-count}
use Rattle.ris_format.proofs.PeopleLaws.{name-pieces_are}

nothing : (text : Text) (place : ℕ) → slice_range text place place ≡ []
nothing text place = let e : place - place ≡ 0 = omega arith in ap (λ n. take n (drop place text)) e

one_more : (text : Text) (start place : ℕ) → start ≤ place → place < length text → slice_range text start (place + 1) ≡ slice_range text start place ++ get_or text place 0 ∷ []
one_more text start place le lt =
    let n : place + 1 - start ≡ place - start + 1 = omega arith in
    let at : start + (place - start) ≡ place = omega arith in
    ap (λ m. take m (drop start text)) n ∙ take_more (drop start text) (place - start) 0 (omega (arith, length-drop start text))
    ∙ ap (λ (b : ℕ). slice_range text start place ++ b ∷ []) (get_or-drop start text (place - start) 0 ∙ ap (λ m. get_or text m 0) at)

rest_of : (text : Text) (start place : ℕ) → place ≡ length text → slice_range text start place ≡ drop start text
rest_of text start place is = take_all (place - start) (drop start text) (omega (arith, length-drop start text))

-- ---- pieces of a name

-- the pieces so far, and those of the rest
pub record ArePiecesSoFar (value : Text) (pieces : List Text) (start place opened closed : ℕ) : Type 0 where
  pub within : start ≤ place
  pub few_opened : opened ≤ place
  pub few_closed : closed ≤ place
  pub told : pieces ++ map trimmed (with_front (slice_range value start place) (pieces_from opened closed (drop place value))) ≡ name_pieces value

pub no_pieces : (value : Text) → ArePiecesSoFar value [] 0 0 0 0
no_pieces value = record {
  within = omega arith;
  few_opened = omega arith;
  few_closed = omega arith;
  told = ap (λ (ps : List Text). map trimmed ps) (pieces-front 0 0 value) ∙ sym (name-pieces_are value);
}

one-le : (brace b : ℕ) → one brace b ≤ 1
one-le brace b = go (eqb b brace)
  where
    go : (c : Bool) → cond c 1 0 ≤ 1
    go true = omega arith
    go false = omega arith

-- at a comma a piece ends, at the same depth
record EndsPiece (value : Text) (place o c o' c' : ℕ) : Type 0 where
  same_opened : o ≡ o'
  same_closed : c ≡ c'
  split : pieces_from o c (drop place value) ≡ [] ∷ pieces_from o' c' (drop (place + 1) value)

piece_ends : (value : Text) (place o c o' c' : ℕ) → place < length value → (eqb o c && eqb (get_or value place 0) 44) ≡ true → o' ≡ o + one 123 (get_or value place 0) → c' ≡ c + one 125 (get_or value place 0) → EndsPiece value place o c o' c'
piece_ends value place o c o' c' lt h eo ec =
    let b = get_or value place 0 in
    let is = eqb-true b 44 (and_parts (eqb o c) (eqb b 44) h).1 in
    let same_o : o ≡ o' = omega (arith, eo, ap (one 123) is) in
    let same_c : c ≡ c' = omega (arith, ec, ap (one 125) is) in
    let t = drop (place + 1) value in
    record {
      same_opened = same_o;
      same_closed = same_c;
      split = ap (pieces_from o c) (drop_more value place 0 lt) ∙ cond-true (eqb o c && eqb b 44) ([] ∷ pieces_from o c t) _ h ∙ ap (λ n. [] ∷ pieces_from n c t) same_o ∙ ap (λ n. [] ∷ pieces_from o' n t) same_c;
    }

-- and elsewhere it goes on
piece_goes_on : (value : Text) (place o c o' c' : ℕ) → place < length value → (eqb o c && eqb (get_or value place 0) 44) ≡ false → o' ≡ o + one 123 (get_or value place 0) → c' ≡ c + one 125 (get_or value place 0)
    → pieces_from o c (drop place value) ≡ onto_first (get_or value place 0) (pieces_from o' c' (drop (place + 1) value))
piece_goes_on value place o c o' c' lt h eo ec =
    let b = get_or value place 0 in
    let t = drop (place + 1) value in
    ap (pieces_from o c) (drop_more value place 0 lt) ∙ cond-false (eqb o c && eqb b 44) ([] ∷ pieces_from o c t) _ h
    ∙ ap (λ n. onto_first b (pieces_from n (c + one 125 b) t)) (sym eo) ∙ ap (λ n. onto_first b (pieces_from o' n t)) (sym ec)

pub pieces_cut : (value : Text) (pieces : List Text) (start place o c o' c' : ℕ) → place < length value → ArePiecesSoFar value pieces start place o c → (eqb o c && eqb (get_or value place 0) 44) ≡ true
    → o' ≡ o + one 123 (get_or value place 0) → c' ≡ c + one 125 (get_or value place 0) → ArePiecesSoFar value (pieces ++ trimmed (slice_range value start place) ∷ []) (place + 1) (place + 1) o' c'
pieces_cut value pieces start place o c o' c' lt far h eo ec =
    let s = slice_range value start place in
    let t = drop (place + 1) value in
    let cut = piece_ends value place o c o' c' lt h eo ec in
    let told : pieces ++ (trimmed s ∷ map trimmed (pieces_from o' c' t)) ≡ name_pieces value =
    ap (λ (u : Text). pieces ++ (trimmed u ∷ map trimmed (pieces_from o' c' t))) (sym (append-nil s))
    ∙ ap (λ (ps : List Text). pieces ++ map trimmed (with_front s ps)) (sym cut.split) ∙ far.told in
    record {
      within = omega arith;
      few_opened = omega (arith, far.few_opened, cut.same_opened);
      few_closed = omega (arith, far.few_closed, cut.same_closed);
      told = append_assoc pieces (trimmed s ∷ []) _
          ∙ ap (λ (u : Text). pieces ++ (trimmed s ∷ map trimmed (with_front u (pieces_from o' c' t)))) (nothing value (place + 1))
          ∙ ap (λ (ps : List Text). pieces ++ (trimmed s ∷ map trimmed ps)) (pieces-front o' c' t) ∙ told;
    }

pub pieces_on : (value : Text) (pieces : List Text) (start place o c o' c' : ℕ) → place < length value → ArePiecesSoFar value pieces start place o c → (eqb o c && eqb (get_or value place 0) 44) ≡ false
    → o' ≡ o + one 123 (get_or value place 0) → c' ≡ c + one 125 (get_or value place 0) → ArePiecesSoFar value pieces start (place + 1) o' c'
pieces_on value pieces start place o c o' c' lt far h eo ec =
    let b = get_or value place 0 in
    let s = slice_range value start place in
    let t = drop (place + 1) value in
    let split = piece_goes_on value place o c o' c' lt h eo ec in
    record {
      within = omega (arith, far.within);
      few_opened = omega (arith, far.few_opened, eo, one-le 123 b);
      few_closed = omega (arith, far.few_closed, ec, one-le 125 b);
      told = ap (λ (u : Text). pieces ++ map trimmed (with_front u (pieces_from o' c' t))) (one_more value start place far.within lt)
          ∙ ap (λ (ps : List Text). pieces ++ map trimmed ps) (sym (front-onto s b (pieces_from o' c' t)))
          ∙ ap (λ (ps : List Text). pieces ++ map trimmed (with_front s ps)) (sym split) ∙ far.told;
    }

pub pieces_end : (value : Text) (pieces : List Text) (start place o c : ℕ) → place ≡ length value → ArePiecesSoFar value pieces start place o c → pieces ++ trimmed (drop start value) ∷ [] ≡ name_pieces value
pieces_end value pieces start place o c is far =
    let s = slice_range value start place in
    ap (λ (u : Text). pieces ++ trimmed u ∷ []) (sym (rest_of value start place is) ∙ sym (append-nil s))
    ∙ ap (λ (u : Text). pieces ++ map trimmed (with_front s (pieces_from o c u))) (sym (drop_all place value (omega arith))) ∙ far.told

-- ---- commas of a name

-- the commas so far, and those of the rest
pub record AreCommasSoFar (text : Text) (count place opened closed : ℕ) : Type 0 where
  pub few : count ≤ place
  pub few_opened : opened ≤ place
  pub few_closed : closed ≤ place
  pub told : count + length (pieces_from opened closed (drop place text)) ≡ 1 + length (commas text)

pub commas_none : (text : Text) → AreCommasSoFar text 0 0 0 0
commas_none text = record { few = omega arith; few_opened = omega arith; few_closed = omega arith; told = omega (arith, commas-count text) }

pub commas_cut : (text : Text) (count place o c o' c' : ℕ) → place < length text → AreCommasSoFar text count place o c → (eqb o c && eqb (get_or text place 0) 44) ≡ true
    → o' ≡ o + one 123 (get_or text place 0) → c' ≡ c + one 125 (get_or text place 0) → AreCommasSoFar text (count + 1) (place + 1) o' c'
commas_cut text count place o c o' c' lt far h eo ec =
    let cut = piece_ends text place o c o' c' lt h eo ec in
    record {
      few = omega (arith, far.few);
      few_opened = omega (arith, far.few_opened, cut.same_opened);
      few_closed = omega (arith, far.few_closed, cut.same_closed);
      told = omega (arith, ap length cut.split, far.told);
    }

pub commas_on : (text : Text) (count place o c o' c' : ℕ) → place < length text → AreCommasSoFar text count place o c → (eqb o c && eqb (get_or text place 0) 44) ≡ false
    → o' ≡ o + one 123 (get_or text place 0) → c' ≡ c + one 125 (get_or text place 0) → AreCommasSoFar text count (place + 1) o' c'
commas_on text count place o c o' c' lt far h eo ec =
    let b = get_or text place 0 in
    let later = pieces_from o' c' (drop (place + 1) text) in
    let split = ap length (piece_goes_on text place o c o' c' lt h eo ec) ∙ as_many b later (pieces-some o' c' (drop (place + 1) text)) in
    record {
      few = omega (arith, far.few);
      few_opened = omega (arith, far.few_opened, eo, one-le 123 b);
      few_closed = omega (arith, far.few_closed, ec, one-le 125 b);
      told = omega (arith, split, far.told);
    }
  where
    as_many : (b : ℕ) (ps : List Text) → (ps ≡ [] → ⊥) → length (onto_first b ps) ≡ length ps
    as_many b [] some = absurd (some refl)
    as_many b (p ∷ ps) some = refl

pub commas_all : (text : Text) (count place o c : ℕ) → length text ≤ place → AreCommasSoFar text count place o c → count ≡ length (commas text)
commas_all text count place o c end far =
    let none = ap (λ (u : Text). length (pieces_from o c u)) (drop_all place text end) in
    omega (arith, none, far.told)

-- ---- keywords

pub record AreWordsSoFar (text : Text) (pieces : List Text) (start place : ℕ) : Type 0 where
  pub within : start ≤ place
  pub told : pieces ++ map trimmed (with_front (slice_range text start place) (slice_split is_comma_byte (drop place text))) ≡ keyword_pieces text

pub no_words : (text : Text) → AreWordsSoFar text [] 0 0
no_words text = record { within = omega arith; told = ap (λ (ps : List Text). map trimmed ps) (front-split text) }

pub words_cut : (text : Text) (pieces : List Text) (start place : ℕ) → place < length text → AreWordsSoFar text pieces start place → is_comma_byte (get_or text place 0) ≡ true → AreWordsSoFar text (pieces ++ trimmed (slice_range text start place) ∷ []) (place + 1) (place + 1)
words_cut text pieces start place lt far h =
    let s = slice_range text start place in
    let t = drop (place + 1) text in
    let split : slice_split is_comma_byte (drop place text) ≡ [] ∷ slice_split is_comma_byte t =
    ap (slice_split is_comma_byte) (drop_more text place 0 lt) ∙ cond-true (is_comma_byte (get_or text place 0)) ([] ∷ slice_split is_comma_byte t) _ h in
    record {
      within = omega arith;
      told = append_assoc pieces (trimmed s ∷ []) _
          ∙ ap (λ (u : Text). pieces ++ (trimmed s ∷ map trimmed (with_front u (slice_split is_comma_byte t)))) (nothing text (place + 1))
          ∙ ap (λ (ps : List Text). pieces ++ (trimmed s ∷ map trimmed ps)) (front-split t)
          ∙ ap (λ (u : Text). pieces ++ (trimmed u ∷ map trimmed (slice_split is_comma_byte t))) (sym (append-nil s))
          ∙ ap (λ (ps : List Text). pieces ++ map trimmed (with_front s ps)) (sym split) ∙ far.told;
    }

pub words_on : (text : Text) (pieces : List Text) (start place : ℕ) → place < length text → AreWordsSoFar text pieces start place → is_comma_byte (get_or text place 0) ≡ false → AreWordsSoFar text pieces start (place + 1)
words_on text pieces start place lt far h =
    let b = get_or text place 0 in
    let s = slice_range text start place in
    let t = drop (place + 1) text in
    let split : slice_split is_comma_byte (drop place text) ≡ onto_first b (slice_split is_comma_byte t) =
    ap (slice_split is_comma_byte) (drop_more text place 0 lt) ∙ cond-false (is_comma_byte b) ([] ∷ slice_split is_comma_byte t) _ h in
    record {
      within = omega (arith, far.within);
      told = ap (λ (u : Text). pieces ++ map trimmed (with_front u (slice_split is_comma_byte t))) (one_more text start place far.within lt)
          ∙ ap (λ (ps : List Text). pieces ++ map trimmed ps) (sym (front-onto s b (slice_split is_comma_byte t)))
          ∙ ap (λ (ps : List Text). pieces ++ map trimmed (with_front s ps)) (sym split) ∙ far.told;
    }

pub words_end : (text : Text) (pieces : List Text) (start place : ℕ) → place ≡ length text → AreWordsSoFar text pieces start place → pieces ++ trimmed (drop start text) ∷ [] ≡ keyword_pieces text
words_end text pieces start place is far =
    let s = slice_range text start place in
    ap (λ (u : Text). pieces ++ trimmed u ∷ []) (sym (rest_of text start place is) ∙ sym (append-nil s))
    ∙ ap (λ (u : Text). pieces ++ map trimmed (with_front s (slice_split is_comma_byte u))) (sym (drop_all place text (omega arith))) ∙ far.told

pub pieces_last : (value : Text) (pieces : List Text) (start place o c : ℕ) → place ≡ length value → ArePiecesSoFar value pieces start place o c → pieces ++ trimmed (slice_range value start (length value)) ∷ [] ≡ name_pieces value
pieces_last value pieces start place o c is far = ap (λ (u : Text). pieces ++ trimmed u ∷ []) (rest_of value start (length value) refl) ∙ pieces_end value pieces start place o c is far

pub words_last : (text : Text) (pieces : List Text) (start place : ℕ) → place ≡ length text → AreWordsSoFar text pieces start place → pieces ++ trimmed (slice_range text start (length text)) ∷ [] ≡ keyword_pieces text
words_last text pieces start place is far = ap (λ (u : Text). pieces ++ trimmed u ∷ []) (rest_of text start (length text) refl) ∙ words_end text pieces start place is far
