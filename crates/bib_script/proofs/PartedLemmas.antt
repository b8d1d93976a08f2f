-- Texts between bytes that separate them, cut off one by one.
use Rattle.std.proofs.Common.{◌≡◌, ℕ, suc, ◌+◌, ◌-◌, ◌≤◌, ◌<◌, ◌==◌, not, true, false, List, [], ◌∷◌, ◌++◌, length, take, drop, get_or, map, refl, sym, ◌∙◌, ap, arith, inl, inr}
use Rattle.std.proofs.lemmas.List.{length-drop, map-append, append_assoc, take_all, take_more}
use Rattle.std.proofs.lemmas.Bool.{cases_Bool}
use Rattle.std.proofs.lemmas.Bool.Decides.{eqb_tells}
use Rattle.std.specs.List.{prefix_len}
use Rattle.std.specs.Borrow.{Bor}
use Rattle.bib_spec.specs.Bytes.{line_feed, carriage_return}
use Rattle.bib_spec.specs.Text.{Text}
use Rattle.bib_spec.specs.Texts.{onto_first}
use Rattle.bib_script.specs.Parting.{parted, without_return, as_lines}

-- how many bytes are before the first of this kind, or before the end
abbrev pub len_before : ℕ → Text → ℕ
len_before byte t = prefix_len (λ b. not (b == byte)) t

-- the byte is the first, or comes after the first
at_once : (byte b : ℕ) (t : Text) → (b == byte) ≡ true → (len_before byte (b ∷ t) ≡ 0) × (parted byte (b ∷ t) ≡ [] ∷ parted byte t)
at_once byte b t is = (rw is refl, rw is refl)

later : (byte b : ℕ) (t : Text) → (b == byte) ≡ false → (len_before byte (b ∷ t) ≡ suc (len_before byte t)) × (parted byte (b ∷ t) ≡ onto_first b (parted byte t))
later byte b t is = (rw is (omega arith), rw is refl)

-- a text with the byte: the text before it, and what the rest is parted into
pub parted_before : (byte : ℕ) (t : Text) (b : ℕ) (rest : Text) → drop (len_before byte t) t ≡ b ∷ rest → parted byte t ≡ take (len_before byte t) t ∷ parted byte rest
parted_before byte [] b rest e = cc
parted_before byte (c ∷ t) b rest e =
    elim (cases_Bool (c == byte)) [
      | inl is ↦
          let here = at_once byte c t is in
          let whole : c ∷ t ≡ b ∷ rest = ap (λ n. drop n (c ∷ t)) (sym here.0) ∙ e in
          let same : t ≡ rest = cc in
          here.1 ∙ ap (λ (u : Text). [] ∷ parted byte u) same ∙ ap (λ n. take n (c ∷ t) ∷ parted byte rest) (sym here.0)
      | inr is ↦
          let there = later byte c t is in
          let after : drop (len_before byte t) t ≡ b ∷ rest = ap (λ n. drop n (c ∷ t)) (sym there.0) ∙ e in
          there.1 ∙ ap (onto_first c) (parted_before byte t b rest after) ∙ ap (λ n. take n (c ∷ t) ∷ parted byte rest) (sym there.0)
    ]

-- a text without the byte
pub parted_last : (byte : ℕ) (t : Text) → drop (len_before byte t) t ≡ [] → parted byte t ≡ take (len_before byte t) t ∷ []
parted_last byte [] e = refl
parted_last byte (c ∷ t) e =
    elim (cases_Bool (c == byte)) [
      | inl is ↦ let here = at_once byte c t is in let whole : c ∷ t ≡ [] = ap (λ n. drop n (c ∷ t)) (sym here.0) ∙ e in cc
      | inr is ↦
          let there = later byte c t is in
          let after : drop (len_before byte t) t ≡ [] = ap (λ n. drop n (c ∷ t)) (sym there.0) ∙ e in
          there.1 ∙ ap (onto_first c) (parted_last byte t after) ∙ ap (λ n. take n (c ∷ t) ∷ []) (sym there.0)
    ]

split_front : (t : Text) → 0 < length t → t ≡ get_or t 0 0 ∷ drop 1 t
split_front [] h = absurd (omega (arith, h))
split_front (b ∷ t) h = refl

-- what a text with the byte is parted into: the text before it, and what the rest is parted into
pub parted_more : (byte : ℕ) (t word after : Text) → word ≡ take (len_before byte t) t → after ≡ drop (len_before byte t) t → 1 ≤ length after
    → parted byte t ≡ word ∷ parted byte (take (length after - 1) (drop 1 after))
parted_more byte t word after front back some =
    let all : take (length after - 1) (drop 1 after) ≡ drop 1 after = take_all (length after - 1) (drop 1 after) (omega (arith, length-drop 1 after)) in
    let found : parted byte t ≡ take (len_before byte t) t ∷ parted byte (drop 1 after) =
    parted_before byte t (get_or after 0 0) (drop 1 after) (sym back ∙ split_front after (omega arith)) in
    found ∙ ap (λ (u : Text). u ∷ parted byte (drop 1 after)) (sym front) ∙ ap (λ (u : Text). word ∷ parted byte u) (sym all)

pub parted_end : (byte : ℕ) (t word after : Text) → word ≡ take (len_before byte t) t → after ≡ drop (len_before byte t) t → length after < 1 → parted byte t ≡ word ∷ []
parted_end byte t word [] front back none = parted_last byte t (sym back) ∙ ap (λ (u : Text). u ∷ []) (sym front)
parted_end byte t word (b ∷ after) front back none = absurd (omega (arith, none))

-- the words found so far, and those of the rest
pub words_more : (words words' : List (Bor Text)) (word : Bor Text) (texts rest all : List Text)
    → map (λ w. w.now) words ++ texts ≡ all → texts ≡ word.now ∷ rest → words' ≡ words ++ word ∷ [] → map (λ w. w.now) words' ++ rest ≡ all
words_more words words' word texts rest all so_far found pushed =
    let shown : map (λ w. w.now) words' ≡ map (λ w. w.now) words ++ word.now ∷ [] = ap (map (λ (w : Bor Text). w.now)) pushed ∙ map-append (λ (w : Bor Text). w.now) words (word ∷ []) in
    ap (λ (ts : List Text). ts ++ rest) shown ∙ append_assoc (map (λ (w : Bor Text). w.now) words) (word.now ∷ []) rest
    ∙ ap (λ (ts : List Text). map (λ (w : Bor Text). w.now) words ++ ts) (sym found) ∙ so_far

-- ---- the end of a line

pub return_dropped : (t : Text) → without_return (t ++ carriage_return ∷ []) ≡ t
return_dropped [] = refl
return_dropped (b ∷ []) = refl
return_dropped (b ∷ c ∷ t) = ap (λ (u : Text). b ∷ u) (return_dropped (c ∷ t))

pub no_return : (t : Text) (b : ℕ) → (b == carriage_return) ≡ false → without_return (t ++ b ∷ []) ≡ t ++ b ∷ []
no_return [] b is = rw is refl
no_return (c ∷ []) b is = rw is refl
no_return (c ∷ d ∷ t) b is = ap (λ (u : Text). c ∷ u) (no_return (d ∷ t) b is)

last_off : (t : Text) → 1 ≤ length t → t ≡ take (length t - 1) t ++ get_or t (length t - 1) 0 ∷ []
last_off t h = sym (take_all (length t - 1 + 1) t (omega arith)) ∙ take_more t (length t - 1) 0 (omega arith)

pub with_return : (t : Text) → 1 ≤ length t → get_or t (length t - 1) 0 ≡ carriage_return → take (length t - 1) t ≡ without_return t
with_return t h is =
    let front : Text = take (length t - 1) t in
    let whole : t ≡ front ++ carriage_return ∷ [] = last_off t h ∙ ap (λ (b : ℕ). front ++ b ∷ []) is in
    sym (ap without_return whole ∙ return_dropped front)

pub as_it_is : (t : Text) → 1 ≤ length t → (get_or t (length t - 1) 0 ≡ carriage_return → ⊥) → t ≡ without_return t
as_it_is t h other =
    let front : Text = take (length t - 1) t in
    let last : ℕ = get_or t (length t - 1) 0 in
    elim (eqb_tells last carriage_return) [
      | inl is ↦ absurd (other is.1)
      | inr is ↦ last_off t h ∙ sym (no_return front last is.0) ∙ ap without_return (sym (last_off t h))
    ]

-- ---- the first line

parted_some : (byte : ℕ) (t : Text) → (first : Text) × (others : List Text) × (parted byte t ≡ first ∷ others)
parted_some byte [] = ([], [], refl)
parted_some byte (b ∷ t) =
    elim (cases_Bool (b == byte)) [
      | inl is ↦ ([], parted byte t, (at_once byte b t is).1)
      | inr is ↦ let rest = parted_some byte t in (b ∷ rest.0, rest.1, (later byte b t is).1 ∙ ap (onto_first b) rest.2)
    ]

-- a line that ends, before others
pub line_more : (t line next : Text) → parted line_feed t ≡ line ∷ parted line_feed next → as_lines (parted line_feed t) ≡ without_return line ∷ as_lines (parted line_feed next)
line_more t line next found =
    let some = parted_some line_feed next in
    ap as_lines found ∙ ap (λ (ts : List Text). as_lines (line ∷ ts)) some.2 ∙ ap (λ (ts : List Text). without_return line ∷ as_lines ts) (sym some.2)

-- a line that does not end
pub line_last : (t line after : Text) → parted line_feed t ≡ line ∷ [] → 1 ≤ length line → length after < 1
    → as_lines (parted line_feed t) ≡ line ∷ as_lines (parted line_feed after)
line_last t [] after found some none = absurd (omega (arith, some))
line_last t (b ∷ line) [] found some none = ap as_lines found
line_last t (b ∷ line) (c ∷ after) found some none = absurd (omega (arith, none))
