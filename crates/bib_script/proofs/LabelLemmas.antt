-- The label that words make is one.
use Rattle.std.proofs.Common.{◌≡◌, ◌≤◌, ℕ, zero, suc, Bool, true, false, List, [], ◌∷◌, length, map, take, Some, refl, arith}
use Rattle.std.specs.List.{list_all, slice_index_or}
use Rattle.std.proofs.lemmas.Bool.{le-leb}
use Rattle.std.proofs.lemmas.List.{length-map}
use Rattle.bib_spec.specs.Text.{Text}
use Rattle.history_spec.specs.Steps.{label_limit, is_label_byte, label_of}
use Rattle.bib_script.specs.Words.{spaced, continues, kept_len, shown_byte, label_of_words}

-- where the next byte continues a character, a byte less is kept
pub kept_len-back : (n k : ℕ) (text : Text) → n ≡ suc k → continues (slice_index_or text n 0) ≡ true → kept_len k text ≡ kept_len n text
unfolding kept_len
kept_len-back zero k text is cut = absurd (omega (arith, is))
kept_len-back (suc n) k text is cut =
    let same : k ≡ n = omega (arith, is) in
    rw (same, cut) refl

-- where it does not, so much is kept
pub kept_len-stay : (n : ℕ) (text : Text) → continues (slice_index_or text n 0) ≡ false → n ≡ kept_len n text
unfolding kept_len
kept_len-stay zero text whole = refl
kept_len-stay (suc n) text whole = rw (whole) refl

pub kept_len-none : (n : ℕ) (text : Text) → n ≡ 0 → n ≡ kept_len n text
unfolding kept_len
kept_len-none n text none = rw (none) refl

kept_len-le : (n : ℕ) (text : Text) → kept_len n text ≤ n
unfolding kept_len
kept_len-le zero text = omega arith
kept_len-le (suc n) text = at (continues (slice_index_or text (suc n) 0)) refl (kept_len-le n text)
  where
    at : (b : Bool) → continues (slice_index_or text (suc n) 0) ≡ b → kept_len n text ≤ n → kept_len (suc n) text ≤ suc n
    at true is less = rw (is) (omega (arith, less))
    at false is less = rw (is) (omega arith)

-- each byte shown is one of a label
shown_is_plain : (b : ℕ) → is_label_byte (shown_byte b) ≡ true
shown_is_plain b = at (is_label_byte b) refl
  where
    at : (t : Bool) → is_label_byte b ≡ t → is_label_byte (shown_byte b) ≡ true
    at true is = rw (is) is
    at false is = rw (is) refl

shown_are_plain : (text : Text) → list_all is_label_byte (map shown_byte text) ≡ true
shown_are_plain [] = refl
shown_are_plain (b ∷ text) = rw (shown_is_plain b) (shown_are_plain text)

length-take : (n : ℕ) (text : Text) → length (take n text) ≤ n
length-take zero text = omega arith
length-take (suc n) [] = omega arith
length-take (suc n) (b ∷ text) = let shorter = length-take n text in omega (arith, shorter)

-- the words make a label
pub label_is_made : (words : List Text) → label_of (label_of_words words) ≡ Some (label_of_words words)
label_is_made words =
    let kept : Text = take (kept_len label_limit (spaced words)) (spaced words) in
    let least = kept_len-le label_limit (spaced words) in
    let most = length-take (kept_len label_limit (spaced words)) (spaced words) in
    let same = length-map kept shown_byte in
    let short : length (map shown_byte kept) ≤ label_limit = omega (arith, least, most, same) in
    rw (le-leb (length (map shown_byte kept)) label_limit short, shown_are_plain kept) refl
