-- Slices that are cut where the text ends.
use Rattle.ris_format.proofs.Words.{◌≡◌, ℕ, ◌-◌, ◌<◌, [], ◌∷◌, ◌++◌, length, get_or, refl, sym, ap, ◌∙◌, arith, slice_range, Text, NameWord, words_end, to_last_end, part_text, family}
use Rattle.std.proofs.Common.{List}
use Rattle.ris_format.specs.People.{word_end}

-- where words end, by the last of them
pub words_end-last : (word : NameWord) (words : List NameWord) (d : NameWord) → words_end word words ≡ word_end (get_or (word ∷ words) (length words) d)
words_end-last word [] d = refl
words_end-last word (next ∷ words) d = words_end-last next words d

-- words end where the last of them ends
pub words_end-append : (word : NameWord) (von : List NameWord) (next : NameWord) (words : List NameWord) → words_end word (von ++ (next ∷ words)) ≡ words_end next words
words_end-append word [] next words = refl
words_end-append word (v ∷ von) next words = words_end-append v von next words

-- the slice to where the last of some words ends
pub last-end : (name : Text) (start : ℕ) (words : List NameWord) (last : NameWord) → 0 < length words → last ≡ get_or words (length words - 1) last → slice_range name start (word_end last) ≡ to_last_end name start words
last-end name start [] last some end = absurd (omega arith)
last-end name start (word ∷ words) last some end =
    let n : length (word ∷ words) - 1 ≡ length words = omega arith in
    let close : last ≡ get_or (word ∷ words) (length words) last = end ∙ ap (λ k. get_or (word ∷ words) k last) n in
    ap (λ (w : NameWord). slice_range name start (word_end w)) close ∙ ap (slice_range name start) (sym (words_end-last word words last))

-- the slice from the first word on
pub first-part : (name : Text) (words : List NameWord) (first : NameWord) → 0 < length words → first ≡ get_or words 0 first → to_last_end name first.at words ≡ part_text name words
first-part name [] first some is = refl
first-part name (word ∷ words) first some is = ap (λ (w : NameWord). to_last_end name w.at (word ∷ words)) is

-- von and Last together, from the first von word on
pub family-part : (name : Text) (von words : List NameWord) (first : NameWord) → 0 < length von → first ≡ get_or von 0 first → to_last_end name first.at words ≡ part_text name (family von words)
family-part name [] words first some is = absurd (omega arith)
family-part name (word ∷ von) [] first some is = refl
family-part name (word ∷ von) (next ∷ words) first some is =
    ap (λ (w : NameWord). to_last_end name w.at (next ∷ words)) is ∙ ap (slice_range name word.at) (sym (words_end-append word von next words))
