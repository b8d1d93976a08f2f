-- Words that cross as one text and the length of each.
use Rattle.std.proofs.Common.{◌≡◌, ℕ, ◌+◌, ◌<◌, ◌≤◌, nat_le, List, [], ◌∷◌, ◌++◌, length, get_or, take, drop, Option, Some, None, option_map, ⊎_elim, refl, sym, ◌∙◌, ap, append_assoc, append-nil, arith}
use Rattle.std.proofs.lemmas.Bool.{leb-true, le-leb, cond-true, cond-false, cases_Bool}
use Rattle.std.proofs.lemmas.List.{drop_more, drop_all}
use Rattle.bib_spec.specs.Text.{Text}
use Rattle.bib_c.specs.Words.{words_of}

-- the words found, before those that follow
abbrev pub found_before : List Text → Option (List Text) → Option (List Text)
found_before found more = option_map (λ words. found ++ words) more

-- no word is found at first
pub before_all : (more : Option (List Text)) → more ≡ found_before [] more
before_all None = refl
before_all (Some words) = refl

-- one more word
pub before_next : (found : List Text) (word : Text) (more : Option (List Text))
    → found_before found (option_map (λ words. word ∷ words) more) ≡ found_before (found ++ word ∷ []) more
before_next found word None = refl
before_next found word (Some words) = ap Some (sym (append_assoc found (word ∷ []) words))

-- the words of a text that has room for the first
pub words_of-cons : (text : Text) (len : ℕ) (lens : List ℕ) → len ≤ length text
    → words_of text (len ∷ lens) ≡ option_map (λ words. take len text ∷ words) (words_of (drop len text) lens)
words_of-cons text len lens within = cond-true (nat_le len (length text)) _ _ (le-leb len (length text) within)

-- a text that has no room for the first word
pub words_of-short : (text : Text) (len : ℕ) (lens : List ℕ) → length text < len → words_of text (len ∷ lens) ≡ None
words_of-short text len lens short =
    ⊎_elim (λ t. absurd (let le = leb-true len (length text) t in omega (arith, le, short))) (λ f. cond-false (nat_le len (length text)) _ _ f) (cases_Bool (nat_le len (length text)))

-- what is left after word k
pub words_of-more : (found : List Text) (rest : Text) (lens : List ℕ) (k : ℕ) → k < length lens → get_or lens k 0 ≤ length rest
    → found_before found (words_of rest (drop k lens)) ≡ found_before (found ++ take (get_or lens k 0) rest ∷ []) (words_of (drop (get_or lens k 0) rest) (drop (k + 1) lens))
words_of-more found rest lens k more within =
    let len = get_or lens k 0 in
    ap (λ ls. found_before found (words_of rest ls)) (drop_more lens k 0 more)
    ∙ ap (found_before found) (words_of-cons rest len (drop (k + 1) lens) within)
    ∙ before_next found (take len rest) (words_of (drop len rest) (drop (k + 1) lens))

-- a text that has no room for word k
pub words_of-stops : (found : List Text) (rest : Text) (lens : List ℕ) (k : ℕ) → k < length lens → length rest < get_or lens k 0
    → found_before found (words_of rest (drop k lens)) ≡ None
words_of-stops found rest lens k more short =
    ap (λ ls. found_before found (words_of rest ls)) (drop_more lens k 0 more)
    ∙ ap (found_before found) (words_of-short rest (get_or lens k 0) (drop (k + 1) lens) short)

-- after the last word
pub words_of-all : (found : List Text) (rest : Text) (lens : List ℕ) (k : ℕ) → length lens ≤ k
    → found_before found (words_of rest (drop k lens)) ≡ Some found
words_of-all found rest lens k end =
    ap (λ ls. found_before found (words_of rest ls)) (drop_all k lens end) ∙ ap Some (append-nil found)
