-- The words of a group, printed one after another.
use Rattle.bib_names.proofs.Words.{◌≡◌, ◌∙◌, ℕ, ◌+◌, ◌≤◌, ◌<◌, Bool, true, false, eqb, List, [], ◌∷◌, ◌++◌, length, drop, get_or, refl, sym, ap, arith, drop_all, length-drop, eqb-true, eq-eqb, Text, NameWord, shown, joined, printed_words, Group}
use Rattle.std.proofs.lemmas.List.{drop_more}
use Rattle.std.proofs.lemmas.Bool.{eqb-false, ne_eqb}

two_left : (words : List NameWord) (n : ℕ) (word next : NameWord) → n + 1 < length words → word ≡ get_or words n word → next ≡ get_or words (n + 1) next → drop n words ≡ word ∷ (next ∷ drop (n + 2) words)
two_left words n word next within is also =
    let second : n + 1 + 1 ≡ n + 2 = omega arith in
    drop_more words n word (omega arith) ∙ ap (λ (w : NameWord). w ∷ drop (n + 1) words) (sym is)
    ∙ ap (λ (ws : List NameWord). word ∷ ws)
    (drop_more words (n + 1) next within ∙ ap (λ (w : NameWord). w ∷ drop (n + 1 + 1) words) (sym also) ∙ ap (λ k. next ∷ drop k words) second)

-- whether a word is the last, from either end
last_is : (words : List NameWord) (n : ℕ) → n + 1 < length words → eqb (length (drop (n + 2) words)) 0 ≡ eqb (n + 2) (length words)
last_is words n within = by_end (eqb (n + 2) (length words)) refl
  where
    by_end : (b : Bool) → eqb (n + 2) (length words) ≡ b → eqb (length (drop (n + 2) words)) 0 ≡ b
    by_end true e = eq-eqb (length (drop (n + 2) words)) 0 (omega (arith, length-drop (n + 2) words, eqb-true (n + 2) (length words) e))
    by_end false e =
        let more = eqb-false (n + 2) (length words) e in
        ne_eqb (length (drop (n + 2) words)) 0 (λ none. absurd (omega (arith, length-drop (n + 2) words, none, within, more)))

-- a word, and what is between it and the next
pub word_then : (g : Group) (out out1 out2 : Text) (words : List NameWord) (n : ℕ) (word next : NameWord) (text : Text) (last : Bool) → n + 1 < length words
    → word ≡ get_or words n word → next ≡ get_or words (n + 1) next → text ≡ shown g.form word.text → out1 ≡ out ++ text → last ≡ eqb (n + 2) (length words)
    → out2 ≡ joined g out1 text next.sep last → printed_words g out2 (drop (n + 1) words) ≡ printed_words g out (drop n words)
word_then g out out1 out2 words n word next text last within is also text_is out1_is last_told out2_is =
    let second : n + 1 + 1 ≡ n + 2 = omega arith in
    let rest : drop (n + 1) words ≡ next ∷ drop (n + 2) words =
    drop_more words (n + 1) next within ∙ ap (λ (w : NameWord). w ∷ drop (n + 1 + 1) words) (sym also) ∙ ap (λ k. next ∷ drop k words) second in
    let between : out2 ≡ joined g (out ++ shown g.form word.text) (shown g.form word.text) next.sep (eqb (length (drop (n + 2) words)) 0) =
    out2_is ∙ ap (λ (b : Bool). joined g out1 text next.sep b) (last_told ∙ sym (last_is words n within))
    ∙ ap (λ (o : Text). joined g o text next.sep (eqb (length (drop (n + 2) words)) 0)) out1_is
    ∙ ap (λ (t : Text). joined g (out ++ t) t next.sep (eqb (length (drop (n + 2) words)) 0)) text_is in
    ap (printed_words g out2) rest ∙ ap (λ (o : Text). printed_words g o (next ∷ drop (n + 2) words)) between
    ∙ sym (ap (printed_words g out) (two_left words n word next within is also))

-- the last word
pub word_last : (g : Group) (out out1 : Text) (words : List NameWord) (n : ℕ) (word : NameWord) (text : Text) → n < length words → length words ≤ n + 1
    → word ≡ get_or words n word → text ≡ shown g.form word.text → out1 ≡ out ++ text → printed_words g out1 (drop (n + 1) words) ≡ printed_words g out (drop n words)
word_last g out out1 words n word text within end is text_is out1_is =
    let none : drop (n + 1) words ≡ [] = drop_all (n + 1) words end in
    let rest : drop n words ≡ word ∷ [] = drop_more words n word within ∙ ap (λ (w : NameWord). w ∷ drop (n + 1) words) (sym is) ∙ ap (λ (ws : List NameWord). word ∷ ws) none in
    ap (printed_words g out1) none ∙ out1_is ∙ ap (λ (t : Text). out ++ t) text_is ∙ sym (ap (printed_words g out) rest)
