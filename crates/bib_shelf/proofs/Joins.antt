-- Another file after the files of a shelf.
use Rattle.std.proofs.Common.{◌≡◌, ◌≢◌, ◌==◌, Bool, true, false, ℕ, ◌+◌, List, [], ◌∷◌, ◌++◌, length, refl, sym, ◌∙◌, ap, ap₂, arith, append_assoc, length-append, zero-add}
use Rattle.std.proofs.lemmas.Bool.{eqb-true, false≢true}
use Rattle.std.proofs.lemmas.List.{nil_from_length, same_from_push}
use Rattle.bib_store.proofs.RowTexts.{nil_cons}
use Rattle.bib_spec.specs.Text.{Text}
use Rattle.shelf_spec.specs.Shelf.{seam, shelf_text}
use Rattle.bib_shelf.specs.declared.joining.Joined.{Joined}
use Rattle.bib_shelf.specs.Joined.{spans_from, AreJoined}

-- the text of a shelf with another file after the others
shelf_text-more : (file : Text) (files : List Text) (last : Text) → shelf_text file (files ++ last ∷ []) ≡ shelf_text file files ++ (seam ++ last)
shelf_text-more file [] last = refl
shelf_text-more file (next ∷ more) last =
    let rest = shelf_text next more in
    ap (λ t. file ++ (seam ++ t)) (shelf_text-more next more last)
    ∙ sym (append_assoc file (seam ++ rest) (seam ++ last) ∙ ap (λ t. file ++ t) (append_assoc seam rest (seam ++ last)))

-- the spans of a shelf with another file after the others
spans_from-more : (at : ℕ) (file : Text) (files : List Text) (last : Text) →
    spans_from at (file ∷ (files ++ last ∷ [])) ≡ spans_from at (file ∷ files) ++ ((at + length (shelf_text file files)) + length seam, ((at + length (shelf_text file files)) + length seam) + length last) ∷ []
spans_from-more at file [] last = refl
spans_from-more at file (next ∷ more) last =
    ap (λ l. (at, at + length file) ∷ l) (spans_from-more ((at + length file) + length seam) next more last)
    ∙ ap (λ n. (at, at + length file) ∷ (spans_from ((at + length file) + length seam) (next ∷ more) ++ (n, n + length last) ∷ [])) start
  where
    start : ((((at + length file) + length seam) + length (shelf_text next more)) + length seam) ≡ (at + length (file ++ (seam ++ shelf_text next more))) + length seam
    start = regroup (length file) (length seam) (length (shelf_text next more))
        ∙ ap (λ n. (at + n) + length seam) (sym (length-append file (seam ++ shelf_text next more) ∙ ap (λ n. length file + n) (length-append seam (shelf_text next more))))
      where
        regroup : (a b c : ℕ) → (((at + a) + b) + c) + b ≡ (at + (a + (b + c))) + b
        regroup a b c = omega arith

-- the first file
pub joined_first : (files : List Text) (file : Text) (old new : Joined) → AreJoined files old → old.spans ≡ [] →
    new.text ≡ old.text ++ file → new.spans ≡ (length old.text, length (old.text ++ file)) ∷ [] → AreJoined (files ++ file ∷ []) new
joined_first [] file old new joined none text spans = record {
  text = text ∙ ap (λ t. t ++ file) joined.text;
  spans = spans ∙ ap₂ (λ a b. (a, b) ∷ []) (ap length joined.text) (ap (λ t. length (t ++ file)) joined.text ∙ sym (zero-add (length file)));
}
joined_first (first ∷ more) file old new joined none text spans =
    absurd (nil_cons (0, 0 + length first) (spans_from ((0 + length first) + length seam) more) (sym none ∙ joined.spans))

-- a file behind a seam: `text` is the old text with a seam after it
pub joined_more : (files : List Text) (file text : Text) (old new : Joined) → AreJoined files old → old.spans ≢ [] → text ≡ old.text ++ seam →
    new.text ≡ text ++ file → new.spans ≡ old.spans ++ (length text, length (text ++ file)) ∷ [] → AreJoined (files ++ file ∷ []) new
joined_more [] file text old new joined some seamed text_is spans_are = absurd (some joined.spans)
joined_more (first ∷ more) file text old new joined some seamed text_is spans_are = record {
  text = text_is ∙ ap (λ t. t ++ file) (seamed ∙ ap (λ t. t ++ seam) joined.text) ∙ append_assoc (shelf_text first more) seam file ∙ sym (shelf_text-more first more file);
  spans = spans_are ∙ ap₂ (λ l p. l ++ p ∷ []) joined.spans (ap₂ (λ a b. let p : ℕ × ℕ = (a, b) in p) start (length-append text file ∙ ap (λ n. n + length file) start))
      ∙ sym (spans_from-more 0 first more file);
}
  where
    start : length text ≡ (0 + length (shelf_text first more)) + length seam
    start = ap length seamed ∙ length-append old.text seam ∙ ap (λ t. length t + length seam) joined.text ∙ ap (λ n. n + length seam) (sym (zero-add (length (shelf_text first more))))

-- ---- more bytes at the end of the last file

-- the last file with more bytes: `spans` are those of the files before it, and it begins at `start`
pub joined_longer : (files : List Text) (last bytes : Text) (spans : List (ℕ × ℕ)) (start end : ℕ) (old new : Joined) → AreJoined (files ++ last ∷ []) old →
    old.spans ≡ spans ++ (start, end) ∷ [] → new.text ≡ old.text ++ bytes → new.spans ≡ spans ++ (start, length (old.text ++ bytes)) ∷ [] →
    AreJoined (files ++ (last ++ bytes) ∷ []) new
joined_longer [] last bytes spans start end old new are before text after =
    let same : (spans ≡ []) × ((let p : ℕ × ℕ = (start, end) in p) ≡ (0, 0 + length last)) = same_from_push spans [] (start, end) (0, 0 + length last) (sym before ∙ are.spans) in
    let ends : length (old.text ++ bytes) ≡ 0 + length (last ++ bytes) = ap (λ t. length (t ++ bytes)) are.text ∙ sym (zero-add (length (last ++ bytes))) in
    record {
      text = text ∙ ap (λ t. t ++ bytes) are.text;
      spans = after ∙ ap₂ (λ (l : List (ℕ × ℕ)) (p : ℕ × ℕ). l ++ p ∷ []) same.0 (ap₂ (λ a b. let p : ℕ × ℕ = (a, b) in p) (ap (λ (p : ℕ × ℕ). p.0) same.1) ends);
    }
joined_longer (first ∷ more) last bytes spans start end old new are before text after =
    let at : ℕ = (0 + length (shelf_text first more)) + length seam in
    let same : (spans ≡ spans_from 0 (first ∷ more)) × ((let p : ℕ × ℕ = (start, end) in p) ≡ (at, at + length last)) =
    same_from_push spans (spans_from 0 (first ∷ more)) (start, end) (at, at + length last) (sym before ∙ are.spans ∙ spans_from-more 0 first more last) in
    let whole : old.text ++ bytes ≡ shelf_text first more ++ (seam ++ (last ++ bytes)) =
    ap (λ t. t ++ bytes) (are.text ∙ shelf_text-more first more last) ∙ append_assoc (shelf_text first more) (seam ++ last) bytes
    ∙ ap (λ t. shelf_text first more ++ t) (append_assoc seam last bytes) in
    let ends : length (old.text ++ bytes) ≡ at + length (last ++ bytes) =
    ap length whole ∙ length-append (shelf_text first more) (seam ++ (last ++ bytes)) ∙ ap (λ n. length (shelf_text first more) + n) (length-append seam (last ++ bytes))
    ∙ regroup (length (shelf_text first more)) (length seam) (length (last ++ bytes)) in
    record {
      text = text ∙ whole ∙ sym (shelf_text-more first more (last ++ bytes));
      spans = after ∙ ap₂ (λ (l : List (ℕ × ℕ)) (p : ℕ × ℕ). l ++ p ∷ []) same.0 (ap₂ (λ a b. let p : ℕ × ℕ = (a, b) in p) (ap (λ (p : ℕ × ℕ). p.0) same.1) ends)
          ∙ sym (spans_from-more 0 first more (last ++ bytes));
    }
  where
    regroup : (a b c : ℕ) → a + (b + c) ≡ ((0 + a) + b) + c
    regroup a b c = omega arith

-- the spans that were tested
pub not_empty : (spans list : List (ℕ × ℕ)) (test : Bool) → test ≡ (length list == 0) → test ≡ false → list ≡ spans → spans ≢ []
not_empty spans list test is other same none = false≢true (sym other ∙ is ∙ ap (λ (l : List (ℕ × ℕ)). length l == 0) (same ∙ none))

pub empty : (spans list : List (ℕ × ℕ)) (test : Bool) → test ≡ (length list == 0) → test ≡ true → list ≡ spans → spans ≡ []
empty spans list test is yes_it same = sym same ∙ nil_from_length list (eqb-true (length list) 0 (sym is ∙ yes_it))
