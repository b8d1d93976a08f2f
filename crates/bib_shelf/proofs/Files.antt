-- The files in the text of a shelf.
use Rattle.std.proofs.Common.{◌≡◌, ℕ, ◌+◌, ◌-◌, ◌≤◌, Some, slice_get, List, [], ◌∷◌, ◌++◌, length, take, drop, refl, sym, ◌∙◌, ap, ap₂, arith, append_assoc, length-append, append-nil}
use Rattle.std.proofs.Math.Seq.{drop-append_seam, take-append_seam}
use Rattle.bib_spec.specs.Text.{Text}
use Rattle.shelf_spec.specs.Shelf.{seam, shelf_text}
use Rattle.bib_shelf.proofs.Opens.{file_of_span, begins_first, ends_within}
use Rattle.bib_shelf.specs.declared.joining.Joined.{Joined}
use Rattle.bib_shelf.specs.Joined.{text_of, spans_from, files_in, AreJoined, AreOfShelf}

-- the bytes of a file that begins there
file_at : (at : ℕ) (before file rest : Text) → length before ≡ at → take ((at + length file) - at) (drop at (before ++ (file ++ rest))) ≡ file
file_at at before file rest len =
    ap₂ (λ n k. take n (drop k (before ++ (file ++ rest)))) (rest_of at (length file)) (sym len)
    ∙ ap (take (length file)) (drop-append_seam before (file ++ rest))
    ∙ take-append_seam file rest
  where
    rest_of : (a b : ℕ) → (a + b) - a ≡ b
    rest_of a b = omega arith

files_after : (at : ℕ) (before : Text) (files : List Text) → length before ≡ at → files_in (spans_from at files) (before ++ text_of files) ≡ files
files_after at before [] len = refl
files_after at before (file ∷ []) len =
    ap (λ (t : Text). take ((at + length file) - at) (drop at (before ++ t)) ∷ []) (sym (append-nil file)) ∙ ap (λ (t : Text). t ∷ []) (file_at at before file [] len)
files_after at before (file ∷ (next ∷ more)) len =
    ap₂ (λ (t : Text) (l : List Text). t ∷ l) (file_at at before file (seam ++ shelf_text next more) len)
    (ap (files_in (spans_from ((at + length file) + length seam) (next ∷ more))) (sym (append_assoc (before ++ file) seam (shelf_text next more) ∙ append_assoc before file (seam ++ shelf_text next more)))
    ∙ files_after ((at + length file) + length seam) ((before ++ file) ++ seam) (next ∷ more)
    (length-append (before ++ file) seam ∙ ap (λ n. n + length seam) (length-append before file ∙ ap (λ n. n + length file) len)))

-- the files that were joined are those in the text
pub files_are_in : (files : List Text) (joined : Joined) → AreJoined files joined → files_in joined.spans joined.text ≡ files
files_are_in files joined are = ap₂ files_in are.spans are.text ∙ files_after 0 [] files refl

-- a file of a shelf begins before it ends, and ends within the text
pub file_within : (text : Text) (spans : List (ℕ × ℕ)) (i : ℕ) (s : ℕ × ℕ) → AreOfShelf text spans → slice_get spans i ≡ Some s → (s.0 ≤ s.1) × (s.1 ≤ length text)
file_within text spans i s of at =
    let it = file_of_span of.0 0 i s (ap (λ l. slice_get l i) (sym of.1.spans) ∙ at) in
    (begins_first of.0 0 i s it, ends_within of.0 (record { text = text; spans = spans }) text i s of.1 refl it)
