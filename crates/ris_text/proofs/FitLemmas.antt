-- Texts that fit a line.
use Rattle.ris_text.proofs.Words.{◌≡◌, ℕ, suc, ◌≤◌, Bool, false, [], ◌∷◌, ◌++◌, length, refl, ap, ◌∙◌, arith, list_any, and_from, not-true, take_all, bytes_eq-Decides, Text, is_space, before_run, trimmed, ends_line, fits_line}
use Rattle.std.specs.Prelude.{not, bytes_eq}
use Rattle.std.proofs.lemmas.Bool.{not_from_false}
use Rattle.std.proofs.lemmas.List.{length-append}
use Rattle.bib_spec.specs.Text.{after_run}
use Rattle.bib_text.specs.Trimming.{up_to_last}
use Rattle.ris_text.specs.Laws.{IsBare, BareTextsFit}
use Rattle.bib_text.proofs.TrimLemmas.{up_to_last-snoc-yes}

-- the last byte and those before it
last_of : (b : ℕ) (t : Text) → (front : Text) × (last : ℕ) × (b ∷ t ≡ front ++ last ∷ [])
last_of b [] = ([], b, refl)
last_of b (c ∷ t) = let rest = last_of c t in (b ∷ rest.0, rest.1, ap (λ (u : Text). b ∷ u) rest.2)

end_kept : (t front : Text) (last : ℕ) → t ≡ front ++ last ∷ [] → is_space last ≡ false → before_run is_space t ≡ t
end_kept t front last is bare =
    let kept : ℕ → Bool = λ byte. not (is_space byte) in
    let count : up_to_last kept t ≡ suc (length front) = ap (up_to_last kept) is ∙ up_to_last-snoc-yes kept front last (not_from_false (is_space last) bare) in
    let all : length t ≤ up_to_last kept t = omega (arith, count, ap length is, length-append front (last ∷ [])) in
    take_all (up_to_last kept t) t all

front_kept : (b : ℕ) (t : Text) → is_space b ≡ false → after_run is_space (b ∷ t) ≡ b ∷ t
front_kept b t bare = rw bare refl

bare_trimmed : (t : Text) → IsBare t → trimmed t ≡ t
bare_trimmed [] bare = refl
bare_trimmed (b ∷ t) bare =
    let split = last_of b t in
    ap (before_run is_space) (front_kept b t (not-true (is_space b) bare.first)) ∙ end_kept (b ∷ t) split.0 split.1 split.2 (bare.last split.0 split.1 split.2)

pub bare_texts_fit : BareTextsFit
unfolding fits_line
bare_texts_fit t one_line bare =
    and_from (not (list_any ends_line t)) (bytes_eq (trimmed t) t) (not_from_false (list_any ends_line t) one_line) ((bytes_eq-Decides (trimmed t) t).1 (bare_trimmed t bare))
