-- The place that a crossref text names, case by case.
use Rattle.std.proofs.Common.{◌≡◌, ◌∙◌, ℕ, Bool, true, false, cond, not, ◌&&◌, List, Option, Some, None, is_some, option_and_then, refl, sym, ap}
use Rattle.std.specs.List.{list_any}
use Rattle.bib_spec.specs.Text.{Text, same}
use Rattle.bib_spec.specs.Records.{EntryTexts, keys_of}
use Rattle.bibtex_spec.specs.Places.{Place, are_all_cited, cited_keys}
use Rattle.bibtex_spec.specs.Listed.{first_same, place_with, is_missing, within, place_named}
use Rattle.bibtex_places.proofs.Keys.{any_first}

module _ (entries : List EntryTexts) (keys : List Text) (places : List Place) (text : Text) where
  abbrev by : Bool → Bool → Bool → Option ℕ
  by all missing cited = cond (all && missing && cited) (option_and_then (within places) (first_same text (cited_keys keys))) (place_with text places)

  pub named_some_cited : are_all_cited keys ≡ false → place_with text places ≡ place_named entries keys places text
  named_some_cited e = sym (ap (λ b. by b (is_missing entries text) (list_any (same text) (cited_keys keys))) e)

  pub named_known : is_some (first_same text (keys_of entries)) ≡ true → place_with text places ≡ place_named entries keys places text
  named_known e = sym (ap (λ b. by (are_all_cited keys) (not b) (list_any (same text) (cited_keys keys))) (any_first text (keys_of entries) ∙ e) ∙ at (are_all_cited keys))
    where
      at : (b : Bool) → by b false (list_any (same text) (cited_keys keys)) ≡ place_with text places
      at true = refl
      at false = refl

  pub named_uncited : first_same text (cited_keys keys) ≡ None → place_with text places ≡ place_named entries keys places text
  named_uncited e =
      sym (ap (λ b. by (are_all_cited keys) (is_missing entries text) b) (any_first text (cited_keys keys) ∙ ap (λ (o : Option ℕ). is_some o) e) ∙ at (are_all_cited keys) (is_missing entries text))
    where
      at : (b c : Bool) → by b c false ≡ place_with text places
      at true true = refl
      at true false = refl
      at false c = refl

  pub named_missing : (n : ℕ) → are_all_cited keys ≡ true → is_some (first_same text (keys_of entries)) ≡ false → first_same text (cited_keys keys) ≡ Some n → within places n ≡ place_named entries keys places text
  named_missing n all missing e =
      sym (
      ap (λ b. by b (is_missing entries text) (list_any (same text) (cited_keys keys))) all
      ∙ ap (λ b. by true (not b) (list_any (same text) (cited_keys keys))) (any_first text (keys_of entries) ∙ missing)
      ∙ ap (λ b. by true true b) (any_first text (cited_keys keys) ∙ ap (λ (o : Option ℕ). is_some o) e)
      ∙ ap (option_and_then (within places)) e)
