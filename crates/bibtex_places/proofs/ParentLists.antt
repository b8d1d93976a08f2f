-- The parent places of all places.
use Rattle.std.proofs.Common.{◌≡◌, ◌∙◌, ℕ, ◌+◌, ◌<◌, ◌≤◌, List, [], ◌∷◌, ◌++◌, Option, Some, None, option_map, option_and_then, slice_get, get_or, length, take, map, refl, sym, ap}
use Rattle.std.proofs.lemmas.List.{map_push, take_all}
use Rattle.std.proofs.lemmas.Option.{slice_get-map, slice_get_read}
use Rattle.bib_spec.specs.Text.{Text}
use Rattle.bib_spec.specs.Records.{EntryTexts, crossref_text}
use Rattle.bibtex_spec.specs.Places.{Place}
use Rattle.bibtex_spec.specs.Listed.{place_named}
use Rattle.bibtex_places.specs.declared.place.Place as kept
use Rattle.bibtex_places.specs.Seen.{seen}
use Rattle.bibtex_places.specs.Parents.{parent_in, AreParents}
use Rattle.bibtex_places.proofs.ListedEntries.{take_next}

-- the parent place of a place
abbrev pub parent_of : List EntryTexts → List Text → List Place → Place → Option ℕ
parent_of entries keys places place = option_and_then (place_named entries keys places) (option_and_then crossref_text (option_and_then (slice_get entries) place.entry))

pub parents_are : (entries : List EntryTexts) (keys : List Text) (places : List Place) (parents : List (Option ℕ)) → parents ≡ map (parent_of entries keys places) places → AreParents entries keys places parents
parents_are entries keys places parents is i =
    ap (λ l. parent_in l i) is ∙ ap (option_and_then (λ parent. parent)) (slice_get-map (parent_of entries keys places) places i) ∙ at (slice_get places i)
  where
    at : (o : Option Place) → option_and_then (λ parent. parent) (option_map (parent_of entries keys places) o)
        ≡ option_and_then (place_named entries keys places) (option_and_then crossref_text (option_and_then (slice_get entries) (option_and_then (λ place. place.entry) o)))
    at None = refl
    at (Some place) = refl

-- the place that is seen of one that is kept
pub seen_at : (ps : List kept.Place) (places : List Place) (i : ℕ) (p : kept.Place) → map seen ps ≡ places → i < length ps → p ≡ get_or ps i p → slice_get places i ≡ Some (seen p)
seen_at ps places i p are lt is = ap (λ l. slice_get l i) (sym are) ∙ slice_get-map seen ps i ∙ ap (option_map seen) (slice_get_read ps (length ps) i p refl lt is)

-- one more place of which the parent is found
pub parents_next : (f : Place → Option ℕ) (places : List Place) (i : ℕ) (place : Place) (parents more : List (Option ℕ)) (o : Option ℕ) → slice_get places i ≡ Some place → parents ≡ map f (take i places) → o ≡ f place
    → more ≡ parents ++ o ∷ [] → more ≡ map f (take (i + 1) places)
parents_next f places i place parents more o at so_far is pushed =
    pushed
    ∙ ap (λ l. l ++ o ∷ []) so_far
    ∙ ap (λ q. map f (take i places) ++ q ∷ []) is
    ∙ sym (ap (map f) (take_next places i place at) ∙ map_push f (take i places) place)

pub parents_all : (f : Place → Option ℕ) (places : List Place) (i : ℕ) (parents : List (Option ℕ)) → parents ≡ map f (take i places) → length places ≤ i → parents ≡ map f places
parents_all f places i parents so_far le = so_far ∙ ap (map f) (take_all i places le)

-- the same, of a place that is lent
pub seen_there : (ps : List kept.Place) (i : ℕ) (p : kept.Place) → slice_get ps i ≡ Some p → slice_get (map seen ps) i ≡ Some (seen p)
seen_there ps i p at = slice_get-map seen ps i ∙ ap (option_map seen) at
