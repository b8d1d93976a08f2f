-- One entry is read: the cases.
use Rattle.std.proofs.Common.{◌≡◌, ◌∙◌, ℕ, suc, ◌+◌, Bool, true, cond, List, [], ◌∷◌, ◌++◌, Option, Some, None, is_some, refl, sym, ap, subst, arith}
use Rattle.std.specs.List.{list_any}
use Rattle.std.specs.Option.{option_map_or}
use Rattle.bib_spec.specs.Text.{Text}
use Rattle.bib_spec.specs.Records.{EntryTexts, crossref_text}
use Rattle.bibtex_spec.specs.Places.{Place, has_key, is_awaited, taken, named, named_in, read_entry, added_place, read_any}
use Rattle.bibtex_spec.specs.Listed.{place_with}
use Rattle.bibtex_places.specs.Steps.{awaiting, CountsAtMost}
use Rattle.bibtex_places.proofs.PlaceLists.{any_place, awaited_is, counts_held, counts_more, counts_named}

module _ (entry : EntryTexts) (n : ℕ) (places : List Place) (key : Text) (keyed : entry.key ≡ key) where
  awaited : (o : Option ℕ) → awaiting key places ≡ o → is_awaited entry.key places ≡ is_some o
  awaited o e = ap (λ (t : Text). is_awaited t places) keyed ∙ awaited_is key places ∙ ap is_some e

  pub read_kept : awaiting key places ≡ None → places ≡ read_entry entry n places
  read_kept e = sym (ap (λ b. cond b (named_in entry (taken entry n places)) places) (awaited None e))

  pub read_taken : (i : ℕ) → awaiting key places ≡ Some i → crossref_text entry ≡ None → taken entry n places ≡ read_entry entry n places
  read_taken i e none =
      sym (
      ap (λ b. cond b (named_in entry (taken entry n places)) places) (awaited (Some i) e)
      ∙ ap (λ o. option_map_or (λ text. named text (taken entry n places)) o (taken entry n places)) none)

  pub read_named : (i : ℕ) (text : Text) → awaiting key places ≡ Some i → crossref_text entry ≡ Some text → named text (taken entry n places) ≡ read_entry entry n places
  read_named i text e some =
      sym (
      ap (λ b. cond b (named_in entry (taken entry n places)) places) (awaited (Some i) e)
      ∙ ap (λ o. option_map_or (λ text. named text (taken entry n places)) o (taken entry n places)) some)

  abbrev any_by : List Text → Bool → Bool → List Place
  any_by cited there awaits = cond there (cond awaits (taken entry n places) places) (places ++ added_place cited entry n ∷ [])

  there : (o : Option ℕ) → place_with key places ≡ o → list_any (has_key entry.key) places ≡ is_some o
  there o e = ap (λ (t : Text). list_any (has_key t) places) keyed ∙ any_place key places ∙ ap is_some e

  pub any_new : (cited : List Text) → place_with key places ≡ None → places ++ added_place cited entry n ∷ [] ≡ read_any cited entry n places
  any_new cited e = sym (ap (λ b. any_by cited b (is_awaited entry.key places)) (there None e))

  pub any_held : (cited : List Text) (i : ℕ) → place_with key places ≡ Some i → awaiting key places ≡ None → places ≡ read_any cited entry n places
  any_held cited i e held = sym (ap (λ b. any_by cited b (is_awaited entry.key places)) (there (Some i) e) ∙ ap (λ b. any_by cited true b) (awaited None held))

  pub any_taken : (cited : List Text) (i : ℕ) → place_with key places ≡ Some i → awaiting key places ≡ Some i → taken entry n places ≡ read_any cited entry n places
  any_taken cited i e empty = sym (ap (λ b. any_by cited b (is_awaited entry.key places)) (there (Some i) e) ∙ ap (λ b. any_by cited true b) (awaited (Some i) empty))

-- ---- counts

pub counts_one : (n : ℕ) (places : List Place) → CountsAtMost n places → CountsAtMost (n + 1) places
counts_one n places all = let e : suc n ≡ n + 1 = omega arith in subst (λ (m : ℕ). CountsAtMost m places) e (counts_more n places all)

pub counts_one_named : (n : ℕ) (key : Text) (places : List Place) → CountsAtMost n places → CountsAtMost (n + 1) (named key places)
counts_one_named n key places all = let e : suc n ≡ n + 1 = omega arith in subst (λ (m : ℕ). CountsAtMost m (named key places)) e (counts_named n key places all)

-- an entry with this key, to speak of what holding it does
abbrev keyed_only : Text → EntryTexts
keyed_only key = record { kind = []; key = key; fields = [] }

pub counts_of_held : (m n : ℕ) (key : Text) (places held : List Place) → ((entry : EntryTexts) → entry.key ≡ key → held ≡ taken entry n places) → CountsAtMost m places → CountsAtMost m held
counts_of_held m n key places held is all = subst (λ (ps : List Place). CountsAtMost m ps) (sym (is (keyed_only key) refl)) (counts_held m (keyed_only key) n places all)
