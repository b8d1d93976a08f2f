-- Keys and crossref texts that are those of entries.
use Rattle.std.proofs.Common.{◌≡◌, ◌∙◌, ℕ, zero, suc, ◌+◌, ◌<◌, ◌≤◌, Bool, true, false, cond, List, [], ◌∷◌, Some, None, option_and_then, slice_get, length, refl, sym, ap, subst, arith, ⊎_elim}
use Rattle.std.specs.List.{prefix_len}
use Rattle.std.specs.Option.{option_copied}
use Rattle.std.proofs.lemmas.Option.{none-some, same_Some, slice_get_cases}
use Rattle.bib_spec.specs.Records.{EntryTexts, crossref_text}
use Rattle.bibtex_places.specs.declared.lists.EntryKey.{EntryKey}
use Rattle.bibtex_places.specs.Lists.{IsKeyOf, AreKeysOf}

-- what is given of entry n is that entry's
pub given_at : (given : List EntryKey) (texts : List EntryTexts) → AreKeysOf given texts → (n : ℕ) (g : EntryKey) → slice_get given n ≡ Some g → (entry : EntryTexts) × (slice_get texts n ≡ Some entry) × IsKeyOf g entry
given_at [] [] are n g at = absurd (none-some g at)
given_at [] (entry ∷ texts) are n g at = absurd are
given_at (one ∷ given) [] are n g at = absurd are
given_at (one ∷ given) (entry ∷ texts) are zero g at = (entry, refl, subst (λ (k : EntryKey). IsKeyOf k entry) (same_Some one g at) are.0)
given_at (one ∷ given) (entry ∷ texts) are (suc n) g at = given_at given texts are.1 n g at

pub given_past : (given : List EntryKey) (texts : List EntryTexts) → AreKeysOf given texts → (n : ℕ) → slice_get given n ≡ None → slice_get texts n ≡ None
given_past [] [] are n at = refl
given_past [] (entry ∷ texts) are n at = absurd are
given_past (one ∷ given) [] are n at = absurd are
given_past (one ∷ given) (entry ∷ texts) are zero at = absurd (none-some one (sym at))
given_past (one ∷ given) (entry ∷ texts) are (suc n) at = given_past given texts are.1 n at

pub given_long : (given : List EntryKey) (texts : List EntryTexts) → AreKeysOf given texts → length given ≡ length texts
given_long [] [] are = refl
given_long [] (entry ∷ texts) are = absurd are
given_long (one ∷ given) [] are = absurd are
given_long (one ∷ given) (entry ∷ texts) are = ap suc (given_long given texts are.1)

-- the crossref text of entry n
pub crossref_some : (given : List EntryKey) (texts : List EntryTexts) (n : ℕ) (g : EntryKey) → slice_get given n ≡ Some g → AreKeysOf given texts → option_copied g.crossref ≡ option_and_then crossref_text (slice_get texts n)
crossref_some given texts n g at are =
    let entry = given_at given texts are n g at in
    sym entry.2.crossref ∙ ap (option_and_then crossref_text) (sym entry.1)

pub crossref_none : (given : List EntryKey) (texts : List EntryTexts) (n : ℕ) → slice_get given n ≡ None → AreKeysOf given texts → None ≡ option_and_then crossref_text (slice_get texts n)
crossref_none given texts n at are = ap (option_and_then crossref_text) (sym (given_past given texts are n at))

pub prefix_within : {X : Type 0} (p : X → Bool) (xs : List X) → prefix_len p xs ≤ length xs
prefix_within p [] = omega arith
prefix_within {X} p (x ∷ xs) = at (p x) (prefix_within p xs)
  where
    at : (b : Bool) → prefix_len p xs ≤ length xs → cond b (1 + prefix_len p xs) 0 ≤ suc (length xs)
    at true le = omega (arith, le)
    at false le = omega arith

-- what is within a list is there
pub is_there : {X : Type 0} (xs : List X) (n : ℕ) → n < length xs → slice_get xs n ≡ None → ⊥
is_there xs n lt none = ⊎_elim
    (λ found. none-some found.0 (sym none ∙ found.2))
    (λ past. let le = past.0 in omega (arith, le, lt))
    (slice_get_cases xs n).1
