-- The names of a list that are found after some of its places are passed.
use Rattle.bib_names.proofs.Words.{◌≡◌, ℕ, ◌+◌, ◌-◌, ◌≤◌, ◌<◌, true, false, cond, eqb, List, [], ◌∷◌, ◌++◌, length, take, drop, get_or, refl, sym, ap, ◌∙◌, arith, map, ◌≢◌, lit<, slice_range, list_all, eqb-true, ltb-true, ltb-false, and_parts, ltb, get_or-drop, take_all, length-drop, Text, same}
use Rattle.bib_names.proofs.Words.{is_level, places_from, between}
use Rattle.std.proofs.Common.{append_assoc}
use Rattle.std.specs.Prelude.{codes}
use Rattle.std.specs.Char.{to_ascii_lowercase}
use Rattle.std.proofs.lemmas.Bool.{ne_eqb}
use Rattle.std.proofs.lemmas.List.{get_or_past}
use Rattle.bib_spec.specs.Text.{is_space}
use Rattle.bib_text.specs.Trimming.{trimmed}
use Rattle.bib_names.specs.Places.{Stretch}
use Rattle.bib_names.specs.NameList.{is_and, is_cut, cuts, names_of}
use Rattle.bib_names.proofs.PlaceLemmas.{places_here, places_past, places_none}

abbrev pub names_between : Text → ℕ → List ℕ → List Text
names_between text start places = map (λ (s : Stretch). trimmed s.text) (between 3 text start places)

-- the names so far, and those of the rest
pub record AreNamesSoFar (text : Text) (names : List Text) (start place : ℕ) : Type 0 where
  pub near : start ≤ place + 2
  pub within : start ≤ length text
  pub space : 0 < start → is_space (get_or text start 0) ≡ true
  pub told : names ++ names_between text start (places_from (is_cut text) place (length text - place)) ≡ names_between text 0 (cuts text)

-- a byte that folds to a letter is no white space
letter_apart : (b c : ℕ) → 90 < c → eqb (to_ascii_lowercase b) c ≡ true → is_space b ≡ false
unfolding is_space
letter_apart b c high h =
    let e : to_ascii_lowercase b ≡ c = eqb-true (to_ascii_lowercase b) c h in
    let apart : (s : ℕ) → s < 65 → to_ascii_lowercase s ≡ s → b ≢ s = λ s low plain i. omega (arith, e, plain, ap to_ascii_lowercase i) in
    rw (ne_eqb b 32 (apart 32 (lit< tt) refl), ne_eqb b 9 (apart 9 (lit< tt) refl), ne_eqb b 10 (apart 10 (lit< tt) refl), ne_eqb b 13 (apart 13 (lit< tt) refl)) refl

-- none of the bytes of `and` is white space
and_apart : (text : Text) → same (take 3 text) (codes "and") ≡ true → (is_space (get_or text 0 0) ≡ false) × (is_space (get_or text 1 0) ≡ false) × (is_space (get_or text 2 0) ≡ false)
and_apart [] h = absurd (cc)
and_apart (a ∷ []) h = let p = (and_parts (eqb (to_ascii_lowercase a) 97) _ h).1 in absurd (cc)
and_apart (a ∷ b ∷ []) h = let p = (and_parts (eqb (to_ascii_lowercase b) 110) _ (and_parts (eqb (to_ascii_lowercase a) 97) _ h).1).1 in absurd (cc)
and_apart (a ∷ b ∷ c ∷ rest) h =
    let p = and_parts (eqb (to_ascii_lowercase a) 97) _ h in
    let q = and_parts (eqb (to_ascii_lowercase b) 110) _ p.1 in
    let r = and_parts (eqb (to_ascii_lowercase c) 100) _ q.1 in
    (letter_apart a 97 (lit< tt) p.0, letter_apart b 110 (lit< tt) q.0, letter_apart c 100 (lit< tt) r.0)

-- a byte that is white space is in the text
pub space_within : (text : Text) (place : ℕ) → is_space (get_or text place 0) ≡ true → place < length text
unfolding is_space
space_within text place h =
    elim (ltb place (length text)) as (λ b. ltb place (length text) ≡ b → place < length text) [
      | true ↦ λ e. ltb-true place (length text) e
      | false ↦ λ e. let past = ap is_space (get_or_past text place 0 (ltb-false place (length text) e)) in absurd (cc)
    ] refl

-- a cut
pub names_cut : (text : Text) (names : List Text) (start place : ℕ) → place < length text → AreNamesSoFar text names start place → is_cut text place ≡ true
    → (start ≤ place) × AreNamesSoFar text (names ++ trimmed (slice_range text start place) ∷ []) (place + 3) (place + 1)
names_cut text names start place lt far passes =
    let ends = and_parts _ _ (and_parts (is_level text place) (is_and text place) passes).1 in
    let after = ends.1 in
    let apart = and_apart (drop place text) (and_parts _ _ ends.0).1 in
    let next : is_space (get_or text (place + 1) 0) ≡ false = rw get_or-drop at apart.1 in
    let third : is_space (get_or text (place + 2) 0) ≡ false = rw get_or-drop at apart.2 in
    let not_next : start ≢ place + 1 = λ e. let s = far.space (omega arith) in let t = ap (λ n. is_space (get_or text n 0)) e in cc in
    let not_third : start ≢ place + 2 = λ e. let s = far.space (omega arith) in let t = ap (λ n. is_space (get_or text n 0)) e in cc in
    let here = places_here (is_cut text) place (length text) lt passes in (
      omega (arith, far.near, not_next, not_third),
      record {
        near = omega arith;
        within = omega (arith, space_within text (place + 3) after);
        space = λ _. after;
        told = append_assoc names (trimmed (slice_range text start place) ∷ []) _ ∙ ap (λ ps. names ++ names_between text start ps) (sym here) ∙ far.told;
      },
    )

-- no cut
pub names_on : (text : Text) (names : List Text) (start place : ℕ) → place < length text → AreNamesSoFar text names start place → is_cut text place ≡ false → AreNamesSoFar text names start (place + 1)
names_on text names start place lt far plain = record {
  near = omega (arith, far.near);
  within = far.within;
  space = far.space;
  told = ap (λ ps. names ++ names_between text start ps) (sym (places_past (is_cut text) place (length text) lt plain)) ∙ far.told;
}

-- the last name
pub names_end : (text : Text) (names : List Text) (start place : ℕ) → length text ≤ place → AreNamesSoFar text names start place → names ++ trimmed (slice_range text start (length text)) ∷ [] ≡ names_between text 0 (cuts text)
names_end text names start place le far =
    let rest : slice_range text start (length text) ≡ drop start text = take_all (length text - start) (drop start text) (omega (arith, length-drop start text)) in
    ap (λ (t : Text). names ++ trimmed t ∷ []) rest
    ∙ ap (λ ps. names ++ names_between text start ps) (sym (places_none (is_cut text) place (length text) le)) ∙ far.told

-- the names of a list that is not blank
pub names_of-words : (text : Text) → list_all is_space text ≡ false → names_between text 0 (cuts text) ≡ names_of text
names_of-words text words = ap (λ b. cond b [] (names_between text 0 (cuts text))) (sym words)
