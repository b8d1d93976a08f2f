-- The commas of a name.
use Rattle.bib_names.proofs.Words.{◌≡◌, ℕ, ◌+◌, ◌-◌, ◌≤◌, ◌<◌, true, false, eqb, List, [], ◌∷◌, length, get_or, refl, sym, ap, ◌∙◌, arith, eqb-true, eq-eqb, and_parts, IfSome, Text, opened_before, closed_before, is_level, places_from, between, Name}
use Rattle.std.specs.Prelude.{Option, Some, None, is_some}
use Rattle.bib_names.specs.FirstComma.{commas_from, IsFirstComma}
use Rattle.bib_names.specs.Name.{is_comma, commas, parts_of_bare, parts_of_pieces}
use Rattle.bib_names.proofs.BraceLemmas.{one_if, opened_more, closed_more}
use Rattle.bib_names.proofs.PlaceLemmas.{places_here, places_past}

pub commas_whole : (text : Text) → commas text ≡ commas_from text 0
commas_whole text = let whole : length text ≡ length text - 0 = omega arith in ap (places_from (is_comma text) 0) whole

-- after a comma at depth 0 the depth is 0
pub level_after : (text : Text) (place : ℕ) → place < length text → is_level text place ≡ true → get_or text place 0 ≡ 44 → is_level text (place + 1) ≡ true
level_after text place lt level is =
    let here = eqb-true (opened_before text place) (closed_before text place) level in
    let opened = opened_more text place lt ∙ ap (λ b. opened_before text place + one_if 123 b) is in
    let closed = closed_more text place lt ∙ ap (λ b. closed_before text place + one_if 125 b) is in
    eq-eqb (opened_before text (place + 1)) (closed_before text (place + 1)) (omega (arith, opened, closed, here))

-- no comma is between start and place
pub record NoCommaYet (text : Text) (start place : ℕ) : Type 0 where
  pub same : commas_from text place ≡ commas_from text start

pub comma_found : (text : Text) (start place : ℕ) → start ≤ place → place < length text → NoCommaYet text start place → is_comma text place ≡ true → IsFirstComma text start place
comma_found text start place after lt far passes =
    let parts = and_parts (is_level text place) (eqb (get_or text place 0) 44) passes in
    record {
      after = after;
      within = lt;
      level = level_after text place lt parts.0 (eqb-true (get_or text place 0) 44 parts.1);
      first = sym far.same ∙ places_here (is_comma text) place (length text) lt passes;
    }

pub comma_on : (text : Text) (start place : ℕ) → place < length text → NoCommaYet text start place → is_comma text place ≡ false → NoCommaYet text start (place + 1)
comma_on text start place lt far fails = record { same = sym (places_past (is_comma text) place (length text) lt fails) ∙ far.same }

-- ---- the pieces between commas

-- two commas
pub commas_two : (bare : Text) (one two : ℕ) → IsFirstComma bare 0 one → IsFirstComma bare (one + 1) two → commas bare ≡ one ∷ two ∷ commas_from bare (two + 1)
commas_two bare one two first second = commas_whole bare ∙ first.first ∙ ap (λ ps. one ∷ ps) second.first

-- with more commas there are no parts
too_many : (bare : Text) (ps : List ℕ) → 2 < length ps → parts_of_pieces (between 1 bare 0 ps) ≡ None
too_many bare [] h = absurd (omega arith)
too_many bare (a ∷ []) h = absurd (omega arith)
too_many bare (a ∷ b ∷ []) h = absurd (omega arith)
too_many bare (a ∷ b ∷ c ∷ []) h = refl
too_many bare (a ∷ b ∷ c ∷ d ∷ ds) h = refl

pub parts_of_many : (bare : Text) → 2 < length (commas bare) → parts_of_bare bare ≡ None
parts_of_many bare h = too_many bare (commas bare) h

pub parts_of_more : (bare : Text) (one two : ℕ) (third : Option ℕ) → IsFirstComma bare 0 one → IsFirstComma bare (one + 1) two → is_some third ≡ true → IfSome third (IsFirstComma bare (two + 1)) → parts_of_bare bare ≡ None
parts_of_more bare one two None first second some more = absurd (cc)
parts_of_more bare one two (Some three) first second some more =
    let all = ap length (commas_two bare one two first second ∙ ap (λ ps. one ∷ two ∷ ps) more.first) in
    parts_of_many bare (omega (arith, all))

few_pieces : (bare : Text) (ps : List ℕ) (name : Name) → parts_of_pieces (between 1 bare 0 ps) ≡ Some name → length ps ≤ 2
few_pieces bare [] name is = omega arith
few_pieces bare (a ∷ []) name is = omega arith
few_pieces bare (a ∷ b ∷ []) name is = omega arith
few_pieces bare (a ∷ b ∷ c ∷ ps) name is = let none = too_many bare (a ∷ b ∷ c ∷ ps) (omega arith) in absurd (cc)

-- a name with parts has at most two commas, and one without has more
pub few_commas : (bare : Text) (name : Name) → parts_of_bare bare ≡ Some name → length (commas bare) ≤ 2
few_commas bare name is = few_pieces bare (commas bare) name is

many_pieces : (bare : Text) (ps : List ℕ) → parts_of_pieces (between 1 bare 0 ps) ≡ None → 2 < length ps
many_pieces bare [] is = absurd (cc)
many_pieces bare (a ∷ []) is = absurd (cc)
many_pieces bare (a ∷ b ∷ []) is = absurd (cc)
many_pieces bare (a ∷ b ∷ c ∷ ps) is = omega arith

pub many_commas : (bare : Text) → parts_of_bare bare ≡ None → 2 < length (commas bare)
many_commas bare is = many_pieces bare (commas bare) is
