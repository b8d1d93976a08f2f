-- The letters of a group.
use Rattle.bib_names.proofs.Words.{◌≡◌, ℕ, ◌+◌, ◌≤◌, ◌<◌, Bool, true, false, cond, eqb, length, get_or, refl, sym, ap, ◌∙◌, arith, eqb-true, eq-eqb, and_parts, false≢true, Text, opened_before, closed_before, is_level}
use Rattle.bib_names.proofs.BraceLemmas.{one_if, opened_more, closed_more}
use Rattle.bib_names.proofs.PlaceLemmas.{places_here, places_past}
use Rattle.bibtex_names.specs.Letters.{is_letter}
use Rattle.bibtex_names.specs.Reading.{letters_from, IsFirstLetter}
use Rattle.bibtex_names.specs.Template.{is_letter_at}

-- a letter is no brace
no_brace : (brace byte : ℕ) → is_letter brace ≡ false → is_letter byte ≡ true → one_if brace byte ≡ 0
no_brace brace byte none letter = go (eqb byte brace) refl
  where
    go : (b : Bool) → eqb byte brace ≡ b → ◌≡◌ {A = ℕ} (cond b 1 0) 0
    go true e = absurd (false≢true (sym none ∙ ap is_letter (sym (eqb-true byte brace e)) ∙ letter))
    go false e = refl

-- after a letter at depth 0 the depth is 0
level_after : (text : Text) (place : ℕ) → place < length text → is_level text place ≡ true → is_letter (get_or text place 0) ≡ true → is_level text (place + 1) ≡ true
level_after text place lt level letter =
    let here = eqb-true (opened_before text place) (closed_before text place) level in
    let opened = opened_more text place lt in
    let closed = closed_more text place lt in
    eq-eqb (opened_before text (place + 1)) (closed_before text (place + 1))
    (omega (arith, opened, closed, here, no_brace 123 (get_or text place 0) refl letter, no_brace 125 (get_or text place 0) refl letter))

-- no letter is between start and place
pub record NoLetterYet (text : Text) (start place : ℕ) : Type 0 where
  pub same : letters_from text place ≡ letters_from text start

pub letter_found : (text : Text) (start place : ℕ) → start ≤ place → place < length text → NoLetterYet text start place → is_letter_at text place ≡ true → IsFirstLetter text start place
letter_found text start place after lt far passes =
    let parts = and_parts (is_level text place) (is_letter (get_or text place 0)) passes in
    record {
      after = after;
      within = lt;
      level = level_after text place lt parts.0 parts.1;
      first = sym far.same ∙ places_here (is_letter_at text) place (length text) lt passes;
    }

pub letter_on : (text : Text) (start place : ℕ) → place < length text → NoLetterYet text start place → is_letter_at text place ≡ false → NoLetterYet text start (place + 1)
letter_on text start place lt far fails = record { same = sym (places_past (is_letter_at text) place (length text) lt fails) ∙ far.same }
