-- When a value of RIS would be read as another name than it says.
use Rattle.ris_format.proofs.Words.{◌≡◌, ℕ, ◌+◌, ◌≤◌, ◌<◌, true, false, ◌||◌, ltb, length, sym, ap, ◌∙◌, arith, or_left, lt-ltb, le-ltb, length-map, Text, trimmed, names_of, commas, pieces_from, name_pieces, is_opaque}
use Rattle.std.proofs.Common.{List}
use Rattle.ris_format.proofs.NameScans.{commas-count}
use Rattle.ris_format.proofs.PeopleLaws.{name-pieces_are}

-- there is one piece more than commas
pub length-name_pieces : (value : Text) → length (name_pieces value) ≡ 1 + length (commas value)
length-name_pieces value = ap (λ (ps : List Text). length ps) (name-pieces_are value) ∙ length-map (pieces_from 0 0 value) trimmed ∙ commas-count value

pub opaque-many : (value : Text) (pieces : ℕ) → pieces ≡ length (name_pieces value) → 3 < pieces → true ≡ is_opaque value
opaque-many value pieces is many =
    sym (or_left (ltb 2 (length (commas value))) _ (lt-ltb 2 (length (commas value)) (omega (arith, is, many, length-name_pieces value))))

pub opaque-few : (value : Text) (pieces names : ℕ) → pieces ≡ length (name_pieces value) → pieces ≤ 3 → names ≡ length (names_of value) → ltb 1 names ≡ is_opaque value
opaque-few value pieces names is few count =
    let none : ltb 2 (length (commas value)) ≡ false = le-ltb 2 (length (commas value)) (omega (arith, is, few, length-name_pieces value)) in
    ap (ltb 1) count ∙ sym (ap (λ b. b || ltb 1 (length (names_of value))) none)
