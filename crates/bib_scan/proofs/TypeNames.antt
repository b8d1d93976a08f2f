-- The bytes of a type name are bytes of a name.
use Rattle.bib_scan.proofs.Words.{◌≡◌, true, [], ◌∷◌, refl, and_parts, list_all-from_AllPass, take_while, Text, is_name_byte, is_type_byte}
use Rattle.std.specs.Cmp.Derive.{both_true}
use Rattle.std.specs.List.{list_all}
use Rattle.bib_scan.proofs.RunLaws.{run_passes}

pub are_name_bytes : (t : Text) → list_all is_type_byte t ≡ true → list_all is_name_byte t ≡ true
are_name_bytes [] all = refl
are_name_bytes (b ∷ t) all =
    let parts = and_parts (is_type_byte b) (list_all is_type_byte t) all in
    both_true (and_parts (is_name_byte b) _ parts.0).0 (are_name_bytes t parts.1)

-- the type name at the front of a text
pub type_front : (t : Text) → list_all is_type_byte (take_while is_type_byte t) ≡ true
type_front t = list_all-from_AllPass is_type_byte (take_while is_type_byte t) (run_passes is_type_byte t)
