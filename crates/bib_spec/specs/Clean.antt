-- The places where commands begin, and the texts in which no command begins.
use Rattle.std.specs.Prelude.{ℕ, ◌≡◌, Bool, true, false, ◌&&◌, ◌||◌, ◌==◌, [], ◌∷◌, drop, codes}
use Rattle.std.specs.List.{take_while}
use Rattle.bib_spec.specs.Bytes.{at_sign, open_brace, open_paren}
use Rattle.bib_spec.specs.Text.{Text, is_space, is_type_byte, is_name, same, after_run, does_not_begin_with}

-- the text begins with an opening delimiter
abbrev pub opens_body : Text → Bool
opens_body [] = false
opens_body (b ∷ rest) = b == open_brace || b == open_paren

-- A command begins here: an at-sign and a type name, and after it an opening delimiter, unless the type name is `comment`.
-- White space may stand between them. Every other at-sign is ordinary text. (dialect)
unfoldable pub begins_command : Text → Bool
begins_command [] = false
begins_command (b ∷ after) =
    let named = after_run is_space after in
    let type_name = take_while is_type_byte named in
    b == at_sign && is_name type_name
    && (same type_name (codes "comment") || opens_body (after_run is_space (after_run is_type_byte named)))

-- no command begins in the text (dialect)
abbrev pub IsClean : Text → Type 0
IsClean t = (p : ℕ) → begins_command (drop p t) ≡ false

-- The text after an item is clean, and after a comment it does not begin with a byte that would lengthen the comment's type
-- name. (dialect)
pub record IsCleanTrail (after_comment : Bool) (t : Text) : Type 0 where
  pub clean : IsClean t
  pub ends_name : after_comment ≡ true → does_not_begin_with is_type_byte t ≡ true
