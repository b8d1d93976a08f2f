-- What LaTeX prints of a text, as far as it is letters: the text without braces, with accented letters as Unicode has them. (dialect)
use Rattle.std.specs.Prelude.{◌≡◌, ℕ, zero, suc, ◌+◌, ◌-◌, Bool, false, not, ◌||◌, ◌==◌, [], ◌∷◌, ◌++◌, take, Option, Some, None, if◌then◌else◌, encode_utf8}
use Rattle.std.specs.List.{list_any}
use Rattle.bib_spec.specs.Text.{Text}
use Rattle.bib_text.specs.Trimming.{trimmed}
use Rattle.plain_text.specs.declared.signs.Sign.{Sign}
use Rattle.plain_text.specs.declared.printing.Next.{Next}
use Rattle.plain_text.specs.Signs.{sign_at, name_len}

-- What is read next of a text: what is written in its place; and how many bytes it takes, whether it is a command that stays or ends
-- an argument of one, and how many braces of such arguments are open after it.
pub record Step : Type 0 where
  pub written : Text
  pub next : Next

-- this is written, so many bytes are taken, and so on
abbrev pub step : Text → ℕ → Bool → ℕ → Step
step written taken stays depth = record { written = written; next = record { taken = taken; stays = stays; depth = depth } }

-- the text begins with a backslash
abbrev pub is_command : Text → Bool
is_command [] = false
is_command (b ∷ t) = b == 92

-- how many bytes stay together: a command, or one byte
abbrev pub own_len : Text → ℕ
own_len [] = 0
own_len (b ∷ t) = if b == 92 then name_len t + 1 else 1

-- one letter or sign that is written otherwise, or what stays as it is written
abbrev pub word_step : ℕ → Text → Option Sign → Step
word_step depth text (Some s) = step (encode_utf8 s.char) s.taken false depth
word_step depth text None = step (take (own_len text) text) (own_len text) (is_command text) depth

-- an opening brace is dropped, unless it opens an argument of a command that stays, or is in one
abbrev pub open_step : Bool → ℕ → Step
open_step stays depth = if stays || not (depth == 0) then step (123 ∷ []) 1 false (depth + 1) else step [] 1 false 0

-- a closing brace is dropped, unless it is in such an argument; after the argument another may follow
abbrev pub close_step : ℕ → Step
close_step depth = if depth == 0 then step [] 1 false 0 else step (125 ∷ []) 1 (depth == 1) (depth - 1)

-- what is read next, after a command that stays or not, in so many braces of its arguments
abbrev pub step_at : Bool → ℕ → Text → Step
step_at stays depth [] = step [] 0 stays depth
step_at stays depth (b ∷ t) =
    if b == 123 then open_step stays depth else if b == 125 then close_step depth else word_step depth (b ∷ t) (sign_at (b ∷ t))

-- what is printed of a text, step by step; so many of its bytes were taken by the step before
abbrev pub printed_from : ℕ → Bool → ℕ → Text → Text
printed_from taken stays depth [] = []
printed_from (suc taken) stays depth (b ∷ t) = printed_from taken stays depth t
printed_from zero stays depth (b ∷ t) =
    (step_at stays depth (b ∷ t)).written
    ++ printed_from ((step_at stays depth (b ∷ t)).next.taken - 1) (step_at stays depth (b ∷ t)).next.stays (step_at stays depth (b ∷ t)).next.depth t

-- what is printed of a whole text
abbrev pub printed : Text → Text
printed text = printed_from 0 false 0 text

-- the text without braces, with letters in place of the commands that print them, and without white space at its ends
abbrev pub plain : Text → Text
plain text = trimmed (printed text)

-- ---- laws

-- a byte that is written otherwise in a plain text: a backslash, a tie or a brace
abbrev pub is_mark : ℕ → Bool
is_mark b = b == 92 || b == 126 || b == 123 || b == 125

-- a text without such a byte is plain, except for white space at its ends
abbrev pub BareTextsArePlain : Type 0
BareTextsArePlain = (text : Text) → list_any is_mark text ≡ false → plain text ≡ trimmed text
