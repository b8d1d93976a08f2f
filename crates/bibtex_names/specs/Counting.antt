-- How BibTeX counts characters of what a group has printed.
use Rattle.std.specs.Prelude.{ℕ, zero, suc, ◌+◌, ◌-◌, Bool, true, false, ◌&&◌, ◌==◌, nat_lt, [], ◌∷◌, take, drop, count_by, if◌then◌else◌}
use Rattle.bib_spec.specs.Bytes.{open_brace, close_brace}
use Rattle.bib_spec.specs.Text.{Text}
use Rattle.bib_names.specs.Special.{is_opening}
use Rattle.bibtex_names.specs.Letters.{group_len}
use Rattle.bibtex_names.specs.declared.counting.Count.{Count}

-- How many bytes the first character of a text has: outside of braces, a group that begins with a backslash is one character, with
-- all that is in it. Every other byte is a character, and so is a brace. (bibtex.web 418)
abbrev pub char_len : ℕ → Text → ℕ
char_len depth text = if depth == 0 && is_opening text 0 then group_len text else 1

-- the depth after these bytes, if it is `depth` before them
abbrev pub depth_after : ℕ → Text → ℕ
depth_after depth bytes = depth + count_by (λ b. b == open_brace) bytes - count_by (λ b. b == close_brace) bytes

-- a count of `wanted` characters from the front of a text on, which begins at this depth: whether there are enough, and whether it
-- stops inside braces (bibtex.web 418)
abbrev pub counted : ℕ → ℕ → Text → Count
counted zero depth text = record { is_enough = true; is_open = nat_lt 0 depth }
counted (suc wanted) depth [] = record { is_enough = false; is_open = nat_lt 0 depth }
counted (suc wanted) depth (byte ∷ rest) =
    let len = char_len depth (byte ∷ rest) in
    counted wanted (depth_after depth (take len (byte ∷ rest))) (drop len (byte ∷ rest))

-- The count of three characters. BibTeX does not set the depth back to 0: each count within a name begins at the depth at which the
-- one before it stopped, and the first at 0. What a group prints balances, so a count that begins inside braces stays there, however
-- deep, and only whether a brace is open is kept. (bibtex.web 418)
abbrev pub three : Bool → Text → Count
three is_open text = counted 3 (if is_open then 1 else 0) text
