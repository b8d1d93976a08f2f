-- Pages: the first and the last, if a dash separates them. (dialect)
use Rattle.std.specs.Prelude.{ℕ, ◌+◌, Bool, false, not, ◌&&◌, ◌||◌, ◌==◌, nat_lt, List, [], ◌∷◌, ◌++◌, length, take, drop, codes, if◌then◌else◌}
use Rattle.std.specs.List.{prefix_len, list_all}
use Rattle.std.specs.Str.{bytes_eq}
use Rattle.bib_spec.specs.Text.{Text, is_space, after_run}
use Rattle.bib_spec.specs.Texts.{is_empty}
use Rattle.bib_names.specs.Marks.{hyphen}
use Rattle.bib_text.specs.Trimming.{before_run}
use Rattle.ris_format.specs.Lines.{has_bytes, single}

-- the byte is no hyphen
abbrev pub is_no_hyphen : ℕ → Bool
is_no_hyphen byte = not (byte == hyphen)

-- the text begins with a hyphen
abbrev pub begins_with_hyphen : Text → Bool
begins_with_hyphen [] = false
begins_with_hyphen (byte ∷ rest) = byte == hyphen

-- how many bytes are before the first `--`; all bytes if there is none
abbrev pub before_dash : Text → ℕ
before_dash [] = 0
before_dash (byte ∷ rest) = if byte == hyphen && begins_with_hyphen rest then 0 else 1 + before_dash rest

-- the text has a `--`
abbrev pub has_dash : Text → Bool
has_dash text = nat_lt (before_dash text) (length text)

-- the text before the first `--`; if there is none, before the first `-`
abbrev pub before_cut : Text → Text
before_cut text = if has_dash text then take (before_dash text) text else take (prefix_len is_no_hyphen text) text

-- the text after the first `--`; if there is none, after the first `-`
abbrev pub after_cut : Text → Text
after_cut text = if has_dash text then drop (before_dash text + 2) text else drop (prefix_len is_no_hyphen text + 1) text

-- the byte is white space or a hyphen
abbrev pub is_margin : ℕ → Bool
is_margin byte = is_space byte || byte == hyphen

-- a page: the text without white space and hyphens at its ends
abbrev pub page : Text → Text
page text = before_run is_margin (after_run is_margin text)

-- ---- writing

-- the text has a first page and a last page
abbrev pub are_two : Text → Bool
are_two text = has_bytes (page (before_cut text)) && has_bytes (page (after_cut text))

-- the value for SP: the first page, or the whole text if it has no two pages
abbrev pub written_start : Text → List Text
written_start text = if are_two text then page (before_cut text) ∷ [] else single text

-- the value for EP: the last page, if the text has two pages
abbrev pub written_end : Text → List Text
written_end text = if are_two text then page (after_cut text) ∷ [] else []

-- ---- reading

-- the field `pages` from the values after SP and EP: both with `--` between them, or the one that is not empty
abbrev pub read_pages : Text → Text → Text
read_pages start end =
    if is_empty start then end
    else if is_empty end then start
    else start ++ (codes "--" ++ end)

-- ---- the profile

-- a page has no `--`, and neither white space nor a hyphen at its ends
abbrev pub is_plain_page : Text → Bool
is_plain_page text = has_bytes text && not (has_dash text) && bytes_eq (page text) text

-- the text has no hyphen, or is two pages with `--` between them
abbrev pub are_plain_pages : Text → Bool
are_plain_pages text =
    list_all is_no_hyphen text
    || (has_dash text && is_plain_page (take (before_dash text) text) && is_plain_page (drop (before_dash text + 2) text))
