-- A text is a list of bytes. Its bytes fall into classes, and names, keys and balanced texts are made of them.
-- (Reading treats all numbers above 127 alike, so no definition here requires that a number is a byte.)
use Rattle.std.specs.Prelude.{ℕ, ◌≡◌, ◌<◌, ◌≤◌, Bool, true, ◌&&◌, ◌||◌, not, ◌==◌, nat_lt, nat_le, List, [], ◌∷◌, length, take, drop, slice_index, count_by, map, codes}
use Rattle.std.specs.List.{prefix_len, list_all, list_any}
use Rattle.std.specs.Char.{is_ascii_digit, to_ascii_lowercase}
use Rattle.std.specs.Str.{bytes_eq}
use Rattle.bib_spec.specs.Bytes.{tab, line_feed, carriage_return, space, quote, at_sign, open_brace, close_brace, delete, name_limit}

-- a list of bytes
abbrev pub Text : Type 0
Text = List ℕ

-- ---- classes of bytes

-- white space: space, tab, LF, CR (dialect)
unfoldable pub is_space : ℕ → Bool
is_space b = b == space || b == tab || b == line_feed || b == carriage_return

-- a byte of a name: above the space, and none of DEL " # % ' ( ) , = { } (dialect)
unfoldable pub is_name_byte : ℕ → Bool
is_name_byte b = nat_lt space b && not (list_any (λ c. c == b) (delete ∷ codes "\"#%'(),={}"))

-- a byte of a type name: a byte of a name, but not an at-sign (dialect)
abbrev pub is_type_byte : ℕ → Bool
is_type_byte b = is_name_byte b && not (b == at_sign)

-- a byte of a key that an edit may write: above the space, and none of DEL , { } (dialect)
unfoldable pub is_new_key_byte : ℕ → Bool
is_new_key_byte b = nat_lt space b && not (list_any (λ c. c == b) (delete ∷ codes ",{}"))

-- ---- fronts of texts

-- the text does not begin with a byte of this class
abbrev pub does_not_begin_with : (ℕ → Bool) → Text → Bool
does_not_begin_with test [] = true
does_not_begin_with test (b ∷ rest) = not (test b)

-- the text after its first run of bytes of this class; the run may be empty
abbrev pub after_run : (ℕ → Bool) → Text → Text
after_run test t = drop (prefix_len test t) t

-- ---- names and keys

-- a name of at most `limit` bytes: it has at least one byte, all are name bytes, and the first is no digit (dialect)
unfoldable pub is_name_within : ℕ → Text → Bool
is_name_within limit t = nat_lt 0 (length t) && nat_le (length t) limit && does_not_begin_with is_ascii_digit t && list_all is_name_byte t

-- a name (dialect)
abbrev pub is_name : Text → Bool
is_name = is_name_within name_limit

-- a type name: a name without an at-sign (dialect)
abbrev pub is_type_name : Text → Bool
is_type_name t = is_name t && list_all is_type_byte t

-- a key that an edit may write; reading takes more (dialect)
unfoldable pub is_new_key : Text → Bool
is_new_key t = nat_lt 0 (length t) && nat_le (length t) name_limit && list_all is_new_key_byte t

-- ---- folding

-- a text with its ASCII letters in lower case
abbrev pub folded : Text → Text
folded t = map to_ascii_lowercase t

-- two texts are equal if the case of ASCII letters does not count (btxhak 5.1 for names of fields and macros; for keys and
-- types: dialect)
abbrev pub same : Text → Text → Bool
same a b = bytes_eq (folded a) (folded b)

-- ---- braces

-- how many braces open among the first n bytes
abbrev pub opened_before : Text → ℕ → ℕ
opened_before t n = count_by (λ b. b == open_brace) (take n t)

-- how many braces close among the first n bytes
abbrev pub closed_before : Text → ℕ → ℕ
closed_before t n = count_by (λ b. b == close_brace) (take n t)

-- no prefix closes more braces than it opens, and the whole closes all (dialect)
pub record IsBalanced (t : Text) : Type 0 where
  pub never_negative : (n : ℕ) → closed_before t n ≤ opened_before t n
  pub all_closed : closed_before t (length t) ≡ opened_before t (length t)

-- each quotation mark is inside braces (dialect)
abbrev pub QuotesAreBraced : Text → Type 0
QuotesAreBraced t = (n : ℕ) → n < length t → slice_index t n ≡ quote → closed_before t n < opened_before t n
