-- What an edit writes has the grammar's form: white space, rows, and the bytes after a key.
use Rattle.edit_spec.proofs.Words.{◌≡◌, ℕ, ◌≤◌, ◌==◌, nat_lt, nat_le, true, false, not, ◌||◌, ◌&&◌, List, ◌∷◌, ◌++◌, Option, Some, None, length, codes, All, refl, sym, ap, arith, flat_map, list_any, list_all, AllPass, AllByRecursion, bytes_eq, both_ways, and_parts, or_parts, or_from, eqb-false}
use Rattle.edit_spec.proofs.Words.{leb-true, not_from_false, not-true, All-nil, All-cons, All-head, name_limit, comma, open_brace, close_brace, Text, is_space, is_name, is_new_key, is_new_key_byte, does_not_begin_with, Value, Row, Delimiter, Brace, Entry, row_bytes, last_comma_bytes, close_byte}
use Rattle.edit_spec.proofs.Words.{IsSpace, IsValue, IsRow, IsEntry, is_empty, new_key_byte-plain, new_row, row_to, row_before, in_braces}
use Rattle.std.proofs.Common.{[], true≢false, ne_eqb}
use Rattle.std.proofs.lemmas.List.Elements.{All-from_recursion}
use Rattle.bib_spec.specs.Bytes.{delete, close_paren}
use Rattle.bib_spec.specs.Tree.{Paren, goes_on_key}
use Rattle.edit_spec.proofs.Balanced.{unbraced_balanced}
use Rattle.edit_spec.proofs.RenameKey.{new_key_parts}

-- ---- white space

pub no_space : IsSpace []
no_space = All-nil (λ b. is_space b ≡ true)

pub line_space : IsSpace (codes "\n")
unfolding is_space
line_space = All-from_recursion (λ b. is_space b ≡ true) (codes "\n") (refl, tt)

pub one_space : IsSpace (codes " ")
unfolding is_space
one_space = All-from_recursion (λ b. is_space b ≡ true) (codes " ") (refl, tt)

row_space : IsSpace (codes "\n  ")
unfolding is_space
row_space = All-from_recursion (λ b. is_space b ≡ true) (codes "\n  ") (refl, (refl, (refl, tt)))

-- ---- after a key

-- the bytes after a key end it
abbrev pub EndsKey : Delimiter → Text → List Row → Option Text → Type 0
EndsKey d space rows last =
    does_not_begin_with (goes_on_key d) (space ++ flat_map row_bytes rows ++ last_comma_bytes last ++ close_byte d ∷ []) ≡ true

comma_ends : (d : Delimiter) → not (goes_on_key d comma) ≡ true
unfolding is_space
comma_ends Brace = refl
comma_ends Paren = refl

space_ends : (d : Delimiter) (b : ℕ) → is_space b ≡ true → not (goes_on_key d b) ≡ true
space_ends Brace b h = ap (λ s. not (not (s || b == comma || b == close_brace))) h
space_ends Paren b h = ap (λ s. not (not (s || b == comma))) h

pub ends_at_row : (d : Delimiter) (space : Text) (row : Row) (rows : List Row) (last : Option Text) → IsSpace space → EndsKey d space (row ∷ rows) last
ends_at_row d [] row rows last h = comma_ends d
ends_at_row d (b ∷ space) row rows last h = space_ends d b (All-head (λ b. is_space b ≡ true) b space h)

brace_ends : not (goes_on_key Brace close_brace) ≡ true
unfolding is_space
brace_ends = refl

-- without rows the closing parenthesis may not stand directly after the key
pub ends_without_rows : (d : Delimiter) (space : Text) (last : Option Text) → IsSpace space →
    bytes_eq (space ++ flat_map row_bytes [] ++ last_comma_bytes last ++ close_byte d ∷ []) (close_paren ∷ []) ≡ false → EndsKey d space [] last
ends_without_rows d [] (Some after) h differs = comma_ends d
ends_without_rows Brace [] None h differs = brace_ends
ends_without_rows Paren [] None h differs = absurd (true≢false differs)
ends_without_rows d (b ∷ space) last h differs = space_ends d b (All-head (λ b. is_space b ≡ true) b space h)

-- ---- rows

-- white space and the rows after it
pub record AreRows (spaced : Text × List Row) : Type 0 where
  pub space : IsSpace spaced.0
  pub rows : All (IsRow name_limit) spaced.1

pub are_rows : (space : Text) (rows : List Row) → IsSpace space → All (IsRow name_limit) rows → AreRows (space, rows)
are_rows space rows s r = record { space = s; rows = r }

pub row_with_value : (value : Value) (row : Row) → IsValue name_limit value → IsRow name_limit row → IsRow name_limit (row_to value row)
row_with_value value row v is = record {
  space_before_name = is.space_before_name;
  assignment = record {
    name = is.assignment.name;
    space_before_equals = is.assignment.space_before_equals;
    space_before_value = is.assignment.space_before_value;
    value = v;
    space_after = is.assignment.space_after;
  };
}

pub row_before_space : (space : Text) (row : Row) → IsSpace space → IsRow name_limit row → IsRow name_limit (row_before space row)
row_before_space space row s is = record {
  space_before_name = is.space_before_name;
  assignment = record {
    name = is.assignment.name;
    space_before_equals = is.assignment.space_before_equals;
    space_before_value = is.assignment.space_before_value;
    value = is.assignment.value;
    space_after = s;
  };
}

pub new_row-is : (name : Text) (value : Value) (after : Text) → is_name name ≡ true → IsValue name_limit value → IsSpace after → IsRow name_limit (new_row name value after)
new_row-is name value after n v s = record {
  space_before_name = row_space;
  assignment = record { name = n; space_before_equals = one_space; space_before_value = one_space; value = v; space_after = s };
}

-- ---- entries

pub not_empty : (key : Text) → is_empty key ≡ false → key ≡ [] → ⊥
not_empty key h e = both_ways (is_empty key) h (ap is_empty e)

-- an entry with another key, other white space after it, and other rows
pub entry-is : (e : Entry) (key space : Text) (rows : List Row) → IsEntry name_limit e → AllPass (goes_on_key e.opening.delimiter) key → length key ≤ name_limit →
    (key ≡ [] → space ≡ []) → AreRows (space, rows) → EndsKey e.opening.delimiter space rows e.last_comma →
    IsEntry name_limit (record e { key = key; space_after_key = space; rows = rows })
entry-is e key space rows is k len empty are ends = record {
  opening = is.opening;
  type_name = is.type_name;
  key = k;
  key_len = len;
  key_ends = ends;
  space_after_key = are.space;
  empty_key = empty;
  rows = are.rows;
  last_comma = is.last_comma;
}

-- ---- new keys

byte_goes_on : (d : Delimiter) (b : ℕ) → is_new_key_byte b ≡ true → (goes_on_key d b ≡ true) × ((b == close_brace) ≡ false) × ((b == open_brace) ≡ false)
unfolding is_new_key_byte
byte_goes_on d b h =
    let plain = new_key_byte-plain b h in
    let none = not-true (list_any (λ c. c == b) (delete ∷ codes ",{}")) (and_parts (nat_lt 32 b) (not (list_any (λ c. c == b) (delete ∷ codes ",{}"))) h).1 in
    let one = or_parts (delete == b) (list_any (λ c. c == b) (codes ",{}")) none in
    let two = or_parts (comma == b) (list_any (λ c. c == b) (codes "{}")) one.1 in
    let three = or_parts (open_brace == b) (list_any (λ c. c == b) (codes "}")) two.1 in
    let four = or_parts (close_brace == b) false three.1 in
    let no_comma = turned comma two.0 in
    let no_close = turned close_brace four.0 in
    (goes d plain no_comma no_close, no_close, turned open_brace three.0)
  where
    turned : (c : ℕ) → (c == b) ≡ false → (b == c) ≡ false
    turned c e = ne_eqb b c (λ is. eqb-false c b e (sym is))

    goes : (d : Delimiter) → is_space b ≡ false → (b == comma) ≡ false → (b == close_brace) ≡ false → goes_on_key d b ≡ true
    goes Brace s c k = not_from_false (is_space b || b == comma || b == close_brace) (or_from (is_space b || b == comma) (b == close_brace) (or_from (is_space b) (b == comma) s c) k)
    goes Paren s c k = not_from_false (is_space b || b == comma) (or_from (is_space b) (b == comma) s c)

bytes_go_on : (d : Delimiter) (key : Text) → list_all is_new_key_byte key ≡ true → AllPass (goes_on_key d) key
bytes_go_on d [] h = All-nil (λ b. goes_on_key d b ≡ true)
bytes_go_on d (b ∷ key) h =
    let both = and_parts (is_new_key_byte b) (list_all is_new_key_byte key) h in
    All-cons (λ b. goes_on_key d b ≡ true) b key (byte_goes_on d b both.0).0 (bytes_go_on d key both.1)

no_close_brace : (key : Text) → list_all is_new_key_byte key ≡ true → AllByRecursion (λ b. (b == close_brace) ≡ false) key
no_close_brace [] h = tt
no_close_brace (b ∷ key) h =
    let both = and_parts (is_new_key_byte b) (list_all is_new_key_byte key) h in
    ((byte_goes_on Brace b both.0).1, no_close_brace key both.1)

no_open_brace : (key : Text) → list_all is_new_key_byte key ≡ true → AllByRecursion (λ b. (b == open_brace) ≡ false) key
no_open_brace [] h = tt
no_open_brace (b ∷ key) h =
    let both = and_parts (is_new_key_byte b) (list_all is_new_key_byte key) h in
    ((byte_goes_on Brace b both.0).2, no_open_brace key both.1)

module _ (key : Text) (h : is_new_key key ≡ true) where
  -- either delimiter lets every byte of a new key continue it
  pub new_key-goes_on : (d : Delimiter) → AllPass (goes_on_key d) key
  new_key-goes_on d = bytes_go_on d key (new_key_parts key h).1

  pub new_key-length : length key ≤ name_limit
  unfolding is_new_key
  new_key-length = leb-true (length key) name_limit (and_parts (nat_lt 0 (length key)) (nat_le (length key) name_limit) (and_parts (nat_lt 0 (length key) && nat_le (length key) name_limit) (list_all is_new_key_byte key) h).0).1

  pub new_key-in_braces : IsValue name_limit (in_braces key)
  new_key-in_braces = record {
    first = unbraced_balanced key (no_close_brace key (new_key_parts key h).1) (no_open_brace key (new_key_parts key h).1);
    links = λ k d lt. absurd (omega (arith, lt));
  }
