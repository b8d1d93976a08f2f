-- No promise rests on this page: it retraces how a view finds its parts and how its fields are read, from left to right,
-- so that lemmas can lead from the code to `View`.
use Rattle.std.specs.Prelude.{ℕ, zero, suc, ◌-◌, List, [], ◌∷◌, length, codes, Option, None, Some, Ok, if◌then◌else◌}
use Rattle.std.specs.List.{take_while}
use Rattle.std.specs.Result.{result_ok}
use Rattle.bib_spec.specs.Bytes.{name_limit}
use Rattle.bib_spec.specs.Text.{Text, is_space, is_type_byte, same, after_run}
use Rattle.bib_spec.specs.Tree.{Delimiter, Brace, goes_on_key}
use Rattle.bib_scan.specs.LeftToRight.{Read, ◌>>=◌, Assigned, read_assignment, read_value, read_comma, delimiter_of}
use Rattle.bib_scan.specs.View.{Field, View}
use Rattle.bib_scan.specs.declared.view.Kind.{Kind}
use Rattle.bib_scan.specs.declared.view.Kind.TheVariants as kind

-- ---- fields

-- the assignment at the front of `t` as a field of a row that begins at `start`, in a body of `total` bytes
abbrev pub field_in : ℕ → ℕ → Text → Assigned → Field
field_in total start t a = record { name = a.name; value = a.value; start = start; name_at = total - length t; value_at = total - a.value_left }

-- an assignment, read as a field of a row that begins at `start`, in a body of `total` bytes
abbrev pub read_field : ℕ → ℕ → Text → Read Field
read_field total start t = read_assignment name_limit t >>= λ x. Ok (field_in total start t x.0, x.1)

-- a row, as a field
abbrev pub read_row_field : ℕ → Text → Read Field
read_row_field total t = read_comma t >>= λ u. read_field total (total - length t) (after_run is_space u)

-- a value, as the field of a preamble
abbrev pub read_preamble_field : ℕ → Text → Read Field
read_preamble_field total t =
    read_value name_limit t >>= λ x.
    Ok (record { name = []; value = x.0; start = total - length t; name_at = total - length t; value_at = total - length t }, x.1)

-- the field at the front, in an item of this kind
abbrev pub first_field : Kind → ℕ → Text → Option (Field × Text)
first_field kind.Entry total t = result_ok (read_row_field total t)
first_field kind.Macro total t = result_ok (read_field total (total - length t) t)
first_field kind.Preamble total t = result_ok (read_preamble_field total t)
first_field kind.Comment total t = None

-- the kind of item that may have the fields after the first one: only an entry has more than one field
abbrev pub kind_after : Kind → Kind
kind_after kind.Entry = kind.Entry
kind_after kind.Macro = kind.Comment
kind_after kind.Preamble = kind.Comment
kind_after kind.Comment = kind.Comment

-- the first field, if there is one, and the fields in the text after it
abbrev pub first_and_others : Option (Field × Text) → (Text → List Field) → List Field
first_and_others None others = []
first_and_others (Some x) others = x.0 ∷ others x.1

-- the fields from here on, at most `n` of them
unfoldable pub fields_left : ℕ → Kind → ℕ → Text → List Field
fields_left zero k total t = []
fields_left (suc n) k total t = first_and_others (first_field k total t) (fields_left n (kind_after k) total)

-- all fields from here on
abbrev pub all_fields_left : Kind → ℕ → Text → List Field
all_fields_left k total t = fields_left (length t) k total t

-- ---- heads

-- the type name and the text after it
abbrev pub read_head : Text → Text × Text
read_head [] = ([], [])
read_head (b ∷ t) = (take_while is_type_byte (after_run is_space t), after_run is_type_byte (after_run is_space t))

-- the kind of item that has this type
abbrev pub kind_named : Text → Kind
kind_named t =
    if same t (codes "comment") then kind.Comment
    else if same t (codes "string") then kind.Macro
    else if same t (codes "preamble") then kind.Preamble
    else kind.Entry

-- the opening delimiter, and the text after it and white space
abbrev pub read_opening : Text → Delimiter × Text
read_opening [] = (Brace, [])
read_opening (b ∷ t) = (delimiter_of b, after_run is_space t)

-- the text from an item's first field on, given the text after its key or, for an item without a key, after its opening
abbrev pub first_row : Kind → Text → Text
first_row kind.Entry t = after_run is_space t
first_row kind.Macro t = t
first_row kind.Preamble t = t
first_row kind.Comment t = t

-- the view of an item of this kind and type, from its delimiter and the text after its opening
abbrev pub view_after : Text → Text → Text → Kind → Delimiter × Text → View
view_after body trail type_name kind.Entry opened =
    let after = after_run is_space (after_run (goes_on_key opened.0) opened.1) in
    record {
      kind = kind.Entry;
      body = body;
      trail = trail;
      type_name = type_name;
      key = take_while (goes_on_key opened.0) opened.1;
      key_at = length body - length opened.1;
      fields = all_fields_left kind.Entry (length body) after;
    }
view_after body trail type_name k opened = record {
  kind = k;
  body = body;
  trail = trail;
  type_name = type_name;
  key = [];
  key_at = 0;
  fields = all_fields_left k (length body) opened.1;
}

-- the view of an item
abbrev pub read_view : Text → Text → View
read_view body trail =
    let head = read_head body in
    view_after body trail head.0 (kind_named head.0) (read_opening (after_run is_space head.1))
