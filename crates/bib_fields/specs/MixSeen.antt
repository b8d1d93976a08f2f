-- A merged entry in the code, as the definitions have it.
use Rattle.std.specs.Prelude.{ℕ, ◌≡◌, true, List, [], map, Option, slice_get, unwrap_or}
use Rattle.std.specs.Option.{option_map_or}
use Rattle.bib_spec.specs.Text.{Text}
use Rattle.bib_spec.specs.Tree.{Digits, Assignment, Row, Entry, EntryTree, tree_bytes}
use Rattle.bib_spec.specs.Texts.{Macros}
use Rattle.merge_spec.specs.ThreeWay.{entry_like, may_mix}
use Rattle.bib_fields.specs.declared.mix.Side.{Side}
use Rattle.bib_fields.specs.declared.mix.Side.TheVariants as side
use Rattle.bib_fields.specs.declared.mix.RowOf.{RowOf}
use Rattle.bib_fields.specs.declared.mix.MixedRow.{MixedRow}
use Rattle.bib_fields.specs.declared.mix.Mix.{Mix}

-- of two things the one that is of this side
abbrev pub of_side : {X : Type 0} → Side → X → X → X
of_side side.Ours o t = o
of_side side.Theirs o t = t

-- the rows of an entry
abbrev pub rows_in : Option (Macros × Entry) → List Row
rows_in v = option_map_or (λ e. e.1.rows) v []

-- the type of an entry
abbrev pub type_in : Option (Macros × Entry) → Text
type_in v = option_map_or (λ e. e.1.opening.head.type_name) v []

-- the key of an entry
abbrev pub key_in : Option (Macros × Entry) → Text
key_in v = option_map_or (λ e. e.1.key) v []

-- a row without bytes, for a number that no row has
abbrev pub no_row : Row
no_row = record {
  space_before_name = [];
  assignment = record { name = []; space_before_equals = []; space_before_value = []; value = record { first = Digits []; links = [] }; space_after = [] };
}

-- the row with this number
abbrev pub row_at : List Row → ℕ → Row
row_at rows n = unwrap_or (slice_get rows n) no_row

-- the row of one of the sides
abbrev pub row_of : List Row → List Row → RowOf → Row
row_of o t r = row_at (of_side r.side o t) r.n

-- a merged row: the beginning of one row, the value of one, and white space
abbrev pub row_seen : List Row → List Row → MixedRow → Row
row_seen o t m =
    let start : Row = row_of o t m.start in
    let a : Assignment = start.assignment in
    record start { assignment = record a { value = (row_of o t m.value).assignment.value; space_after = m.space } }

-- the rows of a merged entry
abbrev pub rows_seen : Option (Macros × Entry) → Option (Macros × Entry) → Mix → List Row
rows_seen o t mix = map (row_seen (rows_in o) (rows_in t)) mix.rows.now

-- the type of a merged entry
abbrev pub type_seen : Option (Macros × Entry) → Option (Macros × Entry) → Mix → Text
type_seen o t mix = type_in (of_side mix.kind o t)

-- the key of a merged entry
abbrev pub key_seen : Option (Macros × Entry) → Option (Macros × Entry) → Mix → Text
key_seen o t mix = key_in (of_side mix.key o t)

-- the merged entry is a merge of three entries
abbrev pub Mixes : Option (Macros × Entry) → Option (Macros × Entry) → Option (Macros × Entry) → Mix → Type 0
Mixes b o t mix = may_mix b o t (type_seen o t mix) (key_seen o t mix) mix.space.now (rows_seen o t mix) ≡ true

-- the bytes of a merged entry
abbrev pub mix_bytes : Option (Macros × Entry) → Option (Macros × Entry) → Mix → Text
mix_bytes o t mix = option_map_or (λ e. tree_bytes (EntryTree (entry_like e.1 (type_seen o t mix) (key_seen o t mix) mix.space.now (rows_seen o t mix)))) o []
