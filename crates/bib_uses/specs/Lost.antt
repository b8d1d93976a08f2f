-- Which uses of macros have lost their meaning in a merge: they find another definition there than on the side that they come from.
use Rattle.std.specs.Prelude.{ℕ, Bool, false, not, ◌&&◌, ◌||◌, List, [], ◌∷◌, ◌++◌, length, map, filter, find, fold, Option, Some, None, is_some, option_and_then, slice_get, bytes_eq, if◌then◌else◌}
use Rattle.std.specs.List.{flat_map, list_any, range_with_len}
use Rattle.std.specs.Option.{option_map_or}
use Rattle.bib_spec.specs.Text.{Text, folded}
use Rattle.bib_spec.specs.Tree.{Tree, CommentTree, DefinitionTree, PreambleTree, EntryTree, value_bytes}
use Rattle.bib_spec.specs.Reading.{Reading}
use Rattle.bib_spec.specs.Records.{entries_of, entry_named}
use Rattle.bib_store.specs.Readings.{entry_numbers}
use Rattle.merge_spec.specs.ThreeWay.{is_row}
use Rattle.merge_spec.specs.Merged.{is_number}
use Rattle.merge_spec.specs.Names.{may_use}
use Rattle.bib_uses.specs.Uses.{Use, uses_in, rows_at, defined_before}
use Rattle.bib_uses.specs.declared.losing.LostUse.{LostUse}

-- ---- where a use comes from

-- the number, among the items, of the entry that a key finds
abbrev pub item_named : Reading → Text → Option ℕ
item_named db key = option_and_then (slice_get (entry_numbers db.items)) (entry_named (entries_of db) key)

-- the field of this name in item n, the first of them, has the value in which the use is
abbrev pub has_value : Reading → ℕ → Use → Bool
has_value db n u = option_map_or (λ row. bytes_eq (value_bytes row.assignment.value) u.value) (find (is_row u.field) (rows_at db n)) false

-- how many definitions of its macro the use has before it in item n of a side, if it comes from there
abbrev pub defined_at : Reading → Use → ℕ → Option ℕ
defined_at side u n = if has_value side n u then Some (defined_before side n u.used) else None

-- The same of the entry that this key finds on the side: a use comes from a side if the entry that the key of its own entry finds there
-- has the value in the same field. (dialect)
abbrev pub defined_on : Reading → Text → Use → Option ℕ
defined_on side key u = option_and_then (defined_at side u) (item_named side key)

-- ---- uses that are lost

-- the use comes from a side with so many definitions before it, and may have so many as here
abbrev pub is_kept : ℕ → Option ℕ → Bool
is_kept here None = false
is_kept here (Some there) = may_use there here

-- Of our side and of theirs: the use comes from one at least, and from none on which it finds no definition, or the one that it finds
-- here.
abbrev pub is_changed : Option ℕ → Option ℕ → ℕ → Bool
is_changed ours theirs here = (is_some ours || is_some theirs) && not (is_kept here ours || is_kept here theirs)

-- a use in item n of the merge, an entry with this key, has lost its meaning
abbrev pub is_lost : Reading → Reading → Reading → Text → ℕ → Use → Bool
is_lost ours theirs merged key n u = is_changed (defined_on ours key u) (defined_on theirs key u) (defined_before merged n u.used)

-- the names, and this one if it is not among them
abbrev pub with_name : List Text → Text → List Text
with_name names name = if list_any (bytes_eq name) names then names else names ++ name ∷ []

-- each name once, at its first place
abbrev pub each_once : List Text → List Text
each_once names = fold with_name [] names

-- the macros of the uses in item n that have lost their meaning, folded, each once
abbrev pub lost_names : Reading → Reading → Reading → Text → ℕ → List Text
lost_names ours theirs merged key n = each_once (map (λ u. folded u.used) (filter (is_lost ours theirs merged key n) (uses_in (rows_at merged n))))

-- a macro with this name in the entry with this key
abbrev pub lost_use : Text → Text → LostUse
lost_use key name = record { key = key; name = name }

-- The lost uses in item n of the merge, if it is an entry, and the one that its key finds there: of entries with one key, the first
-- counts. (dialect)
abbrev pub lost_in : Reading → Reading → Reading → ℕ → Tree → List LostUse
lost_in ours theirs merged n (EntryTree e) = if is_number n (item_named merged e.key) then map (lost_use e.key) (lost_names ours theirs merged e.key n) else []
lost_in ours theirs merged n (CommentTree h) = []
lost_in ours theirs merged n (DefinitionTree d) = []
lost_in ours theirs merged n (PreambleTree p) = []

-- the same of item n
abbrev pub lost_at : Reading → Reading → Reading → ℕ → List LostUse
lost_at ours theirs merged n = option_map_or (λ item. lost_in ours theirs merged n item.tree) (slice_get merged.items n) []

-- the lost uses of a merge, in the order of its entries, and for each entry in the order of the uses
abbrev pub lost_uses : Reading → Reading → Reading → List LostUse
lost_uses ours theirs merged = flat_map (lost_at ours theirs merged) (range_with_len 0 (length merged.items))
