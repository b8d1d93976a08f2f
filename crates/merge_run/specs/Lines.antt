-- The lines that tell conflicts. (dialect)
use Rattle.std.specs.Prelude.{List, ◌++◌, codes}
use Rattle.std.specs.List.{flat_map}
use Rattle.bib_spec.specs.Text.{Text, folded}
use Rattle.merge_spec.specs.Units.{Label, EntryLabel, MacroLabel, BytesLabel}
use Rattle.bib_renames.specs.declared.conflict.KeyConflict.{KeyConflict}
use Rattle.merge_spec.specs.Conflicts.{ChangedPart, Whole, TheType, TheField, Change, Changed, BothAdded, RemovedByOurs, RemovedByTheirs, Conflict}
use Rattle.bib_uses.specs.declared.losing.LostUse.{LostUse}

-- the words for a unit with this label: `entry` and the key, or `macro` and the name, in lower case; or `text`
abbrev pub label_words : Label → Text
label_words (EntryLabel key) = codes "entry " ++ key
label_words (MacroLabel name) = codes "macro " ++ name
label_words (BytesLabel bytes) = codes "text"

-- the key or the name of a unit with this label, in lower case; or `text`
abbrev pub name_words : Label → Text
name_words (EntryLabel key) = key
name_words (MacroLabel name) = name
name_words (BytesLabel bytes) = codes "text"

-- the words for a part of the unit with this label that both sides changed: the unit, `type` and its key, or `field`, its key and the
-- name of the field in lower case
abbrev pub part_words : Label → ChangedPart → Text
part_words label Whole = label_words label
part_words label TheType = codes "type " ++ name_words label
part_words label (TheField name) = codes "field " ++ (name_words label ++ (codes " " ++ name))

-- the line of a conflict with these words
abbrev pub line : Text → Text
line words = codes "conflict " ++ (words ++ codes "\n")

-- the lines of a conflict over the unit with this label, as `conflict both added entry knuth86`; if both sides changed parts of the
-- unit, a line for each, as `conflict field knuth86 year`
abbrev pub change_lines : Label → Change → Text
change_lines label (Changed parts) = flat_map (λ part. line (part_words label part)) parts
change_lines label BothAdded = line (codes "both added " ++ label_words label)
change_lines label RemovedByOurs = line (codes "removed by ours " ++ label_words label)
change_lines label RemovedByTheirs = line (codes "removed by theirs " ++ label_words label)

-- the lines of conflicts
abbrev pub conflict_lines : List Conflict → Text
conflict_lines conflicts = flat_map (λ c. change_lines c.label c.change) conflicts

-- the line of an entry with this key that has lost its parent
abbrev pub lost_line : Text → Text
lost_line key = codes "conflict crossref " ++ (folded key ++ codes "\n")

-- the line of an entry to which each side gave another key: the key in the common file, ours and theirs, in lower case
abbrev pub key_line : KeyConflict → Text
key_line c = codes "conflict key " ++ (folded c.key ++ (codes " " ++ (folded c.ours ++ (codes " " ++ (folded c.theirs ++ codes "\n")))))

-- the line of a use of a macro that has lost its meaning, as `conflict macro jacm in knuth86`
abbrev pub use_line : LostUse → Text
use_line u = codes "conflict macro " ++ (u.name ++ (codes " in " ++ (folded u.key ++ codes "\n")))

-- the lines of entries to which each side gave another key, of conflicts, of entries with these keys that have lost their parents, and of
-- uses of macros that have lost their meaning
abbrev pub told_lines : List KeyConflict → List Conflict → List Text → List LostUse → Text
told_lines keys conflicts lost uses = flat_map key_line keys ++ (conflict_lines conflicts ++ (flat_map lost_line lost ++ flat_map use_line uses))
