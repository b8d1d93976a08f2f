-- RIS records with plain texts. (dialect)
use Rattle.std.specs.Prelude.{ℕ, List, map, filter_map, if◌then◌else◌}
use Rattle.bib_spec.specs.Text.{Text}
use Rattle.bib_spec.specs.Records.{EntryTexts, expanded}
use Rattle.ris_text.specs.declared.records.RisLine.{RisLine}
use Rattle.ris_text.specs.declared.records.RisRecord.{RisRecord}
use Rattle.ris_text.specs.Writing.{ris_text, is_well_formed}
use Rattle.ris_format.specs.Lines.{line}
use Rattle.ris_format.specs.Escapes.{is_copied}
use Rattle.ris_format.specs.Mapping.{ris}
use Rattle.plain_text.specs.Plain.{plain}

-- the value of a line as plain text, or as it is if values of its tag are copied: URL, DOI and ID
abbrev pub plain_value : RisLine → Text
plain_value l = if is_copied l.tag then l.value else plain l.value

-- the line with its value as plain text
abbrev pub plain_line : RisLine → RisLine
plain_line l = line l.tag (plain_value l)

-- the record with its values as plain texts
abbrev pub plain_record : RisRecord → RisRecord
plain_record r = record { kind_name = r.kind_name; lines = map plain_line r.lines }

-- the record with its values as plain texts if it can be written then, or as it is
abbrev pub in_plain : RisRecord → RisRecord
in_plain r = if is_well_formed (plain_record r) then plain_record r else r

-- the text of the RIS records of these entries, each with what it inherits at this depth, with plain texts
abbrev pub entries_plain : ℕ → List EntryTexts → List ℕ → Text
entries_plain depth entries list = ris_text (map in_plain (map ris (filter_map (expanded depth entries) list)))
