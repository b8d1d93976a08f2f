-- No promise rests on this page: it retraces what the reader notes of an item, from left to right, so that lemmas can lead
-- from the code to `Note`.
use Rattle.std.specs.Prelude.{ℕ, ◌-◌, ◌==◌, List, length, find, Option, None, Some, drop, if◌then◌else◌}
use Rattle.std.specs.List.{prefix_len}
use Rattle.std.specs.Option.{option_map_or}
use Rattle.bib_spec.specs.Text.{Text, is_space, after_run}
use Rattle.bib_spec.specs.Tree.{Delimiter, goes_on_key}
use Rattle.bib_scan.specs.View.{Field}
use Rattle.bib_scan.specs.FieldsLeft.{all_fields_left, read_head, kind_named, read_opening}
use Rattle.bib_scan.specs.Note.{is_crossref}
use Rattle.bib_scan.specs.declared.layout.Span.{Span}
use Rattle.bib_scan.specs.declared.note.EntryHead.{EntryHead}
use Rattle.bib_scan.specs.declared.note.Note.{Note}
use Rattle.bib_scan.specs.declared.view.Kind.{Kind}
use Rattle.bib_scan.specs.declared.view.Kind.TheVariants as kind

-- the number of bytes of a body of `total` bytes from the first field named `crossref` on; 0 if there is none
abbrev pub left_of_crossref : ℕ → List Field → ℕ
left_of_crossref total fields = option_map_or (λ f. total - f.start) (find is_crossref fields) 0

-- the number of bytes of `t` from the first row named `crossref` on, among the rows at the front of `t`; 0 if there is none
abbrev pub crossref_left : Text → ℕ
crossref_left t = left_of_crossref (length t) (all_fields_left kind.Entry (length t) t)

-- what is noted of an entry with this opening
abbrev pub entry_head : Delimiter × Text → EntryHead
entry_head opened = record {
  key_left = length opened.1;
  key_len = prefix_len (goes_on_key opened.0) opened.1;
  crossref_left = crossref_left (after_run is_space (after_run (goes_on_key opened.0) opened.1));
}

-- what is noted of an item of this kind with this opening; only entries have it
abbrev pub head_after : Kind → Delimiter × Text → Option EntryHead
head_after kind.Entry opened = Some (entry_head opened)
head_after kind.Macro opened = None
head_after kind.Preamble opened = None
head_after kind.Comment opened = None

-- what is noted of the item at the front of `t`, if it is an entry
abbrev pub read_entry_head : Text → Option EntryHead
read_entry_head t =
    let head = read_head t in
    head_after (kind_named head.0) (read_opening (after_run is_space head.1))

-- the place in a text of `total` bytes from which `left` bytes are left; 0 if `left` is 0
abbrev pub place_left : ℕ → ℕ → ℕ
place_left total left = if left == 0 then 0 else total - left

-- the note of an item at the front of a text of `total` bytes, from what was noted of it if it is an entry
abbrev pub note_from : ℕ → Option EntryHead → Note
note_from total None = record { key_at = 0; crossref_at = 0; key_len = 0 }
note_from total (Some h) = record { key_at = total - h.key_left; crossref_at = place_left total h.crossref_left; key_len = h.key_len }

-- the note of the item at the front of `t`
abbrev pub read_note : Text → Note
read_note t = note_from (length t) (read_entry_head t)

-- the note of the item at this place of the file
abbrev pub note_at : Text → Span → Note
note_at file s = read_note (drop s.start file)
