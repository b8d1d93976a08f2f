-- The places of the front and the items in a file.
use Rattle.std.specs.Prelude.{ℕ, ◌≡◌, ◌+◌, List, length, take, map, slice_get, Option, None, Some}
use Rattle.std.specs.List.{flat_map, enumerate_from}
use Rattle.bib_spec.specs.Text.{Text}
use Rattle.bib_spec.specs.Tree.{tree_bytes}
use Rattle.bib_spec.specs.Reading.{Item, Reading, Reads, item_bytes}
use Rattle.bib_scan.specs.Note.{note_of}
use Rattle.bib_scan.specs.declared.layout.Span.{Span}
use Rattle.bib_scan.specs.declared.note.Note.{Note}

-- the length of the front, the span of each item's body, and the note of each item
pub record Places : Type 0 where
  pub front_len : ℕ
  pub items : List Span
  pub notes : List Note

-- the places, from their three parts
abbrev pub placed : ℕ → List Span → List Note → Places
placed front_len items notes = record { front_len = front_len; items = items; notes = notes }

-- item n begins after the front and the first n items
abbrev pub start_of : Reading → ℕ → ℕ
start_of db n = length db.front + length (flat_map item_bytes (take n db.items))

-- where the body of item n lies
abbrev pub span_of : Reading → ℕ × Item → Span
span_of db numbered = record {
  start = start_of db numbered.0;
  end = start_of db numbered.0 + length (tree_bytes numbered.1.tree);
}

-- the places that a reading has in its file
abbrev pub places_of : Reading → Places
places_of db = placed (length db.front) (map (span_of db) (enumerate_from 0 db.items)) (map (λ item. note_of item.tree) db.items)

-- the places are those of the file's reading
abbrev pub IsLayoutOf : Text → Places → Type 0
IsLayoutOf file places = (db : Reading) × Reads file db × (places ≡ places_of db)

-- where the next body starts, or this end if there is no next item
abbrev pub start_or : ℕ → Option Span → ℕ
start_or end None = end
start_or end (Some next) = next.start

-- the trail of item n ends where the next body starts, or with the file
abbrev pub trail_end : Text → Places → ℕ → ℕ
trail_end file places n = start_or (length file) (slice_get places.items (n + 1))
