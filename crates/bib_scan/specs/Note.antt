-- The note that the reader takes of an item.
use Rattle.std.specs.Prelude.{◌≡◌, Bool, length, find, Option, None}
use Rattle.std.specs.Option.{option_map_or}
use Rattle.bib_spec.specs.Bytes.{name_limit}
use Rattle.bib_spec.specs.Text.{Text, same}
use Rattle.bib_spec.specs.Tree.{Tree, CommentTree, DefinitionTree, PreambleTree, EntryTree, IsTree, tree_bytes}
use Rattle.bib_spec.specs.Records.{crossref}
use Rattle.bib_scan.specs.View.{Field, fields_of, key_of, key_place}
use Rattle.bib_scan.specs.declared.note.Note.{Note}

-- the field is named `crossref`, in any case
abbrev pub is_crossref : Field → Bool
is_crossref f = same f.name crossref

-- the first field of an entry that is named `crossref`
abbrev pub crossref_field : Tree → Option Field
crossref_field (EntryTree e) = find is_crossref (fields_of (EntryTree e))
crossref_field (CommentTree h) = None
crossref_field (DefinitionTree d) = None
crossref_field (PreambleTree p) = None

-- the note of an item with this tree: the place of its key, the key's length, and the place of its first row named
-- `crossref`
abbrev pub note_of : Tree → Note
note_of tree = record {
  key_at = key_place tree;
  crossref_at = option_map_or (λ f. f.start) (crossref_field tree) 0;
  key_len = length (key_of tree);
}

-- the note is the note of an item with this body
abbrev pub IsNoteOf : Text → Note → Type 0
IsNoteOf body note = (tree : Tree) → IsTree name_limit tree → tree_bytes tree ≡ body → note ≡ note_of tree
