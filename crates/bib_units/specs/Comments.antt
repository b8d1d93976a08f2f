-- The comments of a file, each with the text after it.
use Rattle.std.specs.Prelude.{[]}
use Rattle.std.specs.List.{flat_map}
use Rattle.bib_spec.specs.Text.{Text}
use Rattle.bib_spec.specs.Tree.{Tree, CommentTree, DefinitionTree, PreambleTree, EntryTree}
use Rattle.bib_spec.specs.Reading.{Item, Reading, item_bytes}

-- the text, if it is that of a comment, and nothing of another item
abbrev pub if_comment : Tree → Text → Text
if_comment (CommentTree h) text = text
if_comment (DefinitionTree d) text = []
if_comment (PreambleTree p) text = []
if_comment (EntryTree e) text = []

-- the bytes of an item and of the text after it, if it is a comment
abbrev pub comment_bytes : Item → Text
comment_bytes i = if_comment i.tree (item_bytes i)

-- the bytes of the comments of a file, each with the text after it, one after another
abbrev pub comments_of : Reading → Text
comments_of r = flat_map comment_bytes r.items
