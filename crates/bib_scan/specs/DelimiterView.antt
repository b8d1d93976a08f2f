-- A delimiter of the code, as a delimiter of the grammar.
use Rattle.bib_scan.specs.declared.opening.Delimiter.{Delimiter}
use Rattle.bib_scan.specs.declared.opening.Delimiter.TheVariants as code
use Rattle.bib_spec.specs.Tree as tree

-- the delimiter of the grammar with the same name
abbrev pub delimiter_view : Delimiter → tree.Delimiter
delimiter_view code.Brace = tree.Brace
delimiter_view code.Paren = tree.Paren
