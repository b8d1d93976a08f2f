-- A part of a value in the code, as a part of the grammar.
use Rattle.bib_scan.specs.declared.value.Part.{Part}
use Rattle.bib_scan.specs.declared.value.Part.TheVariants as code
use Rattle.bib_spec.specs.Tree as tree

-- the part of the grammar of the same kind and with the same content
abbrev pub part_view : Part → tree.Part
part_view (code.Braced t) = tree.Braced t.now
part_view (code.Quoted t) = tree.Quoted t.now
part_view (code.Digits t) = tree.Digits t.now
part_view (code.Macro t) = tree.Macro t.now
