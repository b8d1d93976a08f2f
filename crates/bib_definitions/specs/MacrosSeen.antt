-- Macros as items see them.
use Rattle.bib_spec.specs.Texts.{Macros}
use Rattle.bib_definitions.specs.ByName.{texts_before}
use Rattle.bib_definitions.specs.declared.macros_at.MacrosAt.{MacrosAt}

-- what the macros stand for
abbrev pub macros_seen : MacrosAt → Macros
macros_seen m = texts_before m.names.now m.label
