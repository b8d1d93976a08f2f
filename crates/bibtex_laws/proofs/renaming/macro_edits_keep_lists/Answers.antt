use Rattle.bibtex_laws.proofs.MacroLists.{macro-edits-keep-lists}
use Rattle.bibtex_laws.proofs.renaming.macro_edits_keep_lists.Goals as goal

pub returns : goal.returns
returns c = macro-edits-keep-lists
