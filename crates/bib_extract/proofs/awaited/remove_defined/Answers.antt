use Rattle.std.proofs.Common.{◌∙◌, sym, ap}
use Rattle.bib_scan.specs.View.{View}
use Rattle.bib_extract.proofs.awaited.remove_defined.Goals as goal

pub returns-in-Macro : goal.returns-in-Macro
returns-in-Macro c i ns seen has = c.remove_first.ensures i ns seen (sym (ap (λ (v : View). v.kind) seen) ∙ sym c.kind.ensures ∙ c.in-Macro.is) has
