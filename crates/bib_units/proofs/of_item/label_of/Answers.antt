use Rattle.std.proofs.Common.{◌∙◌, sym, ap}
use Rattle.bib_scan.specs.View.{View}
use Rattle.bib_units.proofs.of_item.label_of.Goals as goal

pub returns-in-Entry : goal.returns-in-Entry
returns-in-Entry c tree trail seen bytes other = c.entry_label.ensures tree trail seen bytes (sym (ap (λ (v : View). v.kind) seen) ∙ sym c.kind.ensures ∙ c.in-Entry.is)

pub returns-in-Macro : goal.returns-in-Macro
returns-in-Macro c tree trail seen bytes other = c.macro_label.ensures tree trail seen bytes (sym (ap (λ (v : View). v.kind) seen) ∙ sym c.kind.ensures ∙ c.in-Macro.is)
