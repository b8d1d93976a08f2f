use Rattle.bib_scan.specs.View.{View}
use Rattle.std.proofs.Common.{◌∙◌, sym, ap}
use Rattle.bib_extract.proofs.NamesAwaited.{definition-stays}
use Rattle.bib_extract.proofs.awaited.stays.Goals as goal

pub returns-in-Macro : goal.returns-in-Macro
returns-in-Macro c i keeps n ns seen is has =
    let kind = sym (ap (λ (v : View). v.kind) seen) ∙ sym c.kind.ensures in
    c.is_awaited.ensures i ns seen (kind ∙ c.in-Macro.is) has ∙ definition-stays i.tree keeps n ns (kind ∙ c.in-Macro.is)
