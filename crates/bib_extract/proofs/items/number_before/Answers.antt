use Rattle.std.proofs.Common.{◌∙◌, sym, ap}
use Rattle.bib_scan.specs.View.{View}
use Rattle.bib_extract.proofs.WalkedItems.{number-before_entry}
use Rattle.bib_extract.proofs.items.number_before.Goals as goal

pub returns-in-Entry : goal.returns-in-Entry
returns-in-Entry c i m seen at = c.saturating_sub.ensures ∙ number-before_entry i.tree c.args.n m (sym (ap (λ (v : View). v.kind) seen) ∙ sym c.kind.ensures ∙ c.in-Entry.is) at
