use Rattle.std.proofs.Common.{sym, refl, ◌∙◌, ap}
use Rattle.bib_scan.specs.View.{View}
use Rattle.bib_fields.proofs.Sourced.{source-item}
use Rattle.bib_fields.proofs.writing.source_of.Goals as goal

pub returns-in_ok-all-in-Entry : goal.returns-in_ok-all-in-Entry
returns-in_ok-all-in-Entry c i is seen =
    source-item i c.args.item _ is seen (sym (ap (λ (v : View). v.kind) seen) ∙ sym c.kind.ensures ∙ c.in-Entry.is) refl (c.in_ok-all-in-Entry.ensures ∙ c.fields.ensures.fields)
