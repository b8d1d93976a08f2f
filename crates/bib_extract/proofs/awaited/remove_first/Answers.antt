use Rattle.std.proofs.Common.{◌∙◌, sym, ap}
use Rattle.bib_scan.specs.View.{View, field_seen}
use Rattle.bib_extract.proofs.NamesAwaited.{defined-gone}
use Rattle.bib_extract.proofs.awaited.remove_first.Goals as goal

pub returns-in-Some : goal.returns-in-Some
returns-in-Some c i ns seen is has =
    defined-gone i.tree (field_seen c.in-Some.field) _ ns c.args.names.now c.remove.new.self is (sym (ap (λ (v : View). v.fields) seen) ∙ sym c.fields.ensures.fields ∙ c.in-Some.ensures.steps) has c.remove.ensures.rest
