use Rattle.std.proofs.Common.{◌∙◌, is_some, sym, ap}
use Rattle.bib_scan.specs.View.{View, field_seen}
use Rattle.bib_extract.proofs.NamesAwaited.{defined-awaited, defined-some, some-copied}
use Rattle.bib_extract.proofs.awaited.is_awaited.Goals as goal

pub returns-in-Some : goal.returns-in-Some
returns-in-Some c i ns seen is has =
    c.is_some.ensures ∙ some-copied c.get.result ∙ ap is_some c.get.ensures
    ∙ defined-awaited i.tree (field_seen c.in-Some.field) _ ns c.args.names.now is (sym (ap (λ (v : View). v.fields) seen) ∙ sym c.fields.ensures.fields ∙ c.in-Some.ensures.steps) has

pub returns-in-None : goal.returns-in-None
returns-in-None c i ns seen is has = absurd (defined-some i.tree is (sym (ap (λ (v : View). v.fields) seen) ∙ sym c.fields.ensures.fields ∙ c.in-None.ensures.steps.0))
