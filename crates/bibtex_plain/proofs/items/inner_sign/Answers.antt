use Rattle.std.proofs.Common.{◌∙◌, sym, ap}
use Rattle.bib_scan.specs.View.{View}
use Rattle.bibtex_plain.proofs.ItemSteps.{inner_found}
use Rattle.bibtex_plain.proofs.items.inner_sign.Goals as goal

pub returns-clause-sign : goal.returns-clause-sign
returns-clause-sign c i keys seen repeated =
    inner_found i.tree keys c.body.result.now c.key.result.now c.key_at.result c.next_sign.result
    (c.body.ensures ∙ ap (λ (v : View). v.body) seen)
    (c.key.ensures ∙ ap (λ (v : View). v.key) seen)
    (c.key_at.ensures ∙ ap (λ (v : View). v.key_at) seen)
    (sym c.if-not-is_repeated.false ∙ repeated)
    c.next_sign.ensures
