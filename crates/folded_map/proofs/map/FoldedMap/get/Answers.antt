use Rattle.std.proofs.Common.{◌∙◌, ap, sym}
use Rattle.bib_spec.specs.Text.{folded}
use Rattle.folded_map.specs.FoldedMap.{value_at}
use Rattle.folded_map.proofs.Entries.{value_at-get, folded_long}
use Rattle.folded_map.proofs.map.FoldedMap.get.Goals as goal

pub returns-then-name-gt-NAME_LIMIT : goal.returns-then-name-gt-NAME_LIMIT
returns-then-name-gt-NAME_LIMIT g c =
    sym (c.self.invariant (folded c.args.name.now) (folded_long c.args.name.now c.if-name-gt-NAME_LIMIT.true))
    ∙ ap (λ l. value_at l (folded c.args.name.now)) c.self.view_is

pub returns : goal.returns
returns g c =
    c.get.ensures.value
    ∙ value_at-get c.self.inside.entries c.of.result
    ∙ ap (value_at _) (c.of.ensures)
    ∙ ap (λ l. value_at l (folded c.args.name.now)) c.self.view_is
