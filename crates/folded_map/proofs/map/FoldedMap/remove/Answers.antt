use Rattle.std.proofs.Common.{arith, ◌≡◌, ◌∙◌, ap, sym, None, if◌then◌else◌}
use Rattle.std.specs.Str.{bytes_eq}
use Rattle.bib_spec.specs.Text.{Text, folded}
use Rattle.folded_map.specs.FoldedMap.{value_at}
use Rattle.folded_map.proofs.Entries.{value_at-get, value_at-updates, value_at-absent, names_stay_short, folded_long, folded_short}
use Rattle.folded_map.proofs.map.FoldedMap.remove.Goals as goal

pub returns-then-name-gt-NAME_LIMIT-clause-value : goal.returns-then-name-gt-NAME_LIMIT-clause-value
returns-then-name-gt-NAME_LIMIT-clause-value g c =
    sym (c.self.invariant (folded c.args.name.now) (folded_long c.args.name.now c.if-name-gt-NAME_LIMIT.true))
    ∙ ap (λ l. value_at l (folded c.args.name.now)) c.self.view_is

pub returns-then-name-gt-NAME_LIMIT-clause-rest : goal.returns-then-name-gt-NAME_LIMIT-clause-rest
returns-then-name-gt-NAME_LIMIT-clause-rest g c =
    value_at-absent c.args.self.now (folded c.args.name.now) (sym (returns-then-name-gt-NAME_LIMIT-clause-value g c))

told : (g : _) (c : goal.After-swap_remove g) (x : Text) → value_at c.swap_remove.new.self.entries x ≡ (if bytes_eq x (folded c.args.name.now) then None else value_at c.self.inside.entries.entries x)
told g c x =
    value_at-updates c.self.inside.entries c.swap_remove.new.self c.of.result None c.swap_remove.ensures.updates x
    ∙ ap (λ (t : Text). if bytes_eq x t then None else value_at c.self.inside.entries.entries x) (c.of.ensures)

pub invariant_of-self : goal.invariant_of-self
invariant_of-self g c =
    names_stay_short c.self.inside.entries.entries c.swap_remove.new.self.entries (folded c.args.name.now) None
    (folded_short c.args.name.now (omega (arith, c.if-name-gt-NAME_LIMIT.false))) (told g c) c.self.invariant

pub returns-clause-value : goal.returns-clause-value
returns-clause-value g c =
    c.swap_remove.ensures.value
    ∙ value_at-get c.self.inside.entries c.of.result
    ∙ ap (value_at _) (c.of.ensures)
    ∙ ap (λ l. value_at l (folded c.args.name.now)) c.self.view_is

pub returns-clause-rest : goal.returns-clause-rest
returns-clause-rest g c x =
    told g c x
    ∙ ap (λ l. if bytes_eq x (folded c.args.name.now) then None else value_at l x) c.self.view_is
