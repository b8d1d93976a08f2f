use Rattle.std.proofs.Common.{arith, is_some, ◌≡◌, ◌∙◌, ap, sym, Some, if◌then◌else◌}
use Rattle.std.specs.Str.{bytes_eq}
use Rattle.bib_spec.specs.Text.{Text, folded}
use Rattle.folded_map.specs.FoldedMap.{value_at}
use Rattle.folded_map.proofs.Entries.{value_at-get, value_at-updates, names_stay_short, folded_long, folded_short}
use Rattle.folded_map.proofs.map.FoldedMap.replace.Goals as goal

pub returns-then-name-gt-NAME_LIMIT-clause-value : goal.returns-then-name-gt-NAME_LIMIT-clause-value
returns-then-name-gt-NAME_LIMIT-clause-value g c =
    sym (c.self.invariant (folded c.args.name.now) (folded_long c.args.name.now c.if-name-gt-NAME_LIMIT.true))
    ∙ ap (λ l. value_at l (folded c.args.name.now)) c.self.view_is

pub returns-in_err-kept-clause-value : goal.returns-in_err-kept-clause-value
returns-in_err-kept-clause-value g c =
    c.from_residual.ensures
    ∙ c.in_err-kept.ensures.value
    ∙ value_at-get c.self.inside.entries c.of.result
    ∙ ap (value_at _) (c.of.ensures)
    ∙ ap (λ l. value_at l (folded c.args.name.now)) c.self.view_is

told : (g : _) (c : goal.After-self-2-1 g) (x : Text) → value_at (c.get_mut.follows.lender c.replace.new.dest).entries x ≡ (if bytes_eq x (folded c.args.name.now) then Some c.replace.new.dest else value_at c.self.inside.entries.entries x)
told g c x =
    value_at-updates c.self.inside.entries (c.get_mut.follows.lender c.replace.new.dest) c.of.result (Some c.replace.new.dest)
    ((c.get_mut.follows.holds c.replace.new.dest).3 (ap is_some (sym c.in_ok-kept.ensures.value))) x
    ∙ ap (λ (t : Text). if bytes_eq x t then Some c.replace.new.dest else value_at c.self.inside.entries.entries x) (c.of.ensures)

pub invariant_of-self-2 : goal.invariant_of-self-2
invariant_of-self-2 g c =
    names_stay_short c.self.inside.entries.entries (c.get_mut.follows.lender c.replace.new.dest).entries (folded c.args.name.now) (Some c.replace.new.dest)
    (folded_short c.args.name.now (omega (arith, c.if-name-gt-NAME_LIMIT.false))) (told g c) c.self.invariant

pub returns-clause-value : goal.returns-clause-value
returns-clause-value g c =
    ap Some c.replace.ensures.value
    ∙ c.in_ok-kept.ensures.value
    ∙ value_at-get c.self.inside.entries c.of.result
    ∙ ap (value_at _) (c.of.ensures)
    ∙ ap (λ l. value_at l (folded c.args.name.now)) c.self.view_is

pub returns-clause-some : goal.returns-clause-some
returns-clause-some g c x =
    told g c x
    ∙ ap (λ v. if bytes_eq x (folded c.args.name.now) then Some v else value_at c.self.inside.entries.entries x) c.replace.ensures.after
    ∙ ap (λ l. if bytes_eq x (folded c.args.name.now) then Some c.args.value else value_at l x) c.self.view_is
