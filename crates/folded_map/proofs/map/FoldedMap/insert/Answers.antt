use Rattle.std.proofs.Common.{◌≡◌, ◌≤◌, ◌∙◌, ap, sym, subst, length, Some, if◌then◌else◌}
use Rattle.std.specs.Str.{bytes_eq}
use Rattle.bib_spec.specs.Text.{Text, folded}
use Rattle.folded_map.specs.FoldedMap.{value_at}
use Rattle.folded_map.proofs.Entries.{value_at-get, value_at-insert, names_stay_short, folded_short}
use Rattle.folded_map.proofs.map.FoldedMap.insert.Goals as goal

key : (g : _) (c : goal.In_ok-insert g) → c.in_ok-kept.kept ≡ folded c.args.name.now
key g c = c.in_ok-kept.ensures

pub invariant_of-self-2 : goal.invariant_of-self-2
invariant_of-self-2 g c =
    let short : length c.in_ok-kept.kept ≤ 255 = subst (λ (t : Text). length t ≤ 255) (sym (key g c)) (folded_short c.args.name.now c.requires) in
    let told : (x : Text) → value_at c.insert.new.self.entries x ≡ (if bytes_eq x c.in_ok-kept.kept then Some c.args.value else value_at c.self.inside.entries.entries x)
    = λ x. ap (λ l. value_at l x) c.in_ok-insert.ensures.entries ∙ value_at-insert c.self.inside.entries.entries c.in_ok-kept.kept c.args.value x in
    names_stay_short c.self.inside.entries.entries c.insert.new.self.entries c.in_ok-kept.kept (Some c.args.value) short told c.self.invariant

pub returns-clause-ok : goal.returns-clause-ok
returns-clause-ok g c x =
    ap (λ l. value_at l x) c.in_ok-insert.ensures.entries
    ∙ value_at-insert c.self.inside.entries.entries c.in_ok-kept.kept c.args.value x
    ∙ ap (λ (t : Text). if bytes_eq x t then Some c.args.value else value_at c.self.inside.entries.entries x) (key g c)
    ∙ ap (λ l. if bytes_eq x (folded c.args.name.now) then Some c.args.value else value_at l x) c.self.view_is

pub returns-clause-value : goal.returns-clause-value
returns-clause-value g c =
    c.in_ok-insert.ensures.old
    ∙ value_at-get c.self.inside.entries c.in_ok-kept.kept
    ∙ ap (value_at c.self.inside.entries.entries) (key g c)
    ∙ ap (λ l. value_at l (folded c.args.name.now)) c.self.view_is
