use Rattle.std.proofs.Common.{◌∙◌, ap, sym, Some, if◌then◌else◌}
use Rattle.std.specs.Str.{bytes_eq}
use Rattle.bib_spec.specs.Text.{Text, folded}
use Rattle.folded_map.specs.FoldedMap.{value_at}
use Rattle.folded_map.proofs.Entries.{value_at-get, value_at-insert}
use Rattle.bibtex_places.specs.KeyTables.{Numbers}
use Rattle.bibtex_places.proofs.Numbers.{long_number, numbered_long}
use Rattle.bibtex_places.proofs.key_table.KeyTable.set.Goals as goal

pub returns-clause-former : goal.returns-clause-former
returns-clause-former c =
    c.in_ok-former-2.ensures.old
    ∙ value_at-get c.self.inside.long c.in_ok-folded.folded
    ∙ ap (value_at c.self.inside.long.entries) c.in_ok-folded.ensures
    ∙ ap (λ (t : Numbers). value_at t.long (folded c.args.key.now)) c.self.view_is
    ∙ sym (long_number c.args.self.now c.args.key.now c.if-key-le-NAME_LIMIT.false)

pub returns-clause-numbered : goal.returns-clause-numbered
returns-clause-numbered c =
    let key : Text = c.args.key.now in
    let old : Numbers = c.args.self.now in
    numbered_long old (record { short = c.self.inside.short; long = c.insert-2.new.self.entries }) key c.args.n c.if-key-le-NAME_LIMIT.false
    (λ x.
    ap (λ l. value_at l x) c.in_ok-former-2.ensures.entries
    ∙ value_at-insert c.self.inside.long.entries c.in_ok-folded.folded c.args.n x
    ∙ ap (λ (t : Text). if bytes_eq x t then Some c.args.n else value_at c.self.inside.long.entries x) c.in_ok-folded.ensures
    ∙ ap (λ (t : Numbers). if bytes_eq x (folded key) then Some c.args.n else value_at t.long x) c.self.view_is)
    (ap (λ (t : Numbers). t.short) c.self.view_is)
