use Rattle.std.proofs.Common.{◌∙◌, ap, sym}
use Rattle.bib_spec.specs.Text.{folded}
use Rattle.folded_map.specs.FoldedMap.{value_at}
use Rattle.folded_map.proofs.Entries.{value_at-get}
use Rattle.bibtex_places.specs.KeyTables.{Numbers}
use Rattle.bibtex_places.proofs.Numbers.{long_number}
use Rattle.bibtex_places.proofs.key_table.KeyTable.get.Goals as goal

pub returns : goal.returns
returns c =
    c.copied-2.ensures
    ∙ c.get-2.ensures.value
    ∙ value_at-get c.self.inside.long c.in_ok-folded.folded
    ∙ ap (value_at c.self.inside.long.entries) c.in_ok-folded.ensures
    ∙ ap (λ (t : Numbers). value_at t.long (folded c.args.key.now)) c.self.view_is
    ∙ sym (long_number c.args.self.now c.args.key.now c.if-key-le-NAME_LIMIT.false)
