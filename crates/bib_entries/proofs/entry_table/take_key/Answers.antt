use Rattle.std.proofs.Common.{◌∙◌, sym}
use Rattle.bib_entries.proofs.Tables.{dropped_index, name_of-some}
use Rattle.bib_entries.proofs.entry_table.take_key.Goals as goal

pub returns-then-not-is_empty : goal.returns-then-not-is_empty
returns-then-not-is_empty c names order its is =
    dropped_index names c.args.id order c.remove.new.self (c.remove.ensures names order (its ∙ name_of-some c.args.key.now (sym c.is_empty.ensures ∙ c.if-not-is_empty.true)) is)
