use Rattle.std.proofs.Common.{◌∙◌, sym}
use Rattle.std.proofs.lemmas.Result.{on_ok_weaker}
use Rattle.bib_entries.proofs.Tables.{named_index}
use Rattle.bib_entries.proofs.entry_table.add_key.Goals as goal

pub returns-clause-ok : goal.returns-clause-ok
returns-clause-ok c = on_ok_weaker c.add.result
    (λ added names none is. named_index names c.args.id c.args.key.now c.args.order.now c.add.new.self (sym c.is_empty.ensures ∙ c.if-is_empty.false) (added names none is)) c.add.ensures.ok
