use Rattle.std.proofs.Common.{[]}
use Rattle.bib_entries.proofs.Tables.{no_table}
use Rattle.bib_entries.proofs.entry_table.EntryTable.new.Goals as goal

pub returns : goal.returns
returns c = no_table (record { ids = c.new.result; keys = c.new-2.result; crossrefs = c.new-3.result.items; referring = c.new-4.result }) c.new.ensures (c.new-2.ensures.index []) (c.new-4.ensures.index [])
