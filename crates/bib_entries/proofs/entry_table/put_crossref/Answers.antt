use Rattle.std.proofs.Common.{arith}
use Rattle.bib_entries.proofs.Tables.{none_given}
use Rattle.bib_entries.proofs.entry_table.put_crossref.Goals as goal

pub returns-else-id-len : goal.returns-else-id-len
returns-else-id-len c = none_given c.args.crossrefs.now.items c.args.id c.args.crossref c.requires (omega (arith, c.if-id-len.false, c.len.ensures, c.args.crossrefs.now.ok.0))
