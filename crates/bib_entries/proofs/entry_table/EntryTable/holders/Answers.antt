use Rattle.std.proofs.Common.{◌∙◌, sym, subst}
use Rattle.bib_entries.specs.EntryTable.{IsTableOf}
use Rattle.bib_entries.proofs.Tables.{holders_counted}
use Rattle.bib_entries.proofs.entry_table.EntryTable.holders.Goals as goal

pub returns : goal.returns
returns c keys crossrefs t = c.count.ensures ∙ holders_counted c.args.key.now keys crossrefs _ (subst (IsTableOf keys crossrefs) (sym c.self.view_is) t)
