use Rattle.std.proofs.Common.{◌∙◌, sym, subst}
use Rattle.bib_entries.specs.EntryTable.{IsTableOf}
use Rattle.bib_entries.proofs.Tables.{first_found, none_first}
use Rattle.bib_entries.proofs.entry_table.EntryTable.first.Goals as goal

pub returns-in-Some : goal.returns-in-Some
returns-in-Some c keys crossrefs t =
    first_found c.args.key.now keys crossrefs _ (subst (IsTableOf keys crossrefs) (sym c.self.view_is) t) c.in-Some.id c.position_of.result
    c.count.ensures.distinct (sym c.first.ensures ∙ c.in-Some.is) c.position_of.ensures.found c.position_of.ensures.none

pub returns-in-None : goal.returns-in-None
returns-in-None c keys crossrefs t =
    none_first c.args.key.now keys crossrefs _ (subst (IsTableOf keys crossrefs) (sym c.self.view_is) t) (sym c.first.ensures ∙ c.in-None.is)
