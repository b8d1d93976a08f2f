use Rattle.std.proofs.Common.{◌∙◌, ℕ, List, Some, sym, ap, subst}
use Rattle.std.specs.Prelude.{slice_get}
use Rattle.std.proofs.lemmas.Option.{slice_get-get_or, slice_get_past}
use Rattle.bib_entries.specs.EntryTable.{IsTableOf}
use Rattle.bib_entries.proofs.Tables.{nth_found, none_nth}
use Rattle.bib_entries.proofs.entry_table.EntryTable.nth_holder.Goals as goal

pub returns-in-Some : goal.returns-in-Some
returns-in-Some c keys crossrefs t =
    nth_found c.args.key.now keys crossrefs _ (subst (IsTableOf keys crossrefs) (sym c.self.view_is) t) c.args.k c.in-Some.id.now c.position_of.result c.count.ensures.distinct
    (ap (λ (ids : List ℕ). slice_get ids c.args.k) (sym c.holders.ensures) ∙ slice_get-get_or c.holders.result.now c.args.k c.in-Some.id.now c.in-Some.ensures.lookup.3.0 ∙ ap Some (sym c.in-Some.ensures.lookup.1))
    c.position_of.ensures.found c.position_of.ensures.none

pub returns-in-None : goal.returns-in-None
returns-in-None c keys crossrefs t =
    none_nth c.args.key.now keys crossrefs _ (subst (IsTableOf keys crossrefs) (sym c.self.view_is) t) c.args.k
    (ap (λ (ids : List ℕ). slice_get ids c.args.k) (sym c.holders.ensures) ∙ slice_get_past c.holders.result.now c.args.k c.in-None.ensures.lookup.3)
