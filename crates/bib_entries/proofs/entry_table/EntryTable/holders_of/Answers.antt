use Rattle.std.proofs.Common.{◌∙◌, ℕ, List, length, sym, ap, subst}
use Rattle.std.specs.Prelude.{slice_get}
use Rattle.std.specs.Option.{option_map}
use Rattle.bib_entries.specs.declared.entry_table.Holders.{Holders}
use Rattle.bib_entries.specs.EntryTable.{IsTableOf}
use Rattle.bib_entries.proofs.Tables.{first_found, none_first, holders_counted}
use Rattle.bib_entries.proofs.entry_table.EntryTable.holders_of.Goals as goal

pub returns-in_err-id-clause-first : goal.returns-in_err-id-clause-first
returns-in_err-id-clause-first c keys crossrefs t =
    ap (option_map (λ (h : Holders). h.first)) c.from_residual.ensures
    ∙ none_first c.args.key.now keys crossrefs _ (subst (IsTableOf keys crossrefs) (sym c.self.view_is) t)
    (ap (λ (ids : List ℕ). slice_get ids 0) (sym c.holders-ids.ensures) ∙ sym c.in_err-id.ensures.value)

pub returns-in_err-first-clause-first : goal.returns-in_err-first-clause-first
returns-in_err-first-clause-first c keys crossrefs t =
    ap (option_map (λ (h : Holders). h.first)) c.from_residual-in_err-first.ensures ∙ sym c.in_err-first.was
    ∙ first_found c.args.key.now keys crossrefs _ (subst (IsTableOf keys crossrefs) (sym c.self.view_is) t) c.in_ok-id.id.now c.position_of.result
    c.count.ensures.distinct (ap (λ (ids : List ℕ). slice_get ids 0) (sym c.holders-ids.ensures) ∙ sym c.in_ok-id.ensures.value) c.position_of.ensures.found c.position_of.ensures.none

pub returns-clause-first : goal.returns-clause-first
returns-clause-first c keys crossrefs t =
    sym c.in_ok-first.was
    ∙ first_found c.args.key.now keys crossrefs _ (subst (IsTableOf keys crossrefs) (sym c.self.view_is) t) c.in_ok-id.id.now c.position_of.result
    c.count.ensures.distinct (ap (λ (ids : List ℕ). slice_get ids 0) (sym c.holders-ids.ensures) ∙ sym c.in_ok-id.ensures.value) c.position_of.ensures.found c.position_of.ensures.none

pub returns-clause-count : goal.returns-clause-count
returns-clause-count c keys crossrefs t =
    ap length c.holders-ids.ensures ∙ holders_counted c.args.key.now keys crossrefs _ (subst (IsTableOf keys crossrefs) (sym c.self.view_is) t)
