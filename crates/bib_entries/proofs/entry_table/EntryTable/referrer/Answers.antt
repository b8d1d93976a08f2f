use Rattle.std.proofs.Common.{◌∙◌, Some, sym, ap, subst}
use Rattle.std.specs.Prelude.{slice_get}
use Rattle.std.proofs.lemmas.Option.{slice_get-get_or, slice_get_past}
use Rattle.bib_spec.specs.Text.{folded}
use Rattle.bib_index.specs.KeyIndex.{has_text}
use Rattle.bib_entries.specs.EntryTable.{IsTableOf, refers}
use Rattle.bib_entries.proofs.Tables.{none_found, position_found, tests_crossrefs}
use Rattle.bib_entries.proofs.entry_table.EntryTable.referrer.Goals as goal

pub returns-in-Some : goal.returns-in-Some
returns-in-Some c keys crossrefs t =
    let inside = subst (IsTableOf keys crossrefs) (sym c.self.view_is) t in
    let referring = inside.referring in
    position_found (has_text referring.names (folded c.args.key.now)) (refers c.args.key.now) c.self.inside.order crossrefs c.args.k c.position_of.result c.in-Some.id.now
    (tests_crossrefs referring.names c.args.key.now c.self.inside.order crossrefs c.requires referring.named) c.count.ensures.distinct
    (ap (λ ids. slice_get ids c.args.k) (sym (c.holders.ensures ∙ referring.index (folded c.args.key.now))) ∙ slice_get-get_or c.holders.result.now c.args.k c.in-Some.id.now c.in-Some.ensures.lookup.3.0 ∙ ap Some (sym c.in-Some.ensures.lookup.1)) c.position_of.ensures.found c.position_of.ensures.none

pub returns-in-None : goal.returns-in-None
returns-in-None c keys crossrefs t =
    let inside = subst (IsTableOf keys crossrefs) (sym c.self.view_is) t in
    let referring = inside.referring in
    sym (none_found (has_text referring.names (folded c.args.key.now)) (refers c.args.key.now) 0 c.self.inside.order crossrefs c.args.k
    (tests_crossrefs referring.names c.args.key.now c.self.inside.order crossrefs c.requires referring.named)
    (ap (λ ids. slice_get ids c.args.k) (sym (c.holders.ensures ∙ referring.index (folded c.args.key.now))) ∙ slice_get_past c.holders.result.now c.args.k c.in-None.ensures.lookup.3))
