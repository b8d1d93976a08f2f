use Rattle.bib_edit.proofs.Words.{◌≡◌, ◌∙◌, sym, ap, subst, List, Piece, Some, tokens_seen, ArePiecesOf, IsAllowedEdit, replaced}
use Rattle.bib_data.specs.declared.edit.Edit.TheVariants as asked
use Rattle.bib_edit.proofs.Results.{if_ok-as, on_ok-as, if_err-as}
use Rattle.bib_edit.proofs.NamedEntries.{named-within, held-item}
use Rattle.bib_edit.proofs.SettingPieces.{item-within}
use Rattle.bib_edit.proofs.RenamedFields.{found-held, refused-names, refused-key, refused-renaming, allowed-renaming, pieces-renaming, within-renaming}
use Rattle.bib_edit.proofs.rename_field.rename_in_entry.Goals as goal

pub returns-then-not-are_renamable-clause-refused : goal.returns-then-not-are_renamable-clause-refused
returns-then-not-are_renamable-clause-refused g c = refused-names c.args.db.now c.args.from.now c.args.to.now (Some c.args.key.now) c.requires (sym c.are_renamable.ensures ∙ c.if-not-are_renamable.true)

pub returns-in-None-clause-refused : goal.returns-in-None-clause-refused
returns-in-None-clause-refused g c = refused-key c.args.db.now c.args.from.now c.args.to.now c.args.key.now c.requires (sym c.are_renamable.ensures ∙ c.if-not-are_renamable.false) c.in-None.ensures.first

pub entry_item-n-requires : goal.entry_item-n-requires
entry_item-n-requires g c db reads = named-within c.args.key.now db c.in-Some.held.first (sym (c.in-Some.ensures.first db reads))

pub found_in_item-requires : goal.found_in_item-requires
found_in_item-requires g c db reads =
    item-within c.args.db.now c.entry_item-n.result (c.args.key.now, held-item c.args.key.now c.args.db.now c.in-Some.held.first c.entry_item-n.result c.in-Some.ensures.first c.entry_item-n.ensures) db reads

pub renaming-requires : goal.renaming-requires
renaming-requires g c =
    within-renaming c.args.db.now c.args.from.now c.args.to.now (Some c.args.key.now) c.requires (sym c.are_renamable.ensures ∙ c.if-not-are_renamable.false) (tokens_seen c.as_slice.result.now) c.are_two-is_ambiguous.result
    (found-held c.args.db.now c.args.from.now c.args.to.now c.args.key.now c.in-Some.held.first c.entry_item-n.result c.in-Some.held.count (tokens_seen c.as_slice.result.now) c.in_ok-found.found.clashes c.are_two-is_ambiguous.result
    c.in-Some.ensures.first c.entry_item-n.ensures (λ db reads item at. ap tokens_seen c.as_slice.ensures.value ∙ c.in_ok-found.ensures.names db reads item at) c.in_ok-found.ensures.clashes c.in-Some.ensures.count c.are_two-is_ambiguous.ensures)
    c.opens.ensures

pub returns-clause-pieces : goal.returns-clause-pieces
returns-clause-pieces g c =
    if_ok-as (λ (ps : List Piece). ps ≡ replaced c.args.to.now (tokens_seen c.as_slice.result.now)) (ArePiecesOf c.args.db.now (asked.RenameField c.args.from.now c.args.to.now (Some c.args.key.now)))
    (λ ps is. subst (ArePiecesOf c.args.db.now (asked.RenameField c.args.from.now c.args.to.now (Some c.args.key.now))) (sym is)
    (pieces-renaming c.args.db.now c.args.from.now c.args.to.now (Some c.args.key.now) c.requires (sym c.are_renamable.ensures ∙ c.if-not-are_renamable.false) (tokens_seen c.as_slice.result.now) c.are_two-is_ambiguous.result
    (found-held c.args.db.now c.args.from.now c.args.to.now c.args.key.now c.in-Some.held.first c.entry_item-n.result c.in-Some.held.count (tokens_seen c.as_slice.result.now) c.in_ok-found.found.clashes c.are_two-is_ambiguous.result
    c.in-Some.ensures.first c.entry_item-n.ensures (λ db reads item at. ap tokens_seen c.as_slice.ensures.value ∙ c.in_ok-found.ensures.names db reads item at) c.in_ok-found.ensures.clashes c.in-Some.ensures.count c.are_two-is_ambiguous.ensures)))
    c.renaming.result c.renaming.ensures.pieces

pub returns-clause-allowed : goal.returns-clause-allowed
returns-clause-allowed g c =
    on_ok-as _ (IsAllowedEdit c.args.db.now (asked.RenameField c.args.from.now c.args.to.now (Some c.args.key.now)))
    (allowed-renaming c.args.db.now c.args.from.now c.args.to.now (Some c.args.key.now) c.requires (sym c.are_renamable.ensures ∙ c.if-not-are_renamable.false) (tokens_seen c.as_slice.result.now) c.are_two-is_ambiguous.result
    (found-held c.args.db.now c.args.from.now c.args.to.now c.args.key.now c.in-Some.held.first c.entry_item-n.result c.in-Some.held.count (tokens_seen c.as_slice.result.now) c.in_ok-found.found.clashes c.are_two-is_ambiguous.result
    c.in-Some.ensures.first c.entry_item-n.ensures (λ db reads item at. ap tokens_seen c.as_slice.ensures.value ∙ c.in_ok-found.ensures.names db reads item at) c.in_ok-found.ensures.clashes c.in-Some.ensures.count c.are_two-is_ambiguous.ensures)
    c.opens.ensures)
    c.renaming.result c.renaming.ensures.allowed

pub returns-clause-refused : goal.returns-clause-refused
returns-clause-refused g c =
    if_err-as _ _
    (refused-renaming c.args.db.now c.args.from.now c.args.to.now (Some c.args.key.now) c.requires (sym c.are_renamable.ensures ∙ c.if-not-are_renamable.false) (tokens_seen c.as_slice.result.now) c.are_two-is_ambiguous.result
    (found-held c.args.db.now c.args.from.now c.args.to.now c.args.key.now c.in-Some.held.first c.entry_item-n.result c.in-Some.held.count (tokens_seen c.as_slice.result.now) c.in_ok-found.found.clashes c.are_two-is_ambiguous.result
    c.in-Some.ensures.first c.entry_item-n.ensures (λ db reads item at. ap tokens_seen c.as_slice.ensures.value ∙ c.in_ok-found.ensures.names db reads item at) c.in_ok-found.ensures.clashes c.in-Some.ensures.count c.are_two-is_ambiguous.ensures))
    c.renaming.result c.renaming.ensures.refused
