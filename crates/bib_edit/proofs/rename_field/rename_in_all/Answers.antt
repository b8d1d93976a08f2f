use Rattle.bib_edit.proofs.Words.{◌≡◌, ◌∙◌, sym, ap, subst, refl, List, Piece, None, tokens_seen, ArePiecesOf, IsAllowedEdit, replaced}
use Rattle.bib_data.specs.declared.edit.Edit.TheVariants as asked
use Rattle.bib_edit.proofs.Results.{if_ok-as, on_ok-as, if_err-as}
use Rattle.bib_edit.proofs.RenamedFields.{found-all, refused-names, refused-renaming, allowed-renaming, pieces-renaming, within-renaming}
use Rattle.bib_edit.proofs.rename_field.rename_in_all.Goals as goal

pub returns-then-not-are_renamable-clause-refused : goal.returns-then-not-are_renamable-clause-refused
returns-then-not-are_renamable-clause-refused g c = refused-names c.args.db.now c.args.from.now c.args.to.now None refl (sym c.are_renamable.ensures ∙ c.if-not-are_renamable.true)

pub renaming-requires : goal.renaming-requires
renaming-requires g c =
    within-renaming c.args.db.now c.args.from.now c.args.to.now None refl (sym c.are_renamable.ensures ∙ c.if-not-are_renamable.false) (tokens_seen c.as_slice.result.now) c.in_ok-found.found.clashes
    (found-all c.args.db.now c.args.from.now c.args.to.now (tokens_seen c.as_slice.result.now) c.in_ok-found.found.clashes (λ db reads. ap tokens_seen c.as_slice.ensures.value ∙ c.in_ok-found.ensures.names db reads) c.in_ok-found.ensures.clashes)
    c.opens.ensures

pub returns-clause-pieces : goal.returns-clause-pieces
returns-clause-pieces g c =
    if_ok-as (λ (ps : List Piece). ps ≡ replaced c.args.to.now (tokens_seen c.as_slice.result.now)) (ArePiecesOf c.args.db.now (asked.RenameField c.args.from.now c.args.to.now None))
    (λ ps is. subst (ArePiecesOf c.args.db.now (asked.RenameField c.args.from.now c.args.to.now None)) (sym is)
    (pieces-renaming c.args.db.now c.args.from.now c.args.to.now None refl (sym c.are_renamable.ensures ∙ c.if-not-are_renamable.false) (tokens_seen c.as_slice.result.now) c.in_ok-found.found.clashes
    (found-all c.args.db.now c.args.from.now c.args.to.now (tokens_seen c.as_slice.result.now) c.in_ok-found.found.clashes (λ db reads. ap tokens_seen c.as_slice.ensures.value ∙ c.in_ok-found.ensures.names db reads) c.in_ok-found.ensures.clashes)))
    c.renaming.result c.renaming.ensures.pieces

pub returns-clause-allowed : goal.returns-clause-allowed
returns-clause-allowed g c =
    on_ok-as _ (IsAllowedEdit c.args.db.now (asked.RenameField c.args.from.now c.args.to.now None))
    (allowed-renaming c.args.db.now c.args.from.now c.args.to.now None refl (sym c.are_renamable.ensures ∙ c.if-not-are_renamable.false) (tokens_seen c.as_slice.result.now) c.in_ok-found.found.clashes
    (found-all c.args.db.now c.args.from.now c.args.to.now (tokens_seen c.as_slice.result.now) c.in_ok-found.found.clashes (λ db reads. ap tokens_seen c.as_slice.ensures.value ∙ c.in_ok-found.ensures.names db reads) c.in_ok-found.ensures.clashes)
    c.opens.ensures)
    c.renaming.result c.renaming.ensures.allowed

pub returns-clause-refused : goal.returns-clause-refused
returns-clause-refused g c =
    if_err-as _ _
    (refused-renaming c.args.db.now c.args.from.now c.args.to.now None refl (sym c.are_renamable.ensures ∙ c.if-not-are_renamable.false) (tokens_seen c.as_slice.result.now) c.in_ok-found.found.clashes
    (found-all c.args.db.now c.args.from.now c.args.to.now (tokens_seen c.as_slice.result.now) c.in_ok-found.found.clashes (λ db reads. ap tokens_seen c.as_slice.ensures.value ∙ c.in_ok-found.ensures.names db reads) c.in_ok-found.ensures.clashes))
    c.renaming.result c.renaming.ensures.refused
