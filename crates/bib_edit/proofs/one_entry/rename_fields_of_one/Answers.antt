use Rattle.bib_edit.proofs.Words.{◌≡◌, ◌∙◌, sym, ap, subst, List, Piece, tokens_seen, replaced}
use Rattle.edit_spec.specs.Edits.{RenamesFields}
use Rattle.bib_edit.specs.Numbers.{which_seen}
use Rattle.bib_edit.specs.OneOfSeveral.{ArePiecesFor, IsAllowedFor, change}
use Rattle.bib_edit.proofs.Results.{if_ok-as, on_ok-as, if_err-as}
use Rattle.bib_edit.proofs.MeantItems.{meant-within}
use Rattle.bib_edit.proofs.RenamedOne.{found-meant, refused-names_of_one, refused-missing_one, refused-renaming_of_one, allowed-renaming_of_one, pieces-renaming_of_one, within-renaming_of_one}
use Rattle.bib_edit.proofs.one_entry.rename_fields_of_one.Goals as goal

pub returns-then-not-are_renamable-clause-refused : goal.returns-then-not-are_renamable-clause-refused
returns-then-not-are_renamable-clause-refused g c = refused-names_of_one c.args.db.now c.args.key c.args.from.now c.args.to.now (sym c.are_renamable.ensures ∙ c.if-not-are_renamable.true)

pub returns-in_default-clause-refused : goal.returns-in_default-clause-refused
returns-in_default-clause-refused g c = refused-missing_one c.args.db.now c.args.key c.args.from.now c.args.to.now (sym c.are_renamable.ensures ∙ c.if-not-are_renamable.false) c.in_default.ensures

pub found_in_item-requires : goal.found_in_item-requires
found_in_item-requires g c db reads = meant-within (which_seen c.args.key) db c.in-Some.n (sym (c.in-Some.ensures db reads))

pub renaming-requires : goal.renaming-requires
renaming-requires g c =
    within-renaming_of_one c.args.db.now c.args.key c.args.from.now c.args.to.now (sym c.are_renamable.ensures ∙ c.if-not-are_renamable.false) c.in-Some.n (tokens_seen c.as_slice.result.now) c.are_two-is_ambiguous.result
    (found-meant c.args.db.now c.args.key c.args.from.now c.args.to.now c.in-Some.n (tokens_seen c.as_slice.result.now) c.in_ok-found.found.clashes c.are_two-is_ambiguous.result
    c.in-Some.ensures (λ db reads item at. ap tokens_seen c.as_slice.ensures.value ∙ c.in_ok-found.ensures.names db reads item at) c.in_ok-found.ensures.clashes c.are_two-is_ambiguous.ensures)
    c.opens.ensures

pub returns-clause-pieces : goal.returns-clause-pieces
returns-clause-pieces g c =
    if_ok-as (λ (ps : List Piece). ps ≡ replaced c.args.to.now (tokens_seen c.as_slice.result.now)) (ArePiecesFor (change c.args.key (RenamesFields c.args.from.now c.args.to.now)) c.args.db.now)
    (λ ps is. subst (ArePiecesFor (change c.args.key (RenamesFields c.args.from.now c.args.to.now)) c.args.db.now) (sym is)
    (pieces-renaming_of_one c.args.db.now c.args.key c.args.from.now c.args.to.now (sym c.are_renamable.ensures ∙ c.if-not-are_renamable.false) c.in-Some.n (tokens_seen c.as_slice.result.now) c.are_two-is_ambiguous.result
    (found-meant c.args.db.now c.args.key c.args.from.now c.args.to.now c.in-Some.n (tokens_seen c.as_slice.result.now) c.in_ok-found.found.clashes c.are_two-is_ambiguous.result
    c.in-Some.ensures (λ db reads item at. ap tokens_seen c.as_slice.ensures.value ∙ c.in_ok-found.ensures.names db reads item at) c.in_ok-found.ensures.clashes c.are_two-is_ambiguous.ensures)))
    c.renaming.result c.renaming.ensures.pieces

pub returns-clause-allowed : goal.returns-clause-allowed
returns-clause-allowed g c =
    on_ok-as _ (IsAllowedFor (change c.args.key (RenamesFields c.args.from.now c.args.to.now)) c.args.db.now)
    (allowed-renaming_of_one c.args.db.now c.args.key c.args.from.now c.args.to.now (sym c.are_renamable.ensures ∙ c.if-not-are_renamable.false) c.in-Some.n (tokens_seen c.as_slice.result.now) c.are_two-is_ambiguous.result
    (found-meant c.args.db.now c.args.key c.args.from.now c.args.to.now c.in-Some.n (tokens_seen c.as_slice.result.now) c.in_ok-found.found.clashes c.are_two-is_ambiguous.result
    c.in-Some.ensures (λ db reads item at. ap tokens_seen c.as_slice.ensures.value ∙ c.in_ok-found.ensures.names db reads item at) c.in_ok-found.ensures.clashes c.are_two-is_ambiguous.ensures)
    c.opens.ensures)
    c.renaming.result c.renaming.ensures.allowed

pub returns-clause-refused : goal.returns-clause-refused
returns-clause-refused g c =
    if_err-as _ _
    (refused-renaming_of_one c.args.db.now c.args.key c.args.from.now c.args.to.now (sym c.are_renamable.ensures ∙ c.if-not-are_renamable.false) c.in-Some.n (tokens_seen c.as_slice.result.now) c.are_two-is_ambiguous.result
    (found-meant c.args.db.now c.args.key c.args.from.now c.args.to.now c.in-Some.n (tokens_seen c.as_slice.result.now) c.in_ok-found.found.clashes c.are_two-is_ambiguous.result
    c.in-Some.ensures (λ db reads item at. ap tokens_seen c.as_slice.ensures.value ∙ c.in_ok-found.ensures.names db reads item at) c.in_ok-found.ensures.clashes c.are_two-is_ambiguous.ensures))
    c.renaming.result c.renaming.ensures.refused
