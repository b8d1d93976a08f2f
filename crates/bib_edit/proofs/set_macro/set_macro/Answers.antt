use Rattle.bib_edit.proofs.Words.{◌≡◌, ◌+◌, arith, sym, ◌∙◌, subst, both_ways, err_from_is_err_and, List, Piece, ArePiecesOf, IsAllowedEdit, IsRefusal}
use Rattle.bib_data.specs.declared.edit.Edit.TheVariants.{SetMacro}
use Rattle.bib_edit.specs.MacroValues.{MakeOpenFile, IsLengthFault}
use Rattle.bib_edit.proofs.Results.{if_ok-as, on_ok-as, if_err-as}
use Rattle.bib_edit.proofs.MacroSettings.{refused-name, refused-value, refused-definition, definition-number, pieces-set_macro, fit-set_macro, goes-set_macro, opens-set_macro, definition-within, refused-lengths, allowed-set_macro}
use Rattle.bib_edit.proofs.set_macro.set_macro.Goals as goal

pub returns-then-not-is_name-clause-refused : goal.returns-then-not-is_name-clause-refused
returns-then-not-is_name-clause-refused g c = refused-name c.args.db.now c.args.name.now c.args.value.now c.requires (sym c.is_name.ensures ∙ c.if-not-is_name.true)

pub returns-then-not-branch-clause-refused : goal.returns-then-not-branch-clause-refused
returns-then-not-branch-clause-refused g c =
    refused-value c.args.db.now c.args.name.now c.args.value.now c.requires (sym c.is_name.ensures ∙ c.if-not-is_name.false) (λ is. both_ways c.in_ok-is_value.field-0 c.if-not-branch.true (c.in_ok-is_value.ensures.1 is))

pub returns-in_err-n-clause-refused : goal.returns-in_err-n-clause-refused
returns-in_err-n-clause-refused g c =
    let p = err_from_is_err_and c.from_residual-in_err-n.result c.from_residual-in_err-n.ensures.1 in
    rw (p.1, p.2) (refused-definition c.args.db.now c.args.name.now c.args.value.now c.requires (sym c.is_name.ensures ∙ c.if-not-is_name.false) (c.in_ok-is_value.ensures.0 c.if-not-branch.false) c.in_err-n.field-0.0 c.in_err-n.ensures.refused)

pub value_piece-requires : goal.value_piece-requires
value_piece-requires g c =
    definition-number c.args.db.now c.args.name.now c.args.value.now c.requires (sym c.is_name.ensures ∙ c.if-not-is_name.false) (c.in_ok-is_value.ensures.0 c.if-not-branch.false) c.in_ok-n.n c.in_ok-n.ensures.lone

pub unless_too_long-requires-clause-fit : goal.unless_too_long-requires-clause-fit
unless_too_long-requires-clause-fit g c =
    fit-set_macro c.args.db.now c.args.name.now c.args.value.now c.requires (sym c.is_name.ensures ∙ c.if-not-is_name.false) (c.in_ok-is_value.ensures.0 c.if-not-branch.false) c.in_ok-n.n c.in_ok-n.ensures.lone
    c.in_ok-piece.piece c.in_ok-piece.ensures.piece c.in_ok-pieces.pieces c.in_ok-pieces.ensures.pieces c.opens.ensures

pub unless_too_long-requires-clause-goes : goal.unless_too_long-requires-clause-goes
unless_too_long-requires-clause-goes g c =
    goes-set_macro c.args.db.now c.args.name.now c.args.value.now c.requires (sym c.is_name.ensures ∙ c.if-not-is_name.false) (c.in_ok-is_value.ensures.0 c.if-not-branch.false) c.in_ok-n.n c.in_ok-n.ensures.lone
    c.in_ok-piece.piece c.in_ok-piece.ensures.piece c.in_ok-pieces.pieces c.in_ok-pieces.ensures.pieces c.opens.ensures

pub overflow_add-n : goal.overflow_add-n
overflow_add-n g c =
    let db = c.opens.ensures.0 in
    let reads = c.opens.ensures.1.reads in
    let within = definition-within c.args.db.now c.args.name.now c.args.value.now c.requires (sym c.is_name.ensures ∙ c.if-not-is_name.false) (c.in_ok-is_value.ensures.0 c.if-not-branch.false) c.in_ok-n.n c.in_ok-n.ensures.lone db reads in
    let count = c.item_count.ensures db reads in
    let many = c.item_count.type_inv in omega (arith, within, count, many)

pub stays_short-requires-clause-place : goal.stays_short-requires-clause-place
stays_short-requires-clause-place g c db reads =
    let within = definition-within c.args.db.now c.args.name.now c.args.value.now c.requires (sym c.is_name.ensures ∙ c.if-not-is_name.false) (c.in_ok-is_value.ensures.0 c.if-not-branch.false) c.in_ok-n.n c.in_ok-n.ensures.lone db reads in
    omega (arith, within)

pub stays_short-requires-clause-after : goal.stays_short-requires-clause-after
stays_short-requires-clause-after g c db reads =
    let within = definition-within c.args.db.now c.args.name.now c.args.value.now c.requires (sym c.is_name.ensures ∙ c.if-not-is_name.false) (c.in_ok-is_value.ensures.0 c.if-not-branch.false) c.in_ok-n.n c.in_ok-n.ensures.lone db reads in
    omega (arith, within)

pub unless_too_long-requires-clause-short : goal.unless_too_long-requires-clause-short
unless_too_long-requires-clause-short g c is =
    opens-set_macro c.args.db.now c.args.name.now c.args.value.now c.requires (sym c.is_name.ensures ∙ c.if-not-is_name.false) (c.in_ok-is_value.ensures.0 c.if-not-branch.false) c.in_ok-n.n c.in_ok-n.ensures.lone
    c.in_ok-piece.piece c.in_ok-piece.ensures.piece c.in_ok-pieces.pieces c.in_ok-pieces.ensures.pieces c.opens.ensures (c.in_ok-n.n + 1) (omega arith) (c.in_ok-short.ensures.short is)

pub returns-clause-pieces : goal.returns-clause-pieces
returns-clause-pieces g c =
    if_ok-as (λ (ps : List Piece). ps ≡ c.in_ok-pieces.pieces) (ArePiecesOf c.args.db.now (SetMacro c.args.name.now c.args.value.now))
    (λ ps is. subst (ArePiecesOf c.args.db.now (SetMacro c.args.name.now c.args.value.now)) (sym is)
    (pieces-set_macro c.args.db.now c.args.name.now c.args.value.now c.requires (sym c.is_name.ensures ∙ c.if-not-is_name.false) (c.in_ok-is_value.ensures.0 c.if-not-branch.false) c.in_ok-n.n c.in_ok-n.ensures.lone
    c.in_ok-piece.piece c.in_ok-piece.ensures.piece c.in_ok-pieces.pieces c.in_ok-pieces.ensures.pieces))
    c.unless_too_long.result c.unless_too_long.ensures.same

pub returns-clause-allowed : goal.returns-clause-allowed
returns-clause-allowed g c =
    on_ok-as (MakeOpenFile c.in_ok-pieces.pieces c.args.db.now) (IsAllowedEdit c.args.db.now (SetMacro c.args.name.now c.args.value.now))
    (allowed-set_macro c.args.db.now c.args.name.now c.args.value.now c.requires (sym c.is_name.ensures ∙ c.if-not-is_name.false) (c.in_ok-is_value.ensures.0 c.if-not-branch.false) c.in_ok-n.n c.in_ok-n.ensures.lone
    c.in_ok-piece.piece c.in_ok-piece.ensures.piece c.in_ok-pieces.pieces c.in_ok-pieces.ensures.pieces)
    c.unless_too_long.result c.unless_too_long.ensures.opens

pub returns-clause-refused : goal.returns-clause-refused
returns-clause-refused g c =
    if_err-as (IsLengthFault c.in_ok-pieces.pieces c.args.db.now) (IsRefusal c.args.db.now (SetMacro c.args.name.now c.args.value.now))
    (refused-lengths c.args.db.now c.args.name.now c.args.value.now c.requires (sym c.is_name.ensures ∙ c.if-not-is_name.false) (c.in_ok-is_value.ensures.0 c.if-not-branch.false) c.in_ok-n.n c.in_ok-n.ensures.lone
    c.in_ok-piece.piece c.in_ok-piece.ensures.piece c.in_ok-pieces.pieces c.in_ok-pieces.ensures.pieces)
    c.unless_too_long.result c.unless_too_long.ensures.refused
