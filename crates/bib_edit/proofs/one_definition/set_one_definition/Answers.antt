use Rattle.bib_edit.proofs.Words.{◌≡◌, ◌+◌, arith, sym, ◌∙◌, subst, both_ways, List, Piece}
use Rattle.edit_spec.specs.Edits.{ChangeDefinition, SetsValue}
use Rattle.bib_edit.specs.MacroValues.{MakeOpenFile, IsLengthFault}
use Rattle.bib_edit.specs.OneOfSeveral.{ArePiecesFor, IsAllowedFor, IsRefusalFor, OfSpelled}
use Rattle.bib_edit.proofs.Results.{if_ok-as, on_ok-as, if_err-as}
use Rattle.bib_edit.proofs.MeantDefinitions.{definition-within, definition-number}
use Rattle.bib_edit.proofs.SetOneMacro.{refused-name, refused-value, refused-missing, pieces-set_one, fit-set_one, goes-set_one, opens-set_one, refused-lengths, allowed-set_one}
use Rattle.bib_edit.proofs.one_definition.set_one_definition.Goals as goal

pub returns-then-not-is_name-clause-refused : goal.returns-then-not-is_name-clause-refused
returns-then-not-is_name-clause-refused g c = refused-name c.args.db.now c.args.name.now c.args.value.now c.args.number (sym c.is_name.ensures ∙ c.if-not-is_name.true)

pub returns-then-not-branch-clause-refused : goal.returns-then-not-branch-clause-refused
returns-then-not-branch-clause-refused g c =
    refused-value c.args.db.now c.args.name.now c.args.value.now c.args.number (sym c.is_name.ensures ∙ c.if-not-is_name.false) (λ is. both_ways c.in_ok-is_value.field-0 c.if-not-branch.true (c.in_ok-is_value.ensures.1 is))

pub returns-in_default-clause-refused : goal.returns-in_default-clause-refused
returns-in_default-clause-refused g c =
    refused-missing c.args.db.now c.args.name.now c.args.value.now c.args.number (sym c.is_name.ensures ∙ c.if-not-is_name.false) (c.in_ok-is_value.ensures.0 c.if-not-branch.false)
    (λ db reads. sym (c.in_default.ensures db reads))

pub value_piece-requires : goal.value_piece-requires
value_piece-requires g c = definition-number c.args.db.now c.args.name.now c.args.number c.in-Some.n (λ db reads. sym (c.in-Some.ensures db reads))

pub unless_too_long-requires-clause-fit : goal.unless_too_long-requires-clause-fit
unless_too_long-requires-clause-fit g c =
    fit-set_one c.args.db.now c.args.name.now c.args.value.now c.args.number (sym c.is_name.ensures ∙ c.if-not-is_name.false) (c.in_ok-is_value.ensures.0 c.if-not-branch.false)
    c.in-Some.n (λ db reads. sym (c.in-Some.ensures db reads)) c.in_ok-piece.piece c.in_ok-piece.ensures.piece c.in_ok-pieces.pieces c.in_ok-pieces.ensures.pieces c.opens.ensures

pub unless_too_long-requires-clause-goes : goal.unless_too_long-requires-clause-goes
unless_too_long-requires-clause-goes g c =
    goes-set_one c.args.db.now c.args.name.now c.args.value.now c.args.number (sym c.is_name.ensures ∙ c.if-not-is_name.false) (c.in_ok-is_value.ensures.0 c.if-not-branch.false)
    c.in-Some.n (λ db reads. sym (c.in-Some.ensures db reads)) c.in_ok-piece.piece c.in_ok-piece.ensures.piece c.in_ok-pieces.pieces c.in_ok-pieces.ensures.pieces c.opens.ensures

pub overflow_add-n : goal.overflow_add-n
overflow_add-n g c =
    let db = c.opens.ensures.0 in
    let reads = c.opens.ensures.1.reads in
    let within = definition-within c.args.name.now c.args.number db c.in-Some.n (sym (c.in-Some.ensures db reads)) in
    let count = c.item_count.ensures db reads in
    let many = c.item_count.type_inv in omega (arith, within, count, many)

pub stays_short-requires-clause-place : goal.stays_short-requires-clause-place
stays_short-requires-clause-place g c db reads =
    let within = definition-within c.args.name.now c.args.number db c.in-Some.n (sym (c.in-Some.ensures db reads)) in omega (arith, within)

pub stays_short-requires-clause-after : goal.stays_short-requires-clause-after
stays_short-requires-clause-after g c db reads =
    let within = definition-within c.args.name.now c.args.number db c.in-Some.n (sym (c.in-Some.ensures db reads)) in omega (arith, within)

pub unless_too_long-requires-clause-short : goal.unless_too_long-requires-clause-short
unless_too_long-requires-clause-short g c is =
    opens-set_one c.args.db.now c.args.name.now c.args.value.now c.args.number (sym c.is_name.ensures ∙ c.if-not-is_name.false) (c.in_ok-is_value.ensures.0 c.if-not-branch.false)
    c.in-Some.n (λ db reads. sym (c.in-Some.ensures db reads)) c.in_ok-piece.piece c.in_ok-piece.ensures.piece c.in_ok-pieces.pieces c.in_ok-pieces.ensures.pieces c.opens.ensures
    (c.in-Some.n + 1) (omega arith) (c.in_ok-short.ensures.short is)

pub returns-clause-pieces : goal.returns-clause-pieces
returns-clause-pieces g c =
    if_ok-as (λ (ps : List Piece). ps ≡ c.in_ok-pieces.pieces) (λ ps. OfSpelled c.args.value.now (λ v. ArePiecesFor (ChangeDefinition c.args.name.now c.args.number (SetsValue v)) c.args.db.now ps))
    (λ ps is. subst (λ (ps : List Piece). OfSpelled c.args.value.now (λ v. ArePiecesFor (ChangeDefinition c.args.name.now c.args.number (SetsValue v)) c.args.db.now ps)) (sym is)
    (pieces-set_one c.args.db.now c.args.name.now c.args.value.now c.args.number (sym c.is_name.ensures ∙ c.if-not-is_name.false) (c.in_ok-is_value.ensures.0 c.if-not-branch.false)
    c.in-Some.n (λ db reads. sym (c.in-Some.ensures db reads)) c.in_ok-piece.piece c.in_ok-piece.ensures.piece c.in_ok-pieces.pieces c.in_ok-pieces.ensures.pieces))
    c.unless_too_long.result c.unless_too_long.ensures.same

pub returns-clause-allowed : goal.returns-clause-allowed
returns-clause-allowed g c =
    on_ok-as (MakeOpenFile c.in_ok-pieces.pieces c.args.db.now) (OfSpelled c.args.value.now (λ v. IsAllowedFor (ChangeDefinition c.args.name.now c.args.number (SetsValue v)) c.args.db.now))
    (allowed-set_one c.args.db.now c.args.name.now c.args.value.now c.args.number (sym c.is_name.ensures ∙ c.if-not-is_name.false) (c.in_ok-is_value.ensures.0 c.if-not-branch.false)
    c.in-Some.n (λ db reads. sym (c.in-Some.ensures db reads)) c.in_ok-piece.piece c.in_ok-piece.ensures.piece c.in_ok-pieces.pieces c.in_ok-pieces.ensures.pieces)
    c.unless_too_long.result c.unless_too_long.ensures.opens

pub returns-clause-refused : goal.returns-clause-refused
returns-clause-refused g c =
    if_err-as (IsLengthFault c.in_ok-pieces.pieces c.args.db.now) (λ fault. OfSpelled c.args.value.now (λ v. IsRefusalFor (ChangeDefinition c.args.name.now c.args.number (SetsValue v)) c.args.db.now fault))
    (refused-lengths c.args.db.now c.args.name.now c.args.value.now c.args.number (sym c.is_name.ensures ∙ c.if-not-is_name.false) (c.in_ok-is_value.ensures.0 c.if-not-branch.false)
    c.in-Some.n (λ db reads. sym (c.in-Some.ensures db reads)) c.in_ok-piece.piece c.in_ok-piece.ensures.piece c.in_ok-pieces.pieces c.in_ok-pieces.ensures.pieces)
    c.unless_too_long.result c.unless_too_long.ensures.refused
