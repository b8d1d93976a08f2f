use Rattle.bib_edit.proofs.Words.{◌≡◌, ℕ, ◌∷◌, [], sym, ◌∙◌, ap, subst, arith, both_ways, List, Piece, ArePiecesOf, IsAllowedEdit, IsRefusal}
use Rattle.bib_data.specs.declared.edit.Edit.TheVariants.{DefineMacro}
use Rattle.bib_edit.specs.MacroValues.{defining_piece, MakeOpenFile, IsLengthFault}
use Rattle.bib_edit.proofs.Results.{if_ok-as, on_ok-as, if_err-as}
use Rattle.bib_edit.proofs.TabledDefinitions.{tabled-count}
use Rattle.bib_edit.proofs.DefinedMacro.{refused-name, refused-value, refused-defined, pieces-define_macro, fit-define_macro, goes-define_macro, opens-define_macro, refused-lengths, allowed-define_macro}
use Rattle.bib_edit.proofs.define_macro.define_macro.Goals as goal

pub returns-then-not-is_name-clause-refused : goal.returns-then-not-is_name-clause-refused
returns-then-not-is_name-clause-refused g c = refused-name c.args.db.now c.args.name.now c.args.value.now (sym c.is_name.ensures ∙ c.if-not-is_name.true)

pub returns-then-not-branch-clause-refused : goal.returns-then-not-branch-clause-refused
returns-then-not-branch-clause-refused g c =
    refused-value c.args.db.now c.args.name.now c.args.value.now (sym c.is_name.ensures ∙ c.if-not-is_name.false) (λ is. both_ways c.in_ok-is_value.field-0 c.if-not-branch.true (c.in_ok-is_value.ensures.1 is))

pub returns-then-definition_count-gt0-clause-refused : goal.returns-then-definition_count-gt0-clause-refused
returns-then-definition_count-gt0-clause-refused g c =
    refused-defined c.args.db.now c.args.name.now c.args.value.now (sym c.is_name.ensures ∙ c.if-not-is_name.false) (c.in_ok-is_value.ensures.0 c.if-not-branch.false)
    (λ db reads.
    let some = c.if-definition_count-gt0.true in
    let count = c.definition_count.ensures db reads in
    let same = tabled-count c.args.name.now db in omega (arith, some, count, same))

pub unless_too_long-requires-clause-fit : goal.unless_too_long-requires-clause-fit
unless_too_long-requires-clause-fit g c =
    fit-define_macro c.args.db.now c.args.name.now c.args.value.now (sym c.is_name.ensures ∙ c.if-not-is_name.false) (c.in_ok-is_value.ensures.0 c.if-not-branch.false)
    (λ db reads.
    let few = c.if-definition_count-gt0.false in
    let count = c.definition_count.ensures db reads in
    let same = tabled-count c.args.name.now db in omega (arith, few, count, same))
    c.in_ok-pieces.pieces (λ db reads. c.in_ok-pieces.ensures.pieces ∙ ap (λ (p : Piece). p ∷ []) (c.in_ok-piece.ensures.piece db reads ∙ ap (λ (k : ℕ). defining_piece db k c.args.name.now c.args.value.now) (c.definitions_end-end.ensures.end db reads))) c.opens.ensures

pub unless_too_long-requires-clause-goes : goal.unless_too_long-requires-clause-goes
unless_too_long-requires-clause-goes g c =
    goes-define_macro c.args.db.now c.args.name.now c.args.value.now (sym c.is_name.ensures ∙ c.if-not-is_name.false) (c.in_ok-is_value.ensures.0 c.if-not-branch.false)
    (λ db reads.
    let few = c.if-definition_count-gt0.false in
    let count = c.definition_count.ensures db reads in
    let same = tabled-count c.args.name.now db in omega (arith, few, count, same))
    c.in_ok-pieces.pieces (λ db reads. c.in_ok-pieces.ensures.pieces ∙ ap (λ (p : Piece). p ∷ []) (c.in_ok-piece.ensures.piece db reads ∙ ap (λ (k : ℕ). defining_piece db k c.args.name.now c.args.value.now) (c.definitions_end-end.ensures.end db reads))) c.opens.ensures

pub unless_too_long-requires-clause-short : goal.unless_too_long-requires-clause-short
unless_too_long-requires-clause-short g c is =
    opens-define_macro c.args.db.now c.args.name.now c.args.value.now (sym c.is_name.ensures ∙ c.if-not-is_name.false) (c.in_ok-is_value.ensures.0 c.if-not-branch.false)
    (λ db reads.
    let few = c.if-definition_count-gt0.false in
    let count = c.definition_count.ensures db reads in
    let same = tabled-count c.args.name.now db in omega (arith, few, count, same))
    c.in_ok-pieces.pieces (λ db reads. c.in_ok-pieces.ensures.pieces ∙ ap (λ (p : Piece). p ∷ []) (c.in_ok-piece.ensures.piece db reads ∙ ap (λ (k : ℕ). defining_piece db k c.args.name.now c.args.value.now) (c.definitions_end-end.ensures.end db reads)))
    c.opens.ensures c.definitions_end-end.result c.definitions_end-end.ensures.end (c.in_ok-short.ensures.short is)

pub returns-clause-pieces : goal.returns-clause-pieces
returns-clause-pieces g c =
    if_ok-as (λ (ps : List Piece). ps ≡ c.in_ok-pieces.pieces) (ArePiecesOf c.args.db.now (DefineMacro c.args.name.now c.args.value.now))
    (λ ps is. subst (ArePiecesOf c.args.db.now (DefineMacro c.args.name.now c.args.value.now)) (sym is)
    (pieces-define_macro c.args.db.now c.args.name.now c.args.value.now (sym c.is_name.ensures ∙ c.if-not-is_name.false) (c.in_ok-is_value.ensures.0 c.if-not-branch.false)
    (λ db reads.
    let few = c.if-definition_count-gt0.false in
    let count = c.definition_count.ensures db reads in
    let same = tabled-count c.args.name.now db in omega (arith, few, count, same))
    c.in_ok-pieces.pieces (λ db reads. c.in_ok-pieces.ensures.pieces ∙ ap (λ (p : Piece). p ∷ []) (c.in_ok-piece.ensures.piece db reads ∙ ap (λ (k : ℕ). defining_piece db k c.args.name.now c.args.value.now) (c.definitions_end-end.ensures.end db reads)))))
    c.unless_too_long.result c.unless_too_long.ensures.same

pub returns-clause-allowed : goal.returns-clause-allowed
returns-clause-allowed g c =
    on_ok-as (MakeOpenFile c.in_ok-pieces.pieces c.args.db.now) (IsAllowedEdit c.args.db.now (DefineMacro c.args.name.now c.args.value.now))
    (allowed-define_macro c.args.db.now c.args.name.now c.args.value.now (sym c.is_name.ensures ∙ c.if-not-is_name.false) (c.in_ok-is_value.ensures.0 c.if-not-branch.false)
    (λ db reads.
    let few = c.if-definition_count-gt0.false in
    let count = c.definition_count.ensures db reads in
    let same = tabled-count c.args.name.now db in omega (arith, few, count, same))
    c.in_ok-pieces.pieces (λ db reads. c.in_ok-pieces.ensures.pieces ∙ ap (λ (p : Piece). p ∷ []) (c.in_ok-piece.ensures.piece db reads ∙ ap (λ (k : ℕ). defining_piece db k c.args.name.now c.args.value.now) (c.definitions_end-end.ensures.end db reads))))
    c.unless_too_long.result c.unless_too_long.ensures.opens

pub returns-clause-refused : goal.returns-clause-refused
returns-clause-refused g c =
    if_err-as (IsLengthFault c.in_ok-pieces.pieces c.args.db.now) (IsRefusal c.args.db.now (DefineMacro c.args.name.now c.args.value.now))
    (refused-lengths c.args.db.now c.args.name.now c.args.value.now (sym c.is_name.ensures ∙ c.if-not-is_name.false) (c.in_ok-is_value.ensures.0 c.if-not-branch.false)
    (λ db reads.
    let few = c.if-definition_count-gt0.false in
    let count = c.definition_count.ensures db reads in
    let same = tabled-count c.args.name.now db in omega (arith, few, count, same))
    c.in_ok-pieces.pieces (λ db reads. c.in_ok-pieces.ensures.pieces ∙ ap (λ (p : Piece). p ∷ []) (c.in_ok-piece.ensures.piece db reads ∙ ap (λ (k : ℕ). defining_piece db k c.args.name.now c.args.value.now) (c.definitions_end-end.ensures.end db reads))))
    c.unless_too_long.result c.unless_too_long.ensures.refused
