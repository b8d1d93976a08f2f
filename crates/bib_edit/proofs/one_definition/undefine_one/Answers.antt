use Rattle.bib_edit.proofs.Words.{◌≡◌, List, ◌∙◌, sym, ap, [], ◌∷◌, both_ways, Piece}
use Rattle.edit_spec.specs.Edits.{ChangeDefinition, Undefines}
use Rattle.bib_edit.specs.OneOfSeveral.{ArePiecesFor, IsAllowedFor}
use Rattle.bib_edit.proofs.OpenFiles.{opens-as}
use Rattle.bib_edit.proofs.MeantDefinitions.{definition-within}
use Rattle.bib_edit.proofs.UndefinedOne.{undefine-one-unnamed, undefine-one-missing, undefine-one-pieces, undefine-one-seen, undefine-one-merges, undefine-one-accepted}
use Rattle.bib_edit.proofs.Results.{if_ok-as, on_ok-of}
use Rattle.bib_edit.proofs.one_definition.undefine_one.Goals as goal

pub returns-then-not-is_name-clause-refused : goal.returns-then-not-is_name-clause-refused
returns-then-not-is_name-clause-refused g c db reads = undefine-one-unnamed c.args.name.now c.args.number db (sym c.is_name.ensures ∙ c.if-not-is_name.true)

pub returns-in_default-clause-refused : goal.returns-in_default-clause-refused
returns-in_default-clause-refused g c db reads =
    undefine-one-missing c.args.name.now c.args.number db (sym c.is_name.ensures ∙ c.if-not-is_name.false) (sym (c.in_default.ensures db reads))

pub is_seen-requires : goal.is_seen-requires
is_seen-requires g c db reads = definition-within c.args.name.now c.args.number db c.in-Some.n (sym (c.in-Some.ensures db reads))

pub returns-then-branch-clause-refused : goal.returns-then-branch-clause-refused
returns-then-branch-clause-refused g c db reads =
    undefine-one-seen c.args.name.now c.args.number db (sym c.is_name.ensures ∙ c.if-not-is_name.false) c.in-Some.n (sym (c.in-Some.ensures db reads))
    (sym (c.in_ok-is_seen.ensures.seen db reads) ∙ c.if-branch.true)

pub joins_cleanly-requires : goal.joins_cleanly-requires
joins_cleanly-requires g c db reads = definition-within c.args.name.now c.args.number db c.in-Some.n (sym (c.in-Some.ensures db reads))

pub returns-then-not-branch-clause-refused : goal.returns-then-not-branch-clause-refused
returns-then-not-branch-clause-refused g c db reads =
    undefine-one-merges c.args.name.now c.args.number db (sym c.is_name.ensures ∙ c.if-not-is_name.false) c.in-Some.n (sym (c.in-Some.ensures db reads))
    (sym (c.in_ok-is_seen.ensures.seen db reads) ∙ c.if-branch.false)
    (λ clean. both_ways c.in_ok-joins_cleanly.field-0 c.if-not-branch.true ((c.in_ok-joins_cleanly.ensures.clean db reads).1 clean))

pub removal_of-requires : goal.removal_of-requires
removal_of-requires g c db reads = definition-within c.args.name.now c.args.number db c.in-Some.n (sym (c.in-Some.ensures db reads))

pub returns-clause-pieces : goal.returns-clause-pieces
returns-clause-pieces g c =
    if_ok-as (λ (ps : List Piece). ps ≡ c.in_ok-removal.removal ∷ []) (ArePiecesFor (ChangeDefinition c.args.name.now c.args.number Undefines) c.args.db.now)
    (λ ps is db reads.
    is ∙ ap (λ (p : Piece). p ∷ []) (c.in_ok-removal.ensures.removal db reads)
    ∙ sym (undefine-one-pieces c.args.name.now c.args.number db (sym c.is_name.ensures ∙ c.if-not-is_name.false) c.in-Some.n (sym (c.in-Some.ensures db reads))))
    c.one_piece.result c.one_piece.ensures.pieces

pub returns-clause-allowed : goal.returns-clause-allowed
returns-clause-allowed g c =
    on_ok-of (IsAllowedFor (ChangeDefinition c.args.name.now c.args.number Undefines) c.args.db.now) c.one_piece.result
    (λ db reads.
    undefine-one-accepted c.args.name.now c.args.number db (sym c.is_name.ensures ∙ c.if-not-is_name.false) c.in-Some.n (sym (c.in-Some.ensures db reads))
    (sym (c.in_ok-is_seen.ensures.seen db reads) ∙ c.if-branch.false)
    c.args.db.now (opens-as c.args.db.now db c.one_reading.ensures c.opens.ensures reads) ((c.in_ok-joins_cleanly.ensures.clean db reads).0 c.if-not-branch.false))
