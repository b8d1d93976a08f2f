use Rattle.bib_edit.proofs.Words.{List, ◌∙◌, ◌++◌, sym, ap, arith, length, length-map, eqb-true, err_from_is_err_and, token_seen, tokens_seen, replaced, Piece}
use Rattle.bib_edit.specs.RenamedFields.{none_found, two_meant, too_long, no_memory}
use Rattle.bib_edit.proofs.LimitTests.{not_over}
use Rattle.bib_edit.proofs.NamedFields.{some-tokens}
use Rattle.bib_edit.proofs.rename_field.renaming.Goals as goal

pub returns-then-is_empty-clause-refused : goal.returns-then-is_empty-clause-refused
returns-then-is_empty-clause-refused g c = none_found (length-map c.args.names.now token_seen ∙ eqb-true (length c.args.names.now) 0 (sym c.is_empty.ensures ∙ c.if-is_empty.true))

pub returns-then-is_ambiguous-clause-refused : goal.returns-then-is_ambiguous-clause-refused
returns-then-is_ambiguous-clause-refused g c = two_meant (some-tokens c.args.names.now (sym c.is_empty.ensures ∙ c.if-is_empty.false)) c.if-is_ambiguous.true

pub is_result_too_long-requires : goal.is_result_too_long-requires
is_result_too_long-requires g c = record { inside = let within = c.requires in omega (arith, within) }

pub returns-then-is_result_too_long-clause-refused : goal.returns-then-is_result_too_long-clause-refused
returns-then-is_result_too_long-clause-refused g c =
    too_long (some-tokens c.args.names.now (sym c.is_empty.ensures ∙ c.if-is_empty.false)) c.if-is_ambiguous.false
    (let over = c.is_result_too_long.ensures.0 c.if-is_result_too_long.true in omega (arith, over))

pub returns-clause-pieces : goal.returns-clause-pieces
returns-clause-pieces g c =
    c.from_vec.ensures ∙ c.in_ok-push_replaced.ensures.pieces ∙ ap (λ (ps : List Piece). ps ++ replaced c.args.to.now (tokens_seen c.args.names.now)) c.new-pieces.ensures.items

pub returns-clause-allowed : goal.returns-clause-allowed
returns-clause-allowed g c = record {
  some = some-tokens c.args.names.now (sym c.is_empty.ensures ∙ c.if-is_empty.false);
  alone = c.if-is_ambiguous.false;
  short = let short = not_over c.is_result_too_long.result _ _ c.is_result_too_long.ensures.1 c.if-is_result_too_long.false in omega (arith, short);
}

pub returns-in_err-push_replaced-clause-refused : goal.returns-in_err-push_replaced-clause-refused
returns-in_err-push_replaced-clause-refused g c =
    let p = err_from_is_err_and c.from_residual.result c.from_residual.ensures.1 in
    rw (p.1, p.2) (rw c.in_err-push_replaced.ensures.only no_memory)
