use Rattle.bib_edit.proofs.Words.{◌+◌, ◌<◌, ◌^◌, ℕ, [], Option, option_map, sym, ◌∙◌, ap, ap₂, subst, arith, Text, Piece, field_seen, row_text, rows_end, set_at}
use Rattle.bib_scan.specs.declared.fields.FieldView.{FieldView}
use Rattle.bib_edit.proofs.one_entry.set_piece.Goals as goal

pub overflow_add-result : goal.overflow_add-result
overflow_add-result c =
    let within : c.args.start + c.in-Some.old.value_at < 2 ^ 64 =
    subst (λ (o : Option FieldView). (set_at c.args.start c.args.name.now c.args.value.now (rows_end c.args.view.now) (option_map field_seen o)).place < 2 ^ 64) c.in-Some.is c.requires in
    omega (arith, within)

pub rows_end-requires-clause-place : goal.rows_end-requires-clause-place
rows_end-requires-clause-place c =
    let within : c.args.start + rows_end c.args.view.now < 2 ^ 64 =
    subst (λ (o : Option FieldView). (set_at c.args.start c.args.name.now c.args.value.now (rows_end c.args.view.now) (option_map field_seen o)).place < 2 ^ 64) c.in-None.is c.requires in
    omega (arith, within)

pub overflow_add-result-in-None : goal.overflow_add-result-in-None
overflow_add-result-in-None c =
    let within : c.args.start + rows_end c.args.view.now < 2 ^ 64 =
    subst (λ (o : Option FieldView). (set_at c.args.start c.args.name.now c.args.value.now (rows_end c.args.view.now) (option_map field_seen o)).place < 2 ^ 64) c.in-None.is c.requires in
    let end = c.rows_end.ensures in
    omega (arith, within, end)

pub returns-in_ok-copied-in-Some-2-clause-piece : goal.returns-in_ok-copied-in-Some-2-clause-piece
returns-in_ok-copied-in-Some-2-clause-piece c =
    ap₂ (λ (old new : Text). let p : Piece = record { place = c.args.start + c.in-Some.old.value_at; old = old; new = new } in p) c.in_ok-copied-in-Some.ensures c.in_ok-copied-in-Some-2.ensures
    ∙ ap (λ (o : Option FieldView). set_at c.args.start c.args.name.now c.args.value.now (rows_end c.args.view.now) (option_map field_seen o)) (sym c.in-Some.is)

pub returns-in_ok-row_text-in-None-clause-piece : goal.returns-in_ok-row_text-in-None-clause-piece
returns-in_ok-row_text-in-None-clause-piece c =
    ap₂ (λ (old new : Text). let p : Piece = record { place = c.args.start + c.rows_end.result; old = old; new = new } in p) c.in_ok-copied-in-None.ensures c.in_ok-row_text-in-None.ensures
    ∙ ap (λ (end : ℕ). let p : Piece = record { place = c.args.start + end; old = []; new = row_text c.args.name.now c.args.value.now } in p) c.rows_end.ensures
    ∙ ap (λ (o : Option FieldView). set_at c.args.start c.args.name.now c.args.value.now (rows_end c.args.view.now) (option_map field_seen o)) (sym c.in-None.is)
