use Rattle.std.proofs.Common.{sym, ◌∙◌}
use Rattle.merge_spec.specs.ThreeWay.{is_row_of_three}
use Rattle.bib_scan.specs.declared.fields.FieldView.{FieldView}
use Rattle.bib_fields.proofs.Collected.{all-more, all-all}
use Rattle.bib_fields.proofs.RowFields.{names-all}
use Rattle.bib_fields.proofs.checking.are_of_three.Goals as goal

pub names-preserved : goal.names-preserved
names-preserved c mb mo mt eb eo et is_b is_o is_t rows table =
    all-more (λ (f : FieldView). is_row_of_three mb eb mo eo mt et rows f.name.now) c.args.names.now c.names.k _ c.names-test.true
    (sym (c.in_ok-is_of_three.ensures mb mo mt eb eo et rows is_b is_o is_t table) ∙ c.if-not-branch.false) (c.names.invariant mb mo mt eb eo et is_b is_o is_t rows table)

pub returns : goal.returns
returns c yes' mb mo mt eb eo et is_b is_o is_t rows table =
    names-all (is_row_of_three mb eb mo eo mt et rows) c.args.names.now
    ∙ all-all (λ (f : FieldView). is_row_of_three mb eb mo eo mt et rows f.name.now) c.args.names.now c.names.k c.names-test.false (c.names.invariant mb mo mt eb eo et is_b is_o is_t rows table)
