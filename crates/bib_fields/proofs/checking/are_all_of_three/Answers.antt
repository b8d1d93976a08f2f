use Rattle.std.proofs.Common.{List, map, ap, ◌∙◌}
use Rattle.bib_scan.specs.View.{field_seen}
use Rattle.bib_scan.specs.declared.fields.FieldView.{FieldView}
use Rattle.merge_spec.specs.ThreeWay.{is_row_of_three}
use Rattle.bib_sayings.specs.FieldTables.{names_of}
use Rattle.bib_fields.proofs.MixChecked.{all-four, version-names}
use Rattle.bib_fields.proofs.checking.are_all_of_three.Goals as goal

pub returns : goal.returns
returns c yes' mb mo mt eb eo et is_b is_o is_t rows table names =
    all-four (is_row_of_three mb eb mo eo mt et rows) eb.rows eo.rows et.rows rows _ _ _ _
    (ap (λ (l : List FieldView). names_of (map field_seen l)) c.as_slice.ensures.value ∙ version-names c.args.b.now mb eb is_b)
    (ap (λ (l : List FieldView). names_of (map field_seen l)) c.as_slice-2.ensures.value ∙ version-names c.args.o.now mo eo is_o)
    (ap (λ (l : List FieldView). names_of (map field_seen l)) c.as_slice-3.ensures.value ∙ version-names c.args.t.now mt et is_t)
    names
    (c.in_ok-are_of_three.ensures c.if-not-branch.false mb mo mt eb eo et is_b is_o is_t rows table)
    (c.in_ok-are_of_three-2.ensures c.if-not-branch-2.false mb mo mt eb eo et is_b is_o is_t rows table)
    (c.in_ok-are_of_three-3.ensures c.if-not-branch-3.false mb mo mt eb eo et is_b is_o is_t rows table)
    (c.in_ok-are.ensures yes' mb mo mt eb eo et is_b is_o is_t rows table)
