use Rattle.std.proofs.Common.{◌∙◌, List, Some, ap, map, sym, subst}
use Rattle.std.specs.List.{AllZip}
use Rattle.bib_scan.specs.declared.fields.FieldView.{FieldView}
use Rattle.bib_scan.specs.View.{field_seen}
use Rattle.bib_sayings.specs.FieldTables.{names_of, IsTableFound}
use Rattle.bib_fields.specs.Fields.{AreFields, IsMixedField}
use Rattle.bib_fields.proofs.RowFields.{some-of}
use Rattle.bib_fields.proofs.MixChecked.{mixed-is, version-fields}
use Rattle.bib_fields.proofs.checking.is_mixed.Goals as goal

pub returns : goal.returns
returns c yes' mb mo mt eb eo et is_b is_o is_t =
    mixed-is mb mo mt eb eo et c.args.mix c.in-Some.fields.items c.in-Some-2.table c.args.b.now.type_name.now c.args.o.now.type_name.now c.args.t.now.type_name.now is_b.single is_o.single is_t.single is_b.kind is_o.kind is_t.kind
    (c.is_type_of_three.ensures c.if-not-is_type_of_three.false) (sym c.is_white.ensures ∙ c.if-not-is_white.false) (c.end_in_space.ensures c.if-not-end_in_space.false eo.rows et.rows)
    (some-of c.in_ok-fields.field-0 c.in-Some.fields (λ all. AllZip (IsMixedField eo.rows et.rows) all.items c.args.mix.rows.now) c.in-Some.is
    (c.in_ok-fields.ensures eo.rows et.rows (subst (λ (l : List FieldView). AreFields l eo.rows) (sym c.as_slice.ensures.value) (version-fields c.args.o.now mo eo is_o)) (subst (λ (l : List FieldView). AreFields l et.rows) (sym c.as_slice-2.ensures.value) (version-fields c.args.t.now mt et is_t))))
    (subst (λ (l : List FieldView). IsTableFound (Some c.in-Some-2.table) (map field_seen l)) c.as_slice-3.ensures.value
    (some-of c.in_ok-table.field-0 c.in-Some-2.table (λ table. IsTableFound (Some table) (map field_seen c.as_slice-3.result.now)) c.in-Some-2.is c.in_ok-table.ensures))
    (λ rows table names. c.in_ok-are.ensures yes' mb mo mt eb eo et is_b is_o is_t rows table (ap (λ (l : List FieldView). names_of (map field_seen l)) c.as_slice-4.ensures.value ∙ names))
