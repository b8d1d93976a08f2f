use Rattle.std.proofs.Common.{List, ◌++◌, take, map, ap, ◌∙◌}
use Rattle.std.proofs.lemmas.List.{take_all}
use Rattle.bib_scan.specs.declared.fields.FieldView.{FieldView}
use Rattle.bib_scan.specs.View.{field_seen}
use Rattle.bib_sayings.specs.FieldTables.{names_of}
use Rattle.bib_fields.specs.PartsSeen.{part_seen, told}
use Rattle.bib_fields.proofs.PartsTold.{names-more, told-more}
use Rattle.bib_fields.proofs.telling.add_ours.Goals as goal

pub fields-preserved : goal.fields-preserved
fields-preserved c mb mo mt eb eo et is_b is_o is_t =
    told-more mb eb mo eo mt et (map part_seen c.args.parts.now.items) (map part_seen c.fields.parts.items) (map part_seen c.add_field.new.parts.items) (names_of (map field_seen (take c.fields.k c.args.fields.now))) _ _
    (names-more c.args.fields.now c.fields.k _ c.fields-test.true) (c.in_ok-add_field.ensures mb mo mt eb eo et is_b is_o is_t) (c.fields.invariant mb mo mt eb eo et is_b is_o is_t)

pub returns : goal.returns
returns c mb mo mt eb eo et is_b is_o is_t =
    c.fields.invariant mb mo mt eb eo et is_b is_o is_t
    ∙ ap (λ (l : List FieldView). map part_seen c.args.parts.now.items ++ told mb eb mo eo mt et (names_of (map field_seen l))) (take_all c.fields.k c.args.fields.now c.fields-test.false)
