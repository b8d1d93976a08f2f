use Rattle.std.proofs.Common.{List, map, ◌∙◌, ap}
use Rattle.bib_scan.specs.declared.fields.FieldView.{FieldView}
use Rattle.bib_scan.specs.View.{field_seen}
use Rattle.bib_sayings.specs.FieldTables.{names_of}
use Rattle.bib_fields.specs.PartsSeen.{part_seen}
use Rattle.bib_fields.proofs.MixChecked.{version-names}
use Rattle.bib_fields.proofs.PartsTold.{parts-told, types-told}
use Rattle.bib_fields.proofs.telling.parts_of.Goals as goal

pub returns : goal.returns
returns c mb mo mt eb eo et is_b is_o is_t =
    parts-told mb eb mo eo mt et (map part_seen c.in_ok-parts.parts.items) (map part_seen c.add_ours.new.parts.items) (map part_seen c.add_theirs.new.parts.items) (map part_seen c.in_ok-all.all.items)
    (names_of (map field_seen c.as_slice.result.now)) (names_of (map field_seen c.as_slice-2.result.now)) is_b.single is_o.single is_t.single
    (types-told eb eo et _ _ _ (map part_seen c.in_ok-parts.parts.items) is_b.kind is_o.kind is_t.kind c.in_ok-parts.ensures)
    (ap (λ (l : List FieldView). names_of (map field_seen l)) c.as_slice.ensures.value ∙ version-names c.args.o.now mo eo is_o)
    (ap (λ (l : List FieldView). names_of (map field_seen l)) c.as_slice-2.ensures.value ∙ version-names c.args.t.now mt et is_t)
    (c.in_ok-add_ours.ensures mb mo mt eb eo et is_b is_o is_t) (c.in_ok-add_theirs.ensures mb mo mt eb eo et is_b is_o is_t) c.in_ok-all.ensures
