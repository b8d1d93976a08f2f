use Rattle.std.proofs.Common.{◌++◌, ◌∙◌, Some, List, refl, ap}
use Rattle.bib_spec.specs.Text.{Text, is_space, after_run}
use Rattle.bib_spec.specs.Tree.{opening_bytes}
use Rattle.bib_scan.specs.declared.fields.FieldView.{FieldView}
use Rattle.bib_fields.specs.MixSeen.{type_seen, key_seen, rows_seen}
use Rattle.bib_fields.specs.Slices.{after_last}
use Rattle.bib_fields.specs.Openings.{opening_with}
use Rattle.bib_fields.proofs.Writings.{end-of, entry-written}
use Rattle.bib_fields.proofs.Sourced.{side-type, side-key}
use Rattle.bib_fields.proofs.writing.add_entry.Goals as goal

pub returns : goal.returns
returns c mo mt eo et is_o is_t =
    let mix = c.args.mix in
    let kind : Text = type_seen (Some (mo, eo)) (Some (mt, et)) mix in
    let key : Text = key_seen (Some (mo, eo)) (Some (mt, et)) mix in
    entry-written eo kind key mix.space.now (rows_seen (Some (mo, eo)) (Some (mt, et)) mix)
    c.args.out.now.items c.add_opening.new.out.items c.extend_from_slice.new.self.items c.extend_from_slice-2.new.self.items c.add_rows.new.out.items c.extend_from_slice-3.new.self.items
    (opening_bytes (opening_with eo.opening kind)) c.in-Some.end.now refl
    (c.in-Some.ensures ∙ ap (λ (l : List FieldView). after_run is_space (after_last c.args.ours.now.item l)) c.as_slice.ensures.value ∙ end-of eo is_o.trail c.args.ours.now.item c.args.ours.now.fields.items is_o.is is_o.item is_o.fields)
    (c.in_ok-add_opening.ensures eo is_o.trail is_o.is is_o.item ∙ ap (λ (k : Text). c.args.out.now.items ++ opening_bytes (opening_with eo.opening k)) (c.type_of.ensures eo et is_o is_t ∙ side-type mo mt eo et mix.kind))
    (c.in_ok-extend_from_slice.ensures.items ∙ ap (λ (k : Text). c.add_opening.new.out.items ++ k) (c.key_of.ensures eo et is_o is_t ∙ side-key mo mt eo et mix.key))
    c.in_ok-extend_from_slice-2.ensures.items
    (c.in_ok-add_rows.ensures eo et is_o is_t)
    c.in_ok-extend_from_slice-3.ensures.items
