use Rattle.std.proofs.Common.{◌++◌, ◌∙◌, ap}
use Rattle.bib_spec.specs.Text.{Text}
use Rattle.bib_fields.specs.MixSeen.{row_of}
use Rattle.bib_fields.proofs.Writings.{row-written}
use Rattle.bib_fields.proofs.Sourced.{value-of}
use Rattle.bib_fields.proofs.writing.add_row.Goals as goal

pub returns : goal.returns
returns c eo et is_o is_t =
    row-written (row_of eo.rows et.rows c.args.row.now.start) (row_of eo.rows et.rows c.args.row.now.value) c.args.row.now.space
    c.args.out.now.items c.extend_from_slice.new.self.items c.extend_from_slice-2.new.self.items c.extend_from_slice-3.new.self.items c.in-Some.start.now c.in-Some-field_at.value.value.now
    (c.in-Some.ensures eo et is_o is_t)
    (value-of c.args.ours.now c.args.theirs.now eo et c.args.row.now.value c.in-Some-field_at.value c.field_at.result c.as_slice.result.now c.as_slice-2.result.now is_o is_t c.as_slice.ensures.value c.as_slice-2.ensures.value c.field_at.ensures c.in-Some-field_at.is)
    c.in_ok-extend_from_slice.ensures.items c.in_ok-extend_from_slice-2.ensures.items
    (c.in_ok-extend_from_slice-3.ensures.items ∙ ap (λ (t : Text). c.extend_from_slice-2.new.self.items ++ t) c.as_slice-3.ensures)
