use Rattle.bib_fields.proofs.Sourced.{start-of}
use Rattle.bib_fields.proofs.writing.start_at.Goals as goal

pub returns : goal.returns
returns c eo et is_o is_t =
    start-of c.args.ours.now c.args.theirs.now eo et c.args.row c.in-Some.field c.field_at.result c.as_slice.result.now c.as_slice-2.result.now c.body_of.result.now c.in-Some-start_in.start.now is_o is_t
    c.as_slice.ensures.value c.as_slice-2.ensures.value c.field_at.ensures c.in-Some.is c.body_of.ensures c.in-Some-start_in.ensures
