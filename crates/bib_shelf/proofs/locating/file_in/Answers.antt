use Rattle.std.proofs.Common.{◌∙◌, sym, ap, Some, length}
use Rattle.std.proofs.lemmas.Bool.{ltb-true}
use Rattle.std.proofs.lemmas.Option.{slice_get-get_or}
use Rattle.bib_shelf.proofs.Files.{file_within}
use Rattle.bib_shelf.proofs.locating.file_in.Goals as goal

pub bytes_between-requires-clause-order : goal.bytes_between-requires-clause-order
bytes_between-requires-clause-order c =
    let at = slice_get-get_or c.args.spans.now c.args.i c.in-Some.field-0.now (ltb-true c.args.i (length c.args.spans.now) (sym c.in-Some.ensures.lookup.0)) ∙ ap (λ s. Some s) (sym c.in-Some.ensures.lookup.1) in
    (file_within c.args.text.now c.args.spans.now c.args.i c.in-Some.field-0.now c.requires at).0

pub bytes_between-requires-clause-within : goal.bytes_between-requires-clause-within
bytes_between-requires-clause-within c =
    let at = slice_get-get_or c.args.spans.now c.args.i c.in-Some.field-0.now (ltb-true c.args.i (length c.args.spans.now) (sym c.in-Some.ensures.lookup.0)) ∙ ap (λ s. Some s) (sym c.in-Some.ensures.lookup.1) in
    (file_within c.args.text.now c.args.spans.now c.args.i c.in-Some.field-0.now c.requires at).1
