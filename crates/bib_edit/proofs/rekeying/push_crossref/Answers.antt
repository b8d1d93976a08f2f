use Rattle.bib_edit.proofs.Words.{◌+◌, ◌≤◌, arith, file_limit, field_seen}
use Rattle.bib_edit.proofs.KeyPieces.{value-within}
use Rattle.bib_edit.proofs.rekeying.push_crossref.Goals as goal

pub overflow_add-start : goal.overflow_add-start
overflow_add-start c =
    let within : c.args.start + c.in-Some-field_named.field.value_at ≤ file_limit = value-within c.args.start c.args.view.now c.requires (field_seen c.in-Some-field_named.field) c.in-Some-field_named.ensures in
    omega (arith, within)
