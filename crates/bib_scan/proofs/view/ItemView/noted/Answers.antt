use Rattle.bib_scan.proofs.Words.{◌≡◌, ◌≢◌, take, drop, ap, ◌∙◌, arith, is_space, after_run}
use Rattle.bib_scan.proofs.NoteLaws.{noted_view}
use Rattle.bib_scan.proofs.view.ItemView.noted.Goals as goal

pub returns-clause-item : goal.returns-clause-item
returns-clause-item c tree is whole noted =
    let some : c.args.note.key_at ≢ 0 = c.if-key_at-eq0.false in
    let key : c.split_at.result.0.now ≡ take c.args.note.key_len (drop c.args.note.key_at c.args.body.now) = c.split_at.ensures.front ∙ ap (take c.args.note.key_len) c.text_from.ensures in
    let rows = ap (after_run is_space) (c.split_at.ensures.back ∙ ap (drop c.args.note.key_len) c.text_from.ensures) in
    noted_view c.args.body.now c.args.trail.now _ _ tree c.args.note is whole noted (omega (arith, some)) key rows
