use Rattle.bib_scan.proofs.Words.{◌≢◌, ◌<◌, ◌∙◌, length, sym, ap, arith, Text, read_row_field}
use Rattle.bib_scan.proofs.NoteLaws.{noted_crossref, crossref_read}
use Rattle.bib_scan.proofs.note.Note.crossref.Goals as goal
use Rattle.bib_scan.proofs.note.Note.crossref.Goals.{then-at-eq0-via-then-at-eq0, then-at-eq0-via-else-at-eq0+then-at-body}

pub returns-then-at-eq0 : goal.returns-then-at-eq0
returns-then-at-eq0 c tree is whole noted =
    let it = noted_crossref c.args.body.now tree c.args.self is whole noted in
    elim c.then-at-eq0.branch [
      | then-at-eq0-via-then-at-eq0 w ↦ sym (it.none w.if-at-eq0.true)
      | then-at-eq0-via-else-at-eq0+then-at-body w ↦
          let beyond : length c.args.body.now < c.args.self.crossref_at = w.if-at-body.true in
          let within = (it.some (omega (arith, beyond))).4 in
          absurd (omega (arith, beyond, within))
    ]

pub returns-in-Ok : goal.returns-in-Ok
returns-in-Ok c tree is whole noted =
    let some : c.args.self.crossref_at ≢ 0 = c.if-at-eq0.false in
    crossref_read c.args.body.now tree c.args.self is whole noted (omega (arith, some)) _ (ap (λ (u : Text). read_row_field (length c.args.body.now) u) (sym c.text_from.ensures) ∙ c.in-Ok.ensures.read)

pub returns-in-Err : goal.returns-in-Err
returns-in-Err c tree is whole noted =
    let some : c.args.self.crossref_at ≢ 0 = c.if-at-eq0.false in
    crossref_read c.args.body.now tree c.args.self is whole noted (omega (arith, some)) _ (ap (λ (u : Text). read_row_field (length c.args.body.now) u) (sym c.text_from.ensures) ∙ c.in-Err.ensures.read)
