use Rattle.std.proofs.Common.{◌∙◌, refl, get_or, subst}
use Rattle.bib_spec.specs.Text.{Text}
use Rattle.bib_spec.specs.Reading.{HasReading}
use Rattle.bib_spec.specs.Fault.{IsReadFault}
use Rattle.bib_shelf.specs.declared.joining.Joined.{Joined}
use Rattle.bib_shelf.proofs.Opens.{file_known, file_too_long, file_short, file_read, begins_first, ends_within, its_bytes}
use Rattle.bib_shelf.proofs.reading.read_file.Goals as goal
use Rattle.bib_shelf.proofs.reading.read_file.Goals.{in-Ok, in-Err}

pub returns-then-end-gt-FILE_LIMIT-clause-fault : goal.returns-then-end-gt-FILE_LIMIT-clause-fault
returns-then-end-gt-FILE_LIMIT-clause-fault c = λ files are before.
    let joined : Joined = record { text = c.args.text.now; spans = c.args.spans.now } in
    file_too_long files c.args.i (get_or c.args.spans.now c.args.i (0, 0)) c.saturating_sub.result
    (file_known files joined c.args.spans.now c.args.i are refl c.requires.file) before c.if-end-gt-FILE_LIMIT.true c.saturating_sub.ensures

pub bytes_between-file-requires-clause-order : goal.bytes_between-file-requires-clause-order
bytes_between-file-requires-clause-order c =
    let joined : Joined = record { text = c.args.text.now; spans = c.args.spans.now } in
    begins_first c.requires.joined.0 0 c.args.i (get_or c.args.spans.now c.args.i (0, 0))
    (file_known c.requires.joined.0 joined c.args.spans.now c.args.i c.requires.joined.1 refl c.requires.file)

pub bytes_between-file-requires-clause-within : goal.bytes_between-file-requires-clause-within
bytes_between-file-requires-clause-within c =
    let joined : Joined = record { text = c.args.text.now; spans = c.args.spans.now } in
    ends_within c.requires.joined.0 joined c.args.text.now c.args.i (get_or c.args.spans.now c.args.i (0, 0)) c.requires.joined.1 refl
    (file_known c.requires.joined.0 joined c.args.spans.now c.args.i c.requires.joined.1 refl c.requires.file)

pub returns-clause-read : goal.returns-clause-read
returns-clause-read c =
    elim c.match-read.branch [
      | in-Ok w ↦ rw (w.result-is) (λ files are before.
          let joined : Joined = record { text = c.args.text.now; spans = c.args.spans.now } in
          let s = get_or c.args.spans.now c.args.i (0, 0) in
          let it = file_known files joined c.args.spans.now c.args.i are refl c.requires.file in
          let bytes = c.bytes_between-file.ensures ∙ its_bytes files joined c.args.text.now c.args.i s are refl it in
          file_read files c.args.i s it before c.if-end-gt-FILE_LIMIT.false (subst HasReading bytes (w.in-Ok.ensures.found.1.0, w.in-Ok.ensures.found.1.1)))
      | in-Err w ↦ rw (w.result-is) tt
    ]

pub returns-clause-fault : goal.returns-clause-fault
returns-clause-fault c =
    elim c.match-read.branch [
      | in-Ok w ↦ rw (w.result-is) tt
      | in-Err w ↦ rw (w.result-is) (λ files are before.
          let joined : Joined = record { text = c.args.text.now; spans = c.args.spans.now } in
          let s = get_or c.args.spans.now c.args.i (0, 0) in
          let it = file_known files joined c.args.spans.now c.args.i are refl c.requires.file in
          let bytes = c.bytes_between-file.ensures ∙ its_bytes files joined c.args.text.now c.args.i s are refl it in
          w.fault_of.ensures files it.its it.at_i before (file_short files c.args.i s it c.if-end-gt-FILE_LIMIT.false)
          (subst (λ (t : Text). IsReadFault t w.in-Err.fault.kind w.in-Err.fault.place) bytes w.in-Err.ensures.fault))
    ]
