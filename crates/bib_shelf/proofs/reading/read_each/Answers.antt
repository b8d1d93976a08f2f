use Rattle.std.proofs.Common.{arith}
use Rattle.std.proofs.lemmas.Result.{err_from_is_err_and}
use Rattle.bib_shelf.specs.declared.joining.Joined.{Joined}
use Rattle.bib_shelf.proofs.Opens.{each_read}
use Rattle.bib_shelf.proofs.reading.read_each.Goals as goal

pub returns-in_err-read_file-clause-fault : goal.returns-in_err-read_file-clause-fault
returns-in_err-read_file-clause-fault c =
    let p = err_from_is_err_and c.from_residual.result c.from_residual.ensures.1 in
    rw (p.1, p.2) (λ files are. c.in_err-read_file.ensures.fault files are (c.files.invariant files are))

pub files-preserved : goal.files-preserved
files-preserved c = λ files are. c.in_ok-read_file.ensures.read files are (c.files.invariant files are)

pub returns-clause-read : goal.returns-clause-read
returns-clause-read c = λ files are.
    let joined : Joined = record { text = c.args.text.now; spans = c.args.spans.now } in
    each_read files joined c.files.i are (omega arith) (c.files.invariant files are)
