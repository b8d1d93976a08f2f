use Rattle.bib_answers.proofs.Words.{[], ◌∙◌, List, flat_map, ap, take_all, get_or, Text, Position, answer_of}
use Rattle.std.proofs.Common.{arith}
use Rattle.bib_scan.specs.declared.fault.ReadFault.{ReadFault}
use Rattle.bib_answers.specs.Lint.{error_line}
use Rattle.bib_answers.proofs.FaultLines.{told_line, told_more}
use Rattle.bib_answers.proofs.lint.answer_faults.Goals as goal

abbrev nothing : ReadFault
nothing = record { kind = 0; place = 0 }

pub faults-preserved : goal.faults-preserved
faults-preserved c =
    let fault : ReadFault = get_or c.args.faults.now c.faults.fault-index nothing in (
      c.known_at-known.ensures.known,
      told_more c.args.name.now c.args.file.now c.args.faults.now c.faults.fault-index nothing c.faults.lines.items c.add_error.new.out.items (error_line c.args.name.now c.known_at-known.result.at fault.kind)
          c.faults-test.true c.faults.invariant.1 (ap (λ (at : Position). error_line c.args.name.now at fault.kind) c.known_at-known.ensures.at) c.in_ok-add_error.ensures,
    )

pub returns : goal.returns
returns c =
    c.told.ensures
    ∙ ap (λ (t : Text). answer_of t [] 1)
    (c.faults.invariant.1
    ∙ ap (λ (l : List ReadFault). flat_map (told_line c.args.name.now c.args.file.now) l) (take_all c.faults.fault-index c.args.faults.now (let end = c.faults-test.false in omega (arith, end))))
