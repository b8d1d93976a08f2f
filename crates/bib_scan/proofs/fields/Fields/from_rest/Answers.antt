use Rattle.bib_scan.proofs.Words.{length, arith}
use Rattle.bib_scan.proofs.StepLaws.{fields_few}
use Rattle.bib_scan.proofs.fields.Fields.from_rest.Goals as goal

pub returns-clause-count : goal.returns-clause-count
returns-clause-count c =
    let few = fields_few (length c.args.rest.now) c.args.kind c.args.body_len c.args.rest.now in
    omega (arith, few, c.requires, c.ranges.body_len.fits)
