use Rattle.std.proofs.Common.{◌∙◌, ap, map}
use Rattle.bibtex_places.specs.Lists.{record_of_listed}
use Rattle.bibtex_places.proofs.ListedRecords.{records_are}
use Rattle.bibtex_places.proofs.listing.list_as_bibtex.Goals as goal

pub returns-in-Ok-clause-records : goal.returns-in-Ok-clause-records
returns-in-Ok-clause-records c texts are = ap (map (record_of_listed texts)) (c.in-Ok.ensures.listed texts are) ∙ records_are texts c.args.keys.now c.args.least
