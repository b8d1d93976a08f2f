use Rattle.bib_shelf.proofs.Parted.{parted_read}
use Rattle.bib_shelf.proofs.laws.files_that_are_parted_have_readings.Goals as goal

pub returns : goal.returns
returns c = parted_read
