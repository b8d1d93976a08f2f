use Rattle.bib_scan.proofs.JoinedReadings.{joined_readings}
use Rattle.bib_scan.proofs.laws.joined_readings.Goals as goal

pub returns : goal.returns
returns c = joined_readings
