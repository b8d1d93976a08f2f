use Rattle.bib_spec.specs.Bytes.{name_limit}
use Rattle.shelf_spec.specs.Shelf.{shelf_text, on_shelf}
use Rattle.shelf_spec.proofs.ShelfReads.{shelf-reads}
use Rattle.bib_scan.proofs.OneReading.{one_reading}
use Rattle.bib_shelf.proofs.laws.a_shelf_has_one_reading.Goals as goal

pub returns : goal.returns
returns c = λ file db files dbs reads all.
    let read = shelf-reads file db files dbs reads all in
    (read, λ other it. one_reading name_limit (shelf_text file files) other (on_shelf db dbs) it read)
