-- What holds of a file that opens, of each of its readings.
use Rattle.bib_edit.proofs.Words.{◌≡◌, false, is_some, sym, ◌∙◌, ap, subst, Text, Reading, Reads, months, Opens, IsOpenable}
use Rattle.bib_scan.specs.Laws.{OneReading}
use Rattle.bib_edit.proofs.LongTexts.{any_long, too_long-any}

-- the one reading of a file that opens
pub opens-as : (file : Text) (db : Reading) → OneReading → IsOpenable file → Reads file db → Opens file db
opens-as file db one is reads = subst (λ (r : Reading). Opens file r) (one file is.0 db is.1.reads reads) is.1

pub none-long : (file : Text) (db : Reading) → Opens file db → any_long months db.items ≡ false
none-long file db opens = sym (too_long-any db) ∙ ap is_some opens.texts
