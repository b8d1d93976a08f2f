-- What is left of a file whose records are read one by one.
use Rattle.std.specs.Prelude.{ℕ, ◌≡◌, Result, Ok, Err, List, [], length}
use Rattle.bib_spec.specs.Text.{Text}
use Rattle.ris_text.specs.declared.records.RisRecord.{RisRecord}
use Rattle.ris_text.specs.declared.records.RisFile.{RisFile}
use Rattle.ris_text.specs.declared.fault.RisFault.{RisFault}
use Rattle.ris_text.specs.Lines.{Line}
use Rattle.ris_text.specs.Reading.{Reads, IsFaultOf}
use Rattle.ris_text.specs.Code.{told, with_front}

-- What is still to be read of a file: the records that it says and how many lines of the whole file are skipped, or where it goes
-- wrong; how many lines were skipped so far; and how many lines are left.
pub record Rest : Type 0 where
  pub says : Result RisFile RisFault
  pub skipped : ℕ
  pub lines : ℕ

-- the rest of a file that ends at this place, where `skipped` lines were skipped so far and these lines are left
abbrev pub rest_of : ℕ → ℕ → List Line → Rest
rest_of end skipped lines = record { says = with_front [] skipped (told end lines).outside; skipped = skipped; lines = length lines }

-- the file says these records first, and then the records that the rest says
pub record IsLeft (file : Text) (records : List RisRecord) (rest : Rest) : Type 0 where
  pub reads : (said : RisFile) → with_front records 0 rest.says ≡ Ok said → Reads file said
  pub wrong : (fault : RisFault) → rest.says ≡ Err fault → IsFaultOf file fault
