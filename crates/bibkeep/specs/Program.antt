-- How the program ends, for the words of its command line.
use Rattle.std.specs.Prelude.{ℕ, List}
use Rattle.std.specs.declared.io.Error.{Error}
use Rattle.bib_spec.specs.Text.{Text}
use Rattle.bib_words.specs.declared.commands.Command.{Command}
use Rattle.bib_command.specs.declared.usages.Usage.{Usage}
use Rattle.bib_command.specs.CommandLine.{IsCommandOf}
use Rattle.bib_command.specs.Usage.{IsUsageFor}
use Rattle.bibkeep.specs.Causes.{IsErrorStatus, IsUsageStatus}
use Rattle.bibkeep.specs.Citing.{EndsCiting}

-- The program ends with this status for these words: as the command ends that they name; or they name none, and it ends with the status
-- of the text for the user.
pub data EndsForWords (words : List Text) (status : ℕ) : Type 0 where
  named : (command : Command) → IsCommandOf words command → EndsCiting command status → EndsForWords words status
  unnamed : (usage : Usage) → IsUsageFor words usage → IsUsageStatus usage status → EndsForWords words status

-- The program ends with this status: for some words; or its words could not be read, and the status is 4 if memory ran out, else 2.
pub data Ends (status : ℕ) : Type 0 where
  given : (words : List Text) → EndsForWords words status → Ends status
  unread : (error : Error) → IsErrorStatus error 2 status → Ends status
