-- The text and the status for words that name no command.
use Rattle.std.specs.Prelude.{◌≡◌, ◌≢◌, true, List, [], Some}
use Rattle.clap.specs.Words.{Row, Text, IsAmong, fault_of, subcommand_of}
use Rattle.clap.specs.declared.error.ErrorKind.{ErrorKind}
use Rattle.clap.specs.declared.error.ErrorKind.TheVariants.{DisplayHelp, DisplayVersion, OutOfMemory}
use Rattle.bib_command.specs.declared.usages.Usage.{Usage}
use Rattle.bib_words.specs.declared.commands.Command.{Command}
use Rattle.bib_words.specs.Command.{IsCommand}
use Rattle.bib_command.specs.CommandLine.{bibkeep, is_in_conflict, IsCommandOf}

-- the answer without a text, if memory runs out
abbrev pub no_memory : Usage
no_memory = record { text = []; status = 4 }

-- the text and the status for an error of this kind (clap): 0 for help and the version, 2 for a mistake
pub data IsUsageOf (kind : ErrorKind) (usage : Usage) : Type 0 where
  help : kind ≡ DisplayHelp → usage.status ≡ 0 → IsUsageOf kind usage
  version : kind ≡ DisplayVersion → usage.status ≡ 0 → IsUsageOf kind usage
  mistake : kind ≢ DisplayHelp → kind ≢ DisplayVersion → kind ≢ OutOfMemory → usage.status ≡ 2 → IsUsageOf kind usage
  memory : usage ≡ no_memory → IsUsageOf kind usage

-- the words match, but they give a command over keys neither a key nor an aux file
pub record LackKeys (words : List Text) : Type 0 where
  pub command : Command
  pub named : IsCommandOf words command
  pub unknown : ¬ IsCommand command

-- the words match, but they give options that do not go together
pub record AreInConflict (words : List Text) : Type 0 where
  pub name : Text
  pub rows : List Row
  pub named : subcommand_of bibkeep words ≡ Some (name, rows)
  pub conflict : is_in_conflict rows ≡ true

-- the words match, but they name no command of the program
pub data MatchNoCommand (words : List Text) : Type 0 where
  keyless : LackKeys words → MatchNoCommand words
  in_conflict : AreInConflict words → MatchNoCommand words

-- The text and the status for words that name no command: those for the first fault that clap's exact matching meets, or a mistake if
-- the words match.
pub data IsUsageFor (words : List Text) (usage : Usage) : Type 0 where
  told : (kind : ErrorKind) → IsAmong kind (fault_of bibkeep words) → IsUsageOf kind usage → IsUsageFor words usage
  matched : MatchNoCommand words → usage.status ≡ 2 → IsUsageFor words usage
  memory : usage ≡ no_memory → IsUsageFor words usage
