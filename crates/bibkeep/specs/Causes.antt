-- Why a command is not run over files, and with which status it then ends.
use Rattle.std.specs.Prelude.{ℕ, ◌≡◌, ◌≢◌}
use Rattle.bib_command.specs.declared.usages.Usage.{Usage}
use Rattle.std.specs.IoError.{error_kind}
use Rattle.std.specs.declared.io.Error.{Error}
use Rattle.std.specs.declared.io.ErrorKind.TheVariants.{OutOfMemory}
use Rattle.bibkeep.specs.declared.other_files.FileFault.{FileFault}
use Rattle.bibkeep.specs.declared.other_files.FileFault.TheVariants.{Memory, Unread}
use Rattle.bibkeep.specs.declared.aux_files.AuxFault.{AuxFault}
use Rattle.bibkeep.specs.declared.aux_files.AuxFault.TheVariants.{File, TooLong}

-- the status for a call that failed with this error: 4 if memory ran out, else that of such a fault
pub data IsErrorStatus (error : Error) (fault status : ℕ) : Type 0 where
  memory : error_kind error ≡ OutOfMemory → status ≡ 4 → IsErrorStatus error fault status
  other : error_kind error ≢ OutOfMemory → status ≡ fault → IsErrorStatus error fault status

-- the status for words that give no command: that of the text for the user, or 3 if that is help or the version and could not be written
pub data IsUsageStatus (usage : Usage) (status : ℕ) : Type 0 where
  told : status ≡ usage.status → IsUsageStatus usage status
  unwritten : usage.status ≡ 0 → status ≡ 3 → IsUsageStatus usage status

-- the status for a file that was not read: 4 if memory ran out, else 3
abbrev pub fault_status : FileFault → ℕ
fault_status Memory = 4
fault_status (Unread path why) = 3

-- the status if it is not known what aux files cite: that for the file that was not read, or 1 for one that is too long
abbrev pub aux_status : AuxFault → ℕ
aux_status (File why) = fault_status why
aux_status (TooLong path) = 1
