-- The names of the faults of edits and sessions, by their numbers.
use Rattle.std.specs.Prelude.{ℕ, ◌==◌, if◌then◌else◌, codes}
use Rattle.bib_spec.specs.Text.{Text}
use Rattle.bib_answers.specs.Messages.{fault_name}

-- the name of a fault of an edit or a session, by its number (dialect)
abbrev pub session_fault_name : ℕ → Text
session_fault_name number =
    if number == 31 then codes "BadKey"
    else if number == 32 then codes "BadName"
    else if number == 33 then codes "BadValue"
    else if number == 34 then codes "BadPosition"
    else if number == 35 then codes "NotFound"
    else if number == 36 then codes "Ambiguous"
    else if number == 37 then codes "KeyInUse"
    else if number == 38 then codes "NameInUse"
    else if number == 39 then codes "Referred"
    else if number == 40 then codes "WouldMerge"
    else if number == 41 then codes "JournalFull"
    else if number == 51 then codes "NothingToUndo"
    else if number == 52 then codes "NothingToRedo"
    else if number == 53 then codes "BadJournal"
    else if number == 54 then codes "JournalMismatch"
    else if number == 55 then codes "StepOpen"
    else if number == 56 then codes "NoOpenStep"
    else fault_name number
