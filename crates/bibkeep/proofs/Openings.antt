-- What a command opens.
use Rattle.std.proofs.Common.{◌≡◌, ◌≢◌, IfOk, Result, Ok, Err}
use Rattle.std.specs.Prelude.{IsSome, pos}
use Rattle.std.specs.Fd.{file_raw_fd}
use Rattle.std.specs.declared.io.Error.{Error}
use Rattle.bib_words.specs.declared.commands.Command.{Command}
use Rattle.bib_words.specs.Command.{ReadsJournal, TakesInput}
use Rattle.bibkeep.specs.declared.opening.Opened.{Opened}
use Rattle.bibkeep.specs.declared.opening.Journal.TheVariants.{Unread}
use Rattle.bibkeep.specs.Opening.{IsOpenedFor}

-- what opening says of its file and of its journal, together
pub opened_for : (command : Command) (opened : Result Opened Error) → (TakesInput command → IfOk opened (λ it. file_raw_fd it.file ≢ pos 0))
    → (¬ ReadsJournal command → IfOk opened (λ it. it.journal ≡ Unread)) → (ReadsJournal command → IfOk opened (λ it. IsSome it.paths → it.journal ≢ Unread))
    → IfOk opened (IsOpenedFor command)
opened_for command (Ok it) apart unread looked = record { apart = apart; unread = unread; looked = looked }
opened_for command (Err why) apart unread looked = tt
