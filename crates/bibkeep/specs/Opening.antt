-- Which commands put something in place, and what their journals tell.
use Rattle.std.specs.Prelude.{◌≡◌, ◌≢◌, false, codes, [], Option, Some, None, IsSome, pos}
use Rattle.std.specs.Fd.{file_raw_fd}
use Rattle.bib_spec.specs.Text.{Text}
use Rattle.bib_words.specs.declared.commands.Command.{Command}
use Rattle.bib_words.specs.Command.{MakesFile, ReadsJournal, TakesInput}
use Rattle.bibkeep.specs.declared.opening.Journal.{Journal}
use Rattle.bibkeep.specs.declared.opening.Opened.{Opened}
use Rattle.bibkeep.specs.declared.opening.Journal.TheVariants.{Unread, Missing, Found, Link}

-- the commands that store: those that make a file, without `--print`; and `forget`
pub data Stores (c : Command) : Type 0 where
  makes : MakesFile c → c.print ≡ false → Stores c
  forget : c.name ≡ codes "forget" → Stores c

-- the commands that store a journal: all of these, but with `--no-journal` none
pub record StoresJournal (c : Command) : Type 0 where
  pub stores : Stores c
  pub wanted : c.no_journal ≡ false

-- what a journal tells that was found so: a file tells nothing, and a link is read as an empty text
abbrev pub told_by : Journal → Option (Option Text)
told_by Unread = None
told_by Missing = None
told_by (Found file) = Some None
told_by Link = Some (Some [])

-- What was opened for the command: its journal was looked for if the command reads it and the file has a path, and only then. If the
-- command takes input, the file is not standard input.
pub record IsOpenedFor (command : Command) (opened : Opened) : Type 0 where
  pub apart : TakesInput command → file_raw_fd opened.file ≢ pos 0
  pub unread : ¬ ReadsJournal command → opened.journal ≡ Unread
  pub looked : ReadsJournal command → IsSome opened.paths → opened.journal ≢ Unread
