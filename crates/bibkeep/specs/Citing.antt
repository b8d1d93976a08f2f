-- How a command ends that has the keys of aux files.
use Rattle.std.specs.Prelude.{ℕ, ◌≡◌, ◌≢◌, true, false, List, ◌++◌, take, drop, codes}
use Rattle.bib_spec.specs.Text.{Text}
use Rattle.aux_text.specs.Citations.{with_cited}
use Rattle.aux_text.specs.declared.placing.AuxKeys.{AuxKeys}
use Rattle.bib_words.specs.declared.commands.Command.{Command}
use Rattle.bib_words.specs.Command.{has_any}
use Rattle.bibkeep.specs.declared.aux_files.AuxFault.{AuxFault}
use Rattle.bibkeep.specs.Causes.{aux_status}
use Rattle.bibkeep.specs.Ending.{EndsFor}

-- the command with these keys after its own; if `*` is among them, it is the only key
abbrev pub citing : Command → List Text → Command
citing command cited = record command { words = take 1 command.words ++ with_cited (drop 1 command.words) cited }

-- the command with these keys, each with its place, beside its own words
abbrev pub placing : Command → List AuxKeys → Command
placing command cited = record command { cited = cited }

-- The program ends with this status for this command: as for the command alone, if it names no aux file; or as for the command with the
-- keys that its aux files cite, which for `lint` are kept apart from its words, each with its place; or with the status for the fault of
-- an aux file, or with 4 if memory was refused.
pub data EndsCiting (command : Command) (status : ℕ) : Type 0 where
  alone : has_any command.aux ≡ false → EndsFor command status → EndsCiting command status
  cited : command.name ≢ codes "lint" → (keys : List Text) → EndsFor (citing command keys) status → EndsCiting command status
  placed : command.name ≡ codes "lint" → (keys : List AuxKeys) → EndsFor (placing command keys) status → EndsCiting command status
  uncited : has_any command.aux ≡ true → (why : AuxFault) → status ≡ aux_status why → EndsCiting command status
  no_memory : has_any command.aux ≡ true → status ≡ 4 → EndsCiting command status
