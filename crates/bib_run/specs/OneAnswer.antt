-- A command has one answer. (dialect)
use Rattle.std.specs.Prelude.{◌≡◌, ◌≢◌, Option, codes}
use Rattle.bib_spec.specs.Text.{Text}
use Rattle.bib_words.specs.declared.commands.Command.{Command}
use Rattle.bib_answers.specs.declared.answers.Answer.{Answer}
use Rattle.bib_run.specs.Answers.{IsAnswer}

-- The bytes of its file, of its journal and of its input determine the answer of a command, except `explain`, whose pages are data, and
-- `diff`, whose script is one of those that lead from file to file.
abbrev pub one_answer : Type 0
one_answer = (command : Command) (file : Text) (journal : Option Text) (input : Text) (a b : Answer) → command.name ≢ codes "explain" → command.name ≢ codes "diff" → IsAnswer command file journal input a → IsAnswer command file journal input b → a ≡ b
