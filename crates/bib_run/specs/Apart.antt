-- A command that is not run over one file.
use Rattle.std.specs.Prelude.{[], codes}
use Rattle.bib_spec.specs.Text.{Text}
use Rattle.bib_answers.specs.declared.answers.Answer.{Answer}
use Rattle.bib_answers.specs.Outcome.{answer_of}

-- the message of a run of `merge` over one file (dialect)
abbrev pub apart_line : Text
apart_line = codes "bibkeep: merge is run over three files\n"

-- the answer of `merge` to one file: nothing but the message
abbrev pub apart_answer : Answer
apart_answer = answer_of [] apart_line 2
