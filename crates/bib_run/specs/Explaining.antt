-- `explain`: what a fault means. (dialect)
use Rattle.std.specs.Prelude.{◌≡◌, ◌++◌, [], Some, None, codes}
use Rattle.bib_spec.specs.Text.{Text}
use Rattle.fault_pages.specs.Heads.{Head, asked}
use Rattle.bib_answers.specs.declared.answers.Answer.{Answer}
use Rattle.bib_answers.specs.Outcome.{answer_of}

-- a line with the number and the name of a fault, and an empty line
abbrev pub head_lines : Head → Text
head_lines head = head.0 ++ (codes " " ++ (head.1 ++ codes "\n\n"))

-- the message of a word that is no fault's number or name
abbrev pub no_such_fault_line : Text
no_such_fault_line = codes "bibkeep: 13 NoSuchFault\n"

-- `explain FAULT`: the page on the fault that the word names, which begins with its number and name
pub data IsExplainAnswer (word : Text) (answer : Answer) : Type 0 where
  explained : (head : Head) (text : Text) → asked word ≡ Some head → answer ≡ answer_of (head_lines head ++ text) [] 0 → IsExplainAnswer word answer
  unknown : asked word ≡ None → answer ≡ answer_of [] no_such_fault_line 1 → IsExplainAnswer word answer
