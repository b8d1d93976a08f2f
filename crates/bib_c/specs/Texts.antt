-- The texts that the last call gave, by number. (dialect)
use Rattle.std.specs.Prelude.{◌≡◌, ◌≢◌, ◌==◌, ℕ, Bool, true, false, length, Option, Some, None, if◌then◌else◌}
use Rattle.bib_spec.specs.Text.{Text}
use Rattle.bib_answers.specs.declared.answers.Answer.{Answer}

-- 0 is the output, 1 the message, 2 the new file and 3 the new journal
abbrev pub text_given : ℕ → Answer → Option Text
text_given which answer =
    if which == 0 then Some answer.output
    else if which == 1 then Some answer.outcome.message
    else if which == 2 then answer.outcome.file
    else if which == 3 then answer.outcome.journal
    else None

-- whether there is a text, and its length, which is 0 where there is none
abbrev pub IsLength : Option Text → Bool → ℕ → Type 0
IsLength (Some text) there len = (there ≡ true) × (len ≡ length text)
IsLength None there len = (there ≡ false) × (len ≡ 0)

-- the text is copied to where there is room for it and no more; else nothing is
pub data IsCopy (text : Option Text) (copied : Bool) (old new : Text) : Type 0 where
  whole : copied ≡ true → text ≡ Some new → IsCopy text copied old new
  other : (given : Text) → copied ≡ false → text ≡ Some given → length given ≢ length old → new ≡ old → IsCopy text copied old new
  none : copied ≡ false → text ≡ None → new ≡ old → IsCopy text copied old new
