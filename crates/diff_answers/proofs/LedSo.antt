-- What requests that lead from one file to another are for the answer.
use Rattle.std.proofs.Common.{◌≡◌, ◌≢◌, List, [], ◌∷◌, None, refl, subst}
use Rattle.bib_spec.specs.Text.{Text}
use Rattle.bib_data.specs.declared.request.Request.{Request}
use Rattle.bib_journal.specs.OpenSteps.{SessionState}
use Rattle.diff_spec.specs.Agreement.{FilesAgree}
use Rattle.bib_diff.specs.Leading.{Leads}
use Rattle.bib_diff.specs.declared.fault.DiffFault.TheVariants.{NoScript, Memory}
use Rattle.script_text.specs.Saying.{Says}
use Rattle.bib_answers.specs.declared.answers.Answer.{Answer}
use Rattle.bib_answers.specs.Outcome.{answer_of}
use Rattle.diff_answers.specs.Answers.{IsDiffAnswer, diff_line}

-- no request leads from a file to another only if they agree
pub agree_so : (old_name new_name old new : Text) (requests : List Request) (answer : Answer) → requests ≡ [] → answer ≡ answer_of [] [] 0 → Leads requests old new → IsDiffAnswer old_name new_name old new answer
agree_so old_name new_name old new requests answer none is leads =
    let led : Leads [] old new = subst (λ (rs : List Request). Leads rs old new) none leads in
    IsDiffAnswer.agree led.old_opens led.new_opens (subst (λ (s : SessionState). FilesAgree s.steps.present new) led.leads.did led.leads.agree) is

-- requests that are some lead only between files that do not agree
pub differ_so : (old_name new_name old new : Text) (requests : List Request) (script : Text) (answer : Answer) → requests ≢ [] → Says requests script → answer ≡ answer_of script [] 1
    → Leads requests old new → (FilesAgree old new → requests ≡ []) → IsDiffAnswer old_name new_name old new answer
differ_so old_name new_name old new [] script answer some says is leads needed = absurd (some refl)
differ_so old_name new_name old new (request ∷ requests) script answer some says is leads needed = IsDiffAnswer.differ request requests script says leads (λ agree. some (needed agree)) is

-- if no lines say them, there is no script
pub unsaid_so : (old_name new_name old new : Text) (requests : List Request) (answer : Answer) → requests ≢ [] → NoScript None ≢ Memory → answer ≡ answer_of [] (diff_line old_name new_name (NoScript None)) 1
    → Leads requests old new → (FilesAgree old new → requests ≡ []) → IsDiffAnswer old_name new_name old new answer
unsaid_so old_name new_name old new requests answer some told is leads needed =
    IsDiffAnswer.refused (NoScript None) told (leads.old_opens, leads.new_opens, λ agree. some (needed agree)) is
