-- Files that agree, as a session of the old one has it.
use Rattle.std.proofs.Common.{◌≡◌, ◌∙◌, List, [], Option, None, Some, refl, sym, ap, subst}
use Rattle.std.specs.Option.{IfNone, IfSome}
use Rattle.bib_spec.specs.Text.{Text}
use Rattle.bib_data.specs.declared.request.Request.{Request}
use Rattle.bib_journal.specs.OpenSteps.{SessionState, idle}
use Rattle.bib_journal.specs.Session.{started}
use Rattle.diff_spec.specs.Agreement.{FilesAgree}
use Rattle.bib_diff.specs.Leading.{LeadTo}

-- the file of a session that was started from the old file is the old file
present_is : (old present : Text) (session : SessionState) → session ≡ idle (started old) → present ≡ session.steps.present → present ≡ old
present_is old present session is now = now ∙ ap (λ (s : SessionState). s.steps.present) is

-- no request leads from a file to one that agrees with it
pub led_already : {X : Type 0} (old new present : Text) (session : SessionState) (requests : List Request) (found : Option X) → session ≡ idle (started old) → present ≡ session.steps.present
    → requests ≡ [] → found ≡ None → IfNone found (FilesAgree present new) → LeadTo requests old new
led_already {X} old new present session requests found is now empty nothing agree =
    subst (λ (rs : List Request). LeadTo rs old new) (sym empty)
    (record {
      state = idle (started old);
      did = refl;
      agree = subst (λ (file : Text). FilesAgree file new) (present_is old present session is now) (subst (λ (o : Option X). IfNone o (FilesAgree present new)) nothing agree);
    })

pub differ_so : {X : Type 0} (old new present : Text) (session : SessionState) (found : Option X) (n : X) → session ≡ idle (started old) → present ≡ session.steps.present
    → found ≡ Some n → IfSome found (λ n. FilesAgree present new → ⊥) → FilesAgree old new → ⊥
differ_so {X} old new present session found n is now something differ agree =
    let apart : FilesAgree present new → ⊥ = subst (λ (o : Option X). IfSome o (λ n. FilesAgree present new → ⊥)) something differ in
    apart (subst (λ (file : Text). FilesAgree file new) (sym (present_is old present session is now)) agree)
