use Rattle.bib_ris.proofs.Words.{◌≡◌, ◌∙◌, [], ◌∷◌, ◌++◌, List, sym, ap, ap₂, subst, cases_Bool, Record, NewEntry, are_balanced, Drafts, AreDraftsOf}
use Rattle.std.proofs.Common.{inl, inr}
use Rattle.ris_format.specs.declared.fault.MappingFault.TheVariants.{UnbalancedText, Memory}
use Rattle.bib_ris.proofs.DraftSteps.{drafts-more}
use Rattle.bib_ris.proofs.drafts.Drafts.add.Goals as goal

pub returns-in_ok-push-in-Ok-clause-added : goal.returns-in_ok-push-in-Ok-clause-added
returns-in_ok-push-in-Ok-clause-added c balanced records so =
    let more : Drafts = record { entries = c.push.new.self; bases = c.add_base.new.self.bases } in
    subst (λ (entry : Record). AreDraftsOf (records ++ entry ∷ []) more) c.in_ok-entry.ensures.record
    (drafts-more records c.in_ok-entry.entry c.args.self.now more so c.in-Ok.ensures.balanced
    (c.in_ok-push-in-Ok.ensures.items
    ∙ ap₂ (λ (entries : List NewEntry) (draft : NewEntry). entries ++ draft ∷ []) (ap (λ v. v.items) c.in_ok-add_base.ensures.entries) c.in-Ok.ensures.entry)
    c.in_ok-add_base.ensures.bases c.in_ok-add_base.ensures.short)

pub returns-in-Err-UnbalancedText-clause-unbalanced : goal.returns-in-Err-UnbalancedText-clause-unbalanced
returns-in-Err-UnbalancedText-clause-unbalanced c unbalanced = elim (cases_Bool (are_balanced c.in_ok-entry.entry)) [
  | inl is ↦ let wrong : UnbalancedText ≡ Memory = sym c.in-Err-UnbalancedText.field-0-is ∙ c.in-Err-UnbalancedText.ensures.memory is in absurd (cc)
  | inr is ↦ ap are_balanced (sym c.in_ok-entry.ensures.record) ∙ is
]
