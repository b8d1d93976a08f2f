use Rattle.std.proofs.Common.{ℕ, ◌≡◌, ◌≢◌, ◌∙◌, sym, ap, subst, List, codes}
use Rattle.std.proofs.lemmas.Bool.{false≢true}
use Rattle.bib_spec.specs.Text.{Text}
use Rattle.aux_text.specs.declared.placing.AuxKeys.{AuxKeys}
use Rattle.bib_words.specs.declared.commands.Command.{Command}
use Rattle.bib_words.specs.Command.{has_any}
use Rattle.bibkeep.specs.Ending.{EndsFor}
use Rattle.bibkeep.specs.Citing.{EndsCiting, citing, placing}
use Rattle.bibkeep.proofs.answer.Goals as goal

-- a command with these keys after its own ends as the command ends that cites them
ends_with_keys : (command now : Command) (keys : List Text) (status : ℕ) → command.name ≢ codes "lint" → now ≡ citing command keys → EndsFor now status → EndsCiting command status
ends_with_keys command now keys status other same ends = EndsCiting.cited other keys (subst (λ (c : Command). EndsFor c status) same ends)

-- `lint` with these keys beside its words ends as the command ends that has them
ends_with_places : (command now : Command) (keys : List AuxKeys) (status : ℕ) → command.name ≡ codes "lint" → now ≡ placing command keys → EndsFor now status → EndsCiting command status
ends_with_places command now keys status lint same ends = EndsCiting.placed lint keys (subst (λ (c : Command). EndsFor c status) same ends)

pub returns-then-not-names_any : goal.returns-then-not-names_any
returns-then-not-names_any c = EndsCiting.alone (sym (c.names_any.ensures ∙ ap has_any c.as_slice.ensures) ∙ c.if-not-names_any.true) c.perform.ensures

pub returns-in-Ok : goal.returns-in-Ok
returns-in-Ok c = ends_with_places c.args.command _ c.in-Ok.cited.items _ (c.is_named.ensures.0 c.if-is_named.true) c.placing.ensures c.perform_known.ensures

pub returns-in-Ok-citing : goal.returns-in-Ok-citing
returns-in-Ok-citing c =
    ends_with_keys c.args.command _ c.in-Ok-cited_in.cited.items _ (λ lint. false≢true (sym c.if-is_named.false ∙ c.is_named.ensures.1 lint)) c.in-Ok-citing.ensures c.perform_known-in-Ok-citing.ensures

pub returns-in-Err : goal.returns-in-Err
returns-in-Err c =
    EndsCiting.uncited (sym (c.names_any.ensures ∙ ap has_any c.as_slice.ensures) ∙ c.if-not-names_any.false) c.in-Err.fault c.end_without_aux.ensures

pub returns-in-Err-cited_in : goal.returns-in-Err-cited_in
returns-in-Err-cited_in c =
    EndsCiting.uncited (sym (c.names_any.ensures ∙ ap has_any c.as_slice.ensures) ∙ c.if-not-names_any.false)
    c.in-Err-cited_in.fault c.end_without_aux-in-Err-cited_in.ensures
