-- The words that most proofs of this crate cite, passed on from one place. Declares nothing.
pub use Rattle.bib_data.specs.declared.edit.Edit.{Edit}
pub use Rattle.bib_data.specs.declared.edit.Edit.TheVariants.{AddEntry, AddMany, DropField, InlineMacro, IntroduceMacro, MoveEntry, RegenerateKeys, RemoveEntry, RenameKey, RenameMacro, SetField, SetType, UndefineMacro, RenameField, DefineMacro, SetMacro}
pub use Rattle.bib_data.specs.declared.request.Request.{Request}
pub use Rattle.bib_edit.proofs.AskedEdits.{asked_for}
pub use Rattle.bib_edit.proofs.KeyBases.{has_key_base}
pub use Rattle.bib_edit.specs.Asking.{AsksFor, OfEdit}
pub use Rattle.bib_edit.specs.Planning.{ArePiecesOf, IsAllowedEdit}
pub use Rattle.bib_edit.specs.declared.fault.EditFault.{EditFault}
pub use Rattle.bib_journal.specs.Kept.{kept}
pub use Rattle.bib_journal.specs.Loading.{AreTurnable, FitFile, Loads, Saves, SaysOf, contents_of, last_of}
pub use Rattle.bib_journal.specs.OneResult.{IsGood}
pub use Rattle.bib_journal.specs.OpenSteps.{IsOpenIn, JoinsLast, LacksRoom, MakesSteps, MovesTo, SessionState, after_edit, idle, new_step}
pub use Rattle.bib_journal.specs.Renaming.{OfReadings}
pub use Rattle.bib_journal.specs.Runs.{IsOneSession, OnDisk, course_of, ended}
pub use Rattle.bib_journal.specs.Session.{Does, DoesAll, MakesAgain, MakesEdit, Opens, Performs, Refuses, RefusesOpen, StopsAt, TakesBack}
pub use Rattle.bib_journal.specs.declared.fault.SessionFault.{SessionFault}
pub use Rattle.bib_journal.specs.declared.fault.SessionFault.TheVariants.{BadJournal, JournalFull, JournalMismatch, Memory, NoOpenStep, NothingToRedo, NothingToUndo, Refused, StepOpen, Unopened}
pub use Rattle.bib_journal.specs.declared.open_step.OpenStep.{OpenStep}
pub use Rattle.bib_journal.specs.declared.open_step.OpenStep.TheVariants.{LastStep, NewStep, NoStep}
pub use Rattle.bib_journal.specs.declared.saving.Saved.{Saved}
pub use Rattle.bib_keys.specs.MadeBase.{made_base}
pub use Rattle.bib_scan.proofs.OneReading.{one_reading}
pub use Rattle.bib_spec.proofs.WayBack.{fit_back}
pub use Rattle.bib_spec.specs.Bytes.{file_limit, line_feed, name_limit}
pub use Rattle.bib_spec.specs.Fault.{too_long}
pub use Rattle.bib_spec.specs.Pieces.{EndBy, Fit, Piece, applied, reversed}
pub use Rattle.bib_spec.specs.Reading.{Reading, Reads, bytes_of}
pub use Rattle.bib_spec.specs.Text.{Text}
pub use Rattle.bib_spec.specs.Texts.{IsOpenable}
pub use Rattle.bib_steps.proofs.Edited.{spot_inside, spot_within}
pub use Rattle.bib_steps.specs.Amending.{HasSpot, amended, edited_at}
pub use Rattle.edit_spec.specs.Edits.{IsAccepted}
pub use Rattle.history_spec.proofs.Around.{composed-stand_apart}
pub use Rattle.history_spec.proofs.StepLemmas.{going-back-undoes, going-on-redoes, lead_to_pop, steps-lead-back}
pub use Rattle.history_spec.specs.Composing.{Replacement, StandApart, composed, ends_of, replaced}
pub use Rattle.history_spec.specs.History.{History, Undoes}
pub use Rattle.history_spec.specs.Steps.{Adds, BelongTo, GoesBack, GoesOn, IsAllowed, IsFull, IsSound, KeptSteps, LeadOn, LeadTo, Leads, Step, before, first_of, history_of, piece_text, with_edit}
unfoldable pub use Rattle.history_spec.specs.Steps.{pieces_text, step_text_len}
pub use Rattle.journal_format.proofs.JournalLaws.{one-contents}
pub use Rattle.journal_format.specs.Contents.{Contents, IsDigest}
unfoldable pub use Rattle.journal_format.specs.Contents.{digest_of}
pub use Rattle.journal_format.specs.JournalText.{journal_text}
pub use Rattle.std.proofs.Common.{Bool, IfSome, List, None, Option, Some, [], ap, ap₂, arith, decimal, drop, get_or, if◌then◌else◌, inl, inr, length, length-append, min, refl, replicate, reverse, rules, subst, suc, sum_by, sym, take, true, zero, ℕ, ⊎_elim, ◌++◌, ◌+◌, ◌-◌, ◌<◌, ◌^◌, ◌∙◌, ◌∷◌, ◌≡◌}
pub use Rattle.std.proofs.Common.{◌≢◌, ◌≤◌, ◌⊎◌}
pub use Rattle.std.proofs.lemmas.Bool.{false≢true}
pub use Rattle.std.proofs.lemmas.List.{drop_more, length-replicate, length_push, same_from_push, take-replicate, take_more}
pub use Rattle.std.proofs.lemmas.List.Elements.{All-from_recursion}
pub use Rattle.std.proofs.lemmas.Result.{IfOk-weaker}
pub use Rattle.std.specs.List.{AllByRecursion, flat_map}
pub use Rattle.std.specs.Prelude.{OnOk}
