-- The words that most proofs of this crate cite, passed on from one place. Declares nothing.
pub use Rattle.bib_answers.specs.Cat.{IsCatAnswer}
pub use Rattle.bib_answers.specs.Lint.{IsLintAnswer, error_line}
pub use Rattle.bib_answers.specs.Messages.{refusal_line}
pub use Rattle.bib_answers.specs.Opened.{AnswersFile}
pub use Rattle.bib_answers.specs.Outcome.{answer_of}
pub use Rattle.bib_answers.specs.Positions.{position_of}
pub use Rattle.bib_answers.specs.declared.answers.Answer.{Answer}
pub use Rattle.bib_data.specs.declared.edit.Edit.TheVariants.{AddMany}
pub use Rattle.bib_data.specs.declared.request.Request.{Request}
pub use Rattle.bib_journal.proofs.OpenFaults.{open_fault}
pub use Rattle.bib_journal.proofs.SeveralRuns.{one-opening, opened_is_sound}
pub use Rattle.bib_journal.specs.Loading.{Saves}
pub use Rattle.bib_journal.specs.OpenSteps.{SessionState, idle}
pub use Rattle.bib_journal.specs.Session.{IsOpened, Opens, Performs, RefusesOpen}
pub use Rattle.bib_journal.specs.Turns.{HasTurned}
pub use Rattle.bib_journal.specs.declared.fault.SessionFault.{SessionFault}
pub use Rattle.bib_journal.specs.declared.fault.SessionFault.TheVariants.{BadJournal, JournalMismatch, Unopened}
pub use Rattle.bib_journal.specs.declared.saving.Saved.{Saved}
pub use Rattle.bib_ris.specs.Import.{AreAdditions}
pub use Rattle.bib_ris.specs.declared.importing.Additions.{Additions}
pub use Rattle.bib_run.specs.Answers.{IsAnswer, first_word, key_words}
pub use Rattle.bib_run.specs.EditAnswer.{HasEdited, HasEditedBy, HasEditedByWords, IsEditAnswer, IsWordsAnswer, changes_of, edited_answer, fault_message, stop_line}
pub use Rattle.bib_run.specs.ImportAnswer.{HasAdded, HasImported, IsImportAnswer}
pub use Rattle.bib_run.specs.Inputs.{AnswersInput, AnswersSession, within}
pub use Rattle.bib_run.specs.Log.{IsForgetAnswer, IsLogAnswer, new_len, old_len, step_line}
pub use Rattle.bib_run.specs.Sessions.{IsUnfit, IsUnopened, IsUnopenedAnswer, OpensWith, bad_journal_line, fault_line, is_of_journal, judged_journal, mismatch_line, outcome_after}
pub use Rattle.bib_run.specs.Shown.{shown}
pub use Rattle.bib_run.specs.Transfers.{ReadsUpTo, WritesPrefix}
pub use Rattle.bib_run.specs.Turns.{IsTurnAnswer, turned}
pub use Rattle.bib_scan.specs.declared.fault.ReadFault.{ReadFault}
pub use Rattle.bib_script.specs.Script.{Said, said_of}
pub use Rattle.bib_script.specs.Words.{asked_by_words}
pub use Rattle.bib_spec.specs.Bytes.{file_limit}
pub use Rattle.bib_spec.specs.Fault.{IsReadFault, no_reading}
pub use Rattle.bib_spec.specs.Reading.{Reading}
pub use Rattle.bib_spec.specs.Text.{Text}
pub use Rattle.bib_spec.specs.Texts.{IsOpenable}
pub use Rattle.bib_store.specs.Readings.{IsOpenFault}
pub use Rattle.bib_taps.specs.Taps.{has_failed, interruptions, tap_inner}
pub use Rattle.bib_words.specs.declared.commands.Command.{Command}
pub use Rattle.history_spec.specs.Steps.{KeptSteps}
pub use Rattle.std.proofs.Common.{Bool, List, None, Option, Some, [], ap, arith, bytes_eq, codes, drop, false, inl, inr, length, min, option_map, refl, replicate, rules, subst, sum_by, sym, take, true, ℕ, ◌++◌, ◌+◌, ◌-◌, ◌<◌, ◌==◌, ◌^◌, ◌∙◌, ◌≡◌, ◌≢◌, ◌≤◌}
pub use Rattle.std.proofs.Math.Seq.{take-add}
pub use Rattle.std.proofs.lemmas.Bool.{false≢true}
pub use Rattle.std.proofs.lemmas.List.{take_all}
pub use Rattle.std.proofs.lemmas.Option.{none-some, same_Some}
pub use Rattle.std.proofs.lemmas.Result.{IfOk-weaker}
pub use Rattle.std.specs.Io.KnownBytes.{Appends, Consumes}
pub use Rattle.std.specs.List.{flat_map, list_all}
