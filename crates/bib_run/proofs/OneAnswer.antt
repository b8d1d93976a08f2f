-- What each command answers is determined by the bytes of its sources.
use Rattle.bib_run.proofs.Words.{◌≡◌, ◌≢◌, ◌≤◌, ℕ, Bool, true, false, List, [], length, bytes_eq, codes, Option, Some, None, option_map, replicate, inl, inr, refl, sym, ◌∙◌, ap, subst, arith, list_all, false≢true, none-some, same_Some, file_limit, Text, Reading, IsOpenable, IsReadFault}
use Rattle.bib_run.proofs.Words.{no_reading, IsOpenFault, KeptSteps, AddMany, Request, Additions, AreAdditions, SessionFault, Saved, Saves, SessionState, idle, Opens, IsOpened, HasTurned, one-opening, opened_is_sound, open_fault, Command, Answer, refusal_line, answer_of, IsCatAnswer, AnswersFile}
use Rattle.bib_run.proofs.Words.{said_of, position_of, IsLintAnswer, error_line, IsUnopened, IsUnopenedAnswer, IsUnfit, OpensWith, judged_journal, bad_journal_line, fault_line, outcome_after, AnswersSession, AnswersInput, HasEdited, HasEditedBy, HasEditedByWords}
use Rattle.bib_run.proofs.Words.{edited_answer, stop_line, fault_message, HasAdded, HasImported, IsTurnAnswer, IsLogAnswer, IsForgetAnswer, first_word, key_words, shown}
use Rattle.std.proofs.Common.{ap₂, ◌∷◌, ◌<◌, if◌then◌else◌, IsSomeAnd}
use Rattle.bib_spec.proofs.Names.{eq-true}
use Rattle.bib_spec.specs.Bytes.{name_limit}
use Rattle.bib_spec.specs.Reading.{Reads, HasReading, bytes_of}
use Rattle.bib_spec.specs.Texts.{months, macros_at}
use Rattle.bib_spec.specs.Fault.{ReadingFault, fault_number, too_long, no_memory}
use Rattle.bib_spec.specs.Fault as reading
use Rattle.bib_scan.proofs.OneReading.{one_reading}
use Rattle.bib_data.specs.declared.edit.NewEntry.{NewEntry}
use Rattle.bib_data.specs.declared.request.Request.TheVariants as request
use Rattle.bib_names.specs.Template.{Pattern}
use Rattle.bib_names.proofs.TemplateLaws as templates
use Rattle.journal_format.proofs.JournalLaws as journals
use Rattle.ris_text.specs.declared.records.RisFile.{RisFile}
use Rattle.ris_text.specs.Lines.{Line as RisTextLine, lines_of}
use Rattle.ris_text.specs.Reading.{Reads as RisReads}
use Rattle.ris_text.proofs.MeaningLaws as meanings
use Rattle.ris_text.proofs.SkipLemmas as skipping
use Rattle.bib_ris.specs.declared.fault.ImportFault.{ImportFault}
use Rattle.bib_ris.specs.declared.fault.ImportFault.TheVariants.{Unread, UnbalancedText, SkippedLine, Memory}
use Rattle.bib_ris.specs.Import.{RefusesImport, HasUnbalanced, records_of, imported}
use Rattle.ris_format.specs.Entry.{are_balanced}
use Rattle.bib_journal.specs.OneResult.{IsGood}
use Rattle.bib_journal.specs.Session.{started}
use Rattle.bib_journal.proofs.Moves.{none_open}
use Rattle.bib_journal.proofs.OpenFaults.{SamePlace, not_read, one_read_fault, one_open_fault}
use Rattle.bib_journal.proofs.SeveralRuns.{does_keeps_good}
use Rattle.bib_data.specs.declared.position.Position.{Position}
use Rattle.bib_run.specs.InsertAnswer.{IsGain, HasPutIn, AreNews, HasPutNews, HasInserted, defined_there, inserted_answer, uninserted_line}
use Rattle.bib_paste.specs.News.{news_of}
use Rattle.bib_edit.specs.declared.fault.EditFault.TheVariants.{NameInUse}
use Rattle.bib_journal.specs.Session.{RefusesInsertion, RefusesPlan}
use Rattle.bib_journal.specs.declared.fault.SessionFault.TheVariants.{Refused}
use Rattle.bib_journal.proofs.OneResult.{one-result, one_saved, one_does, one_refusal, one_place, not_both}
use Rattle.aux_text.specs.declared.placing.AuxKeys.{AuxKeys}
use Rattle.bib_answers.specs.Names.{Spells, IsNamesAnswer, names_answer}
use Rattle.bib_answers.specs.Lint.{lint_answer, fault_lines}
use Rattle.bib_faults.specs.GoingOn.{Fault}
use Rattle.bib_faults.proofs.GoingOnLaws.{one-list-of-faults}
use Rattle.bibtex_answers.specs.Opened.{AnswersAsBibtex, IsFaultAsBibtex, if_plain}
use Rattle.bibtex_answers.specs.Show as bibtex_show
use Rattle.bibtex_answers.specs.Cite as bibtex_cite
use Rattle.bibtex_answers.specs.Records as bibtex_records
use Rattle.bibtex_answers.specs.Names as bibtex_names
use Rattle.bibtex_answers.specs.Labels as bibtex_labels
use Rattle.bibtex_ris.specs.Ris as bibtex_texts
use Rattle.bibtex_answers.specs.StyleMacros.{with_style, place_in_file}
use Rattle.bib_run.specs.EditAnswer.{whole}
use Rattle.bib_run.specs.Shown.{kept_with}
use Rattle.bib_run.specs.ImportAnswer.{import_fault_line, import_told, added_answer}
use Rattle.bib_run.specs.Turns.{turned_line}
use Rattle.bib_run.specs.Log.{log_text, journal_left}
use Rattle.bib_words.specs.declared.verbs.Question.{Question}
use Rattle.bib_words.specs.declared.verbs.Question.TheVariants.{Check, Show, Entry, Cite, Labels, Json, NewKeys, Ris, Extract}
use Rattle.bib_words.specs.declared.verbs.Verb.{Verb}
use Rattle.bib_words.specs.declared.verbs.Verb.TheVariants.{Asks, Cat, Lint, Names, Explain, Edit, Import, Insert, Merge, Diff, Undo, Redo, Log, Forget}
use Rattle.bib_words.specs.Verbs.{verb_of}
use Rattle.bib_run.specs.Answers.{Answers, AnswersBibtex, AnswersNames, AnswersQuestion, IsEditsAnswer, IsWholeAnswer, question_answer, key_word, template_word}
use Rattle.bib_run.specs.OneAnswer.{one_answer}
use Rattle.bib_run.proofs.StoredRuns.{not_unopened, not_unfit, not_refused_with, opened-is}

-- at most one answer has the property
abbrev One : (Answer → Type 0) → Type 0
One P = (a b : Answer) → P a → P b → a ≡ b

-- ---- why a file is not opened

same_refusal : (kind place kind' place' : ℕ) → SamePlace kind place kind' place' → answer_of [] (refusal_line kind place) 1 ≡ answer_of [] (refusal_line kind' place') 1
same_refusal kind place kind' place' same = ap₂ (λ (k p : ℕ). answer_of [] (refusal_line k p) 1) same.0 same.1

-- ---- commands that read the file alone

one_cat : (file : Text) → One (IsCatAnswer file)
one_cat file a b (IsCatAnswer.copied within reads) (IsCatAnswer.copied within' reads') = refl
one_cat file a b (IsCatAnswer.copied within reads) (IsCatAnswer.refused kind place told fault) = absurd (not_read file kind place reads.0 told within reads.1 fault)
one_cat file a b (IsCatAnswer.refused kind place told fault) (IsCatAnswer.copied within reads) = absurd (not_read file kind place reads.0 told within reads.1 fault)
one_cat file a b (IsCatAnswer.refused kind place told fault) (IsCatAnswer.refused kind' place' told' fault') =
    same_refusal kind place kind' place' (one_read_fault file kind place kind' place' told told' fault fault')

one_of_file : (answers : Reading → Answer) (file : Text) → One (AnswersFile answers file)
one_of_file answers file a b (AnswersFile.opened db opens is) (AnswersFile.opened db' opens' is') = is ∙ ap answers (one_reading name_limit file db db' opens.reads opens'.reads) ∙ sym is'
one_of_file answers file a b (AnswersFile.opened db opens is) (AnswersFile.refused kind place told fault is') = absurd (told (open_fault file kind place (db, opens) fault))
one_of_file answers file a b (AnswersFile.refused kind place told fault is) (AnswersFile.opened db opens is') = absurd (told (open_fault file kind place (db, opens) fault))
one_of_file answers file a b (AnswersFile.refused kind place told fault is) (AnswersFile.refused kind' place' told' fault' is') =
    is ∙ same_refusal kind place kind' place' (one_open_fault file kind place kind' place' told told' fault fault') ∙ sym is'

-- ---- commands that read the file as BibTeX does

same_place : (kind place kind' place' : ℕ) → SamePlace kind place kind' place' → SamePlace kind (place_in_file place) kind' (place_in_file place')
same_place kind place kind' place' same = (same.0, ap place_in_file same.1)

one_fault_as_bibtex : (file : Text) (kind place kind' place' : ℕ) → kind ≢ 10 → kind' ≢ 10 → IsFaultAsBibtex file kind place → IsFaultAsBibtex file kind' place' → SamePlace kind place kind' place'
one_fault_as_bibtex file kind place kind' place' told told' (IsFaultAsBibtex.own _ _ fault) (IsFaultAsBibtex.own _ _ fault') = one_open_fault file kind place kind' place' told told' fault fault'
one_fault_as_bibtex file kind place kind' place' told told' (IsFaultAsBibtex.own _ _ fault) (IsFaultAsBibtex.with_macros _ at' opens' fault') = absurd (told (open_fault file kind place opens' fault))
one_fault_as_bibtex file kind place kind' place' told told' (IsFaultAsBibtex.with_macros _ at opens fault) (IsFaultAsBibtex.own _ _ fault') = absurd (told' (open_fault file kind' place' opens fault'))
one_fault_as_bibtex file kind place kind' place' told told' (IsFaultAsBibtex.with_macros _ at opens fault) (IsFaultAsBibtex.with_macros _ at' opens' fault') =
    same_place kind at kind' at' (one_open_fault (with_style file) kind at kind' at' told told' fault fault')

one_as_bibtex : (answers : Reading → Answer) (file : Text) → One (AnswersAsBibtex answers file)
one_as_bibtex answers file a b (AnswersAsBibtex.opened db opens is) (AnswersAsBibtex.opened db' opens' is') =
    is ∙ ap (if_plain answers) (one_reading name_limit (with_style file) db db' opens.reads opens'.reads) ∙ sym is'
one_as_bibtex answers file a b (AnswersAsBibtex.opened db opens is) (AnswersAsBibtex.refused kind place other at told why past fault is') =
    absurd (past (open_fault (with_style file) other at (db, opens) fault))
one_as_bibtex answers file a b (AnswersAsBibtex.refused kind place other at told why past fault is) (AnswersAsBibtex.opened db opens is') =
    absurd (past (open_fault (with_style file) other at (db, opens) fault))
one_as_bibtex answers file a b (AnswersAsBibtex.refused kind place other at told why past fault is) (AnswersAsBibtex.refused kind' place' other' at' told' why' past' fault' is') =
    is ∙ same_refusal kind place kind' place' (one_fault_as_bibtex file kind place kind' place' told told' why why') ∙ sym is'

one_bibtex : (question : Question) (command : Command) (file : Text) → One (AnswersBibtex question command file)
one_bibtex Show command file = one_as_bibtex (bibtex_show.show_answer (key_word command)) file
one_bibtex Cite command file = one_as_bibtex (bibtex_cite.cite_answer command.strict (key_words command) command.n) file
one_bibtex Json command file = one_as_bibtex (bibtex_records.json_answer (key_words command)) file
one_bibtex Ris command file = one_as_bibtex (bibtex_texts.ris_answer command.dropped command.plain (key_words command)) file
one_bibtex Check command file = λ a b none also. absurd none
one_bibtex Entry command file = λ a b none also. absurd none
one_bibtex Labels command file = one_as_bibtex (bibtex_labels.labels_answer (key_words command)) file
one_bibtex NewKeys command file = λ a b none also. absurd none
one_bibtex Extract command file = λ a b none also. absurd none

one_question : (question : Question) (command : Command) (file : Text) → One (AnswersQuestion question command file)
one_question question command file a b (AnswersQuestion.as_ever off is) (AnswersQuestion.as_ever off' is') = one_of_file (question_answer question command) file a b is is'
one_question question command file a b (AnswersQuestion.as_ever off is) (AnswersQuestion.as_bibtex on is') = absurd (false≢true (sym off ∙ on))
one_question question command file a b (AnswersQuestion.as_bibtex on is) (AnswersQuestion.as_ever off is') = absurd (false≢true (sym off ∙ on))
one_question question command file a b (AnswersQuestion.as_bibtex on is) (AnswersQuestion.as_bibtex on' is') = one_bibtex question command file a b is is'

-- ---- commands that report on the file, or on the names of one entry

-- the faults of reading have the numbers up to 7
reading_is_low : (fault : ReadingFault) → 7 < fault_number fault → ⊥
reading_is_low reading.Unended past = omega (arith, past)
reading_is_low reading.ExpectedName past = omega (arith, past)
reading_is_low reading.ExpectedEquals past = omega (arith, past)
reading_is_low reading.ExpectedCommaOrClose past = omega (arith, past)
reading_is_low reading.ExpectedValue past = omega (arith, past)
reading_is_low reading.UnbalancedBrace past = omega (arith, past)
reading_is_low reading.KeyTooLong past = omega (arith, past)

-- a file with a fault past those of reading is too long or has a reading
past_is_read : (file : Text) (kind place : ℕ) → kind ≢ 10 → 7 < kind → length file ≤ file_limit → (HasReading file → ⊥) → IsOpenFault file kind place → ⊥
past_is_read file kind place told past short unread (inl fault) = of_read kind place fault told past
  where
    of_read : (k p : ℕ) → IsReadFault file k p → k ≢ 10 → 7 < k → ⊥
    of_read k p (too_long over) told past = omega (arith, over, short)
    of_read k p (no_reading fault at within failing wrong) told past = reading_is_low fault past
    of_read k p (no_memory within) told past = told refl
past_is_read file kind place told past short unread (inr text) = unread (text.db, text.reads)

one_lint : (ignored : List Text) (cited : List AuxKeys) (name file : Text) → One (IsLintAnswer ignored cited name file)
one_lint ignored cited name file a b (IsLintAnswer.opened db opens is) (IsLintAnswer.opened db' opens' is') =
    is ∙ ap (lint_answer ignored cited name file) (one_reading name_limit file db db' opens.reads opens'.reads) ∙ sym is'
one_lint ignored cited name file a b (IsLintAnswer.opened db opens is) (IsLintAnswer.faulty short unread faults are is') = absurd (unread (db, opens.reads))
one_lint ignored cited name file a b (IsLintAnswer.opened db opens is) (IsLintAnswer.refused kind place told past fault is') = absurd (told (open_fault file kind place (db, opens) fault))
one_lint ignored cited name file a b (IsLintAnswer.faulty short unread faults are is) (IsLintAnswer.opened db opens is') = absurd (unread (db, opens.reads))
one_lint ignored cited name file a b (IsLintAnswer.faulty short unread faults are is) (IsLintAnswer.faulty short' unread' faults' are' is') =
    is ∙ ap (λ (fs : List Fault). answer_of (fault_lines name file fs) [] 1) (one-list-of-faults file faults faults' are are') ∙ sym is'
one_lint ignored cited name file a b (IsLintAnswer.faulty short unread faults are is) (IsLintAnswer.refused kind place told past fault is') = absurd (past_is_read file kind place told past short unread fault)
one_lint ignored cited name file a b (IsLintAnswer.refused kind place told past fault is) (IsLintAnswer.opened db opens is') = absurd (told (open_fault file kind place (db, opens) fault))
one_lint ignored cited name file a b (IsLintAnswer.refused kind place told past fault is) (IsLintAnswer.faulty short unread faults are is') = absurd (past_is_read file kind place told past short unread fault)
one_lint ignored cited name file a b (IsLintAnswer.refused kind place told past fault is) (IsLintAnswer.refused kind' place' told' past' fault' is') =
    let same = one_open_fault file kind place kind' place' told told' fault fault' in
    is ∙ ap₂ (λ (k p : ℕ). answer_of (error_line name (position_of file p) k) [] 1) same.0 same.1 ∙ sym is'

one_pattern : (bytes : Text) (p q : Option Pattern) → Spells bytes p → Spells bytes q → p ≡ q
one_pattern bytes p q (Spells.spelled s is e) (Spells.spelled t is' e') = ap Some (templates.one_template s t is is' (sym e ∙ e'))
one_pattern bytes p q (Spells.spelled s is e) (Spells.misspelled none) = absurd (none s is e)
one_pattern bytes p q (Spells.misspelled none) (Spells.spelled t is e) = absurd (none t is e)
one_pattern bytes p q (Spells.misspelled none) (Spells.misspelled none') = refl

one_names : (depth : ℕ) (key template file : Text) → One (IsNamesAnswer depth key template file)
one_names depth key template file a b x y =
    one_of_file (names_answer depth key y.pattern) file a b
    (subst (λ (o : Option Pattern). AnswersFile (names_answer depth key o) file a) (one_pattern template x.pattern y.pattern x.spells y.spells) x.answers) y.answers

one_printed : (command : Command) (file : Text) → One (AnswersNames command file)
one_printed command file a b (AnswersNames.names_as_ever off is) (AnswersNames.names_as_ever off' is') = one_names command.depth (key_word command) (template_word command) file a b is is'
one_printed command file a b (AnswersNames.names_as_ever off is) (AnswersNames.names_as_bibtex on is') = absurd (false≢true (sym off ∙ on))
one_printed command file a b (AnswersNames.names_as_bibtex on is) (AnswersNames.names_as_ever off is') = absurd (false≢true (sym off ∙ on))
one_printed command file a b (AnswersNames.names_as_bibtex on is) (AnswersNames.names_as_bibtex on' is') =
    one_as_bibtex (bibtex_names.names_answer (key_word command) (template_word command)) file a b is is'

-- ---- sessions

one_message : (file : Text) (journal : Option Text) (m n : Text) → IsUnopened file journal m → IsUnopened file journal n → m ≡ n
one_message file journal m n (IsUnopened.file _ kind place told fault) (IsUnopened.file _ kind' place' told' fault') =
    let same = one_open_fault file kind place kind' place' told told' fault fault' in
    ap₂ refusal_line same.0 same.1
one_message file journal m n (IsUnopened.file _ kind place told fault) (IsUnopened.journal text place' opens none) = absurd (told (open_fault file kind place opens fault))
one_message file journal m n (IsUnopened.file _ kind place told fault) (IsUnopened.mismatch text is) = absurd (told (open_fault file kind place is.opens fault))
one_message file journal m n (IsUnopened.journal text place opens none) (IsUnopened.file _ kind place' told fault) = absurd (told (open_fault file kind place' opens fault))
one_message file journal m n (IsUnopened.journal text place opens none) (IsUnopened.journal _ place' opens' none') = ap bad_journal_line (journals.one-place text place place' none.wrong none'.wrong)
one_message file journal m n (IsUnopened.journal text place opens none) (IsUnopened.mismatch _ is) = absurd (none.none is.contents is.journal)
one_message file journal m n (IsUnopened.mismatch text is) (IsUnopened.file _ kind place told fault) = absurd (told (open_fault file kind place is.opens fault))
one_message file journal m n (IsUnopened.mismatch text is) (IsUnopened.journal _ place opens none) = absurd (none.none is.contents is.journal)
one_message file journal m n (IsUnopened.mismatch text is) (IsUnopened.mismatch _ is') = refl

one_unopened : (file : Text) (journal : Option Text) → One (IsUnopenedAnswer file journal)
one_unopened file journal a b x y = x.answered ∙ ap (λ (m : Text). answer_of [] m 1) (one_message file journal x.message y.message x.why y.why) ∙ sym y.answered

-- a session that was opened is good
good_opened : (file : Text) (journal : Option Text) (s : SessionState) → IsOpened file journal s → IsGood s
good_opened file journal s is = (opened_is_sound file journal s.steps is.opens, none_open s.steps s.current is.closed)

one_opened : (file : Text) (journal : Option Text) (s t : SessionState) → IsOpened file journal s → IsOpened file journal t → s ≡ t
one_opened file journal s t is also = opened-is file journal t.steps s also.opens is ∙ sym (opened-is file journal t.steps t also.opens also)

good_with : (new_journal : Bool) (file : Text) (journal : Option Text) (s : SessionState) → OpensWith new_journal file journal s → IsGood s
good_with new_journal file journal s (OpensWith.fitting is) = good_opened file journal s is
good_with new_journal file journal s (OpensWith.begun text asked is_text unfit is) = good_opened file None s is

-- a journal that fits is not unfit
not_both_ways : (file text : Text) (journal : Option Text) (s : SessionState) → IsOpened file journal s → journal ≡ Some text → IsUnfit file text → ⊥
not_both_ways file text journal s is is_text unfit = not_unfit file text s.steps (subst (λ (j : Option Text). Opens file j s.steps) is_text is.opens) unfit

one_opened_with : (new_journal : Bool) (file : Text) (journal : Option Text) (s t : SessionState) → OpensWith new_journal file journal s → OpensWith new_journal file journal t → s ≡ t
one_opened_with new_journal file journal s t (OpensWith.fitting is) (OpensWith.fitting also) = one_opened file journal s t is also
one_opened_with new_journal file journal s t (OpensWith.fitting is) (OpensWith.begun text asked is_text unfit also) = absurd (not_both_ways file text journal s is is_text unfit)
one_opened_with new_journal file journal s t (OpensWith.begun text asked is_text unfit is) (OpensWith.fitting also) = absurd (not_both_ways file text journal t also is_text unfit)
one_opened_with new_journal file journal s t (OpensWith.begun text asked is_text unfit is) (OpensWith.begun text' asked' is_text' unfit' also) = one_opened file None s t is also

one_session : (new_journal : Bool) (answers : SessionState → Answer → Type 0) (file : Text) (journal : Option Text) → ((s : SessionState) → IsGood s → One (answers s))
    → One (AnswersSession new_journal answers file journal)
one_session new_journal answers file journal one a b (AnswersSession.answered s with has) (AnswersSession.answered t with' has') =
    one t (good_with new_journal file journal t with') a b
    (subst (λ (s : SessionState). answers s a) (one_opened_with new_journal file journal s t with with') has) has'
one_session new_journal answers file journal one a b (AnswersSession.answered s with has) (AnswersSession.unopened u) =
    absurd (not_refused_with new_journal file journal s u.message with u.why)
one_session new_journal answers file journal one a b (AnswersSession.unopened u) (AnswersSession.answered t with has) =
    absurd (not_refused_with new_journal file journal t u.message with u.why)
one_session new_journal answers file journal one a b (AnswersSession.unopened u) (AnswersSession.unopened v) = one_unopened file (judged_journal new_journal journal) a b u v

one_input : (answers : Text → SessionState → Answer → Type 0) (input : Text) (s : SessionState) → One (answers input s) → One (AnswersInput answers input s)
one_input answers input s one a b (AnswersInput.within short has) (AnswersInput.within short' has') = one a b has has'
one_input answers input s one a b (AnswersInput.within short has) (AnswersInput.too_long far e) = absurd (omega (arith, short, far))
one_input answers input s one a b (AnswersInput.too_long far e) (AnswersInput.within short has) = absurd (omega (arith, short, far))
one_input answers input s one a b (AnswersInput.too_long far e) (AnswersInput.too_long far' e') = e ∙ sym e'

-- ---- what the commands of sessions answer

saved_same : (s t : SessionState) (a b : Saved) → s ≡ t → Saves s.steps a → Saves t.steps b → a ≡ b
saved_same s t a b same x y = one_saved t.steps a b (subst (λ (s : SessionState). Saves s.steps a) same x) y

one_edited : (requests : List Request) (message : ℕ → Option SessionFault → Option Text) (s : SessionState) → IsGood s → One (HasEdited requests message s)
one_edited requests message s good a b x y =
    let r = one-result requests x.done y.done x.fault y.fault s x.closed y.closed good x.told y.told x.performs y.performs in
    x.answered
    ∙ ap (λ (n : ℕ). edited_answer requests n (message n x.fault) x.saved) r.0
    ∙ ap (λ (f : Option SessionFault). edited_answer requests y.done (message y.done f) x.saved) r.1
    ∙ ap (λ (v : Saved). edited_answer requests y.done (message y.done y.fault) v) (saved_same x.closed y.closed x.saved y.saved r.2 x.saves y.saves)
    ∙ sym y.answered

one_words : (words : List Text) (s : SessionState) → IsGood s → One (HasEditedByWords words s)
one_words words s good a b (HasEditedByWords.said requests said has) (HasEditedByWords.said requests' said' has') =
    let same : requests ≡ requests' = same_Some requests requests' (sym said ∙ said') in
    one_edited requests' fault_message s good a b (subst (λ (rs : List Request). HasEdited rs fault_message s a) same has) has'
one_words words s good a b (HasEditedByWords.said requests said has) (HasEditedByWords.bad none e) = absurd (none-some requests (sym none ∙ said))
one_words words s good a b (HasEditedByWords.bad none e) (HasEditedByWords.said requests said has) = absurd (none-some requests (sym none ∙ said))
one_words words s good a b (HasEditedByWords.bad none e) (HasEditedByWords.bad none' e') = e ∙ sym e'

abbrev of_turn : Text → ℕ → Option SessionFault → Saved → Answer
of_turn word done fault saved = record { output = turned_line word done; outcome = outcome_after done (option_map fault_line fault) saved }

one_turned : (word : Text) (request : Request) (n : ℕ) (file : Text) (journal : Option Text) → One (IsTurnAnswer word request n file journal)
one_turned word request n file journal a b (IsTurnAnswer.turned t turns is) (IsTurnAnswer.turned u turns' is') =
    let x : HasTurned request n (idle turns'.opened) t =
    subst (λ (k : KeptSteps). HasTurned request n (idle k) t) (one-opening file journal turns.opened turns'.opened turns.opens turns'.opens) turns.has_turned in
    let y = turns'.has_turned in
    let r = one-result (replicate n request) t.performed.done u.performed.done t.performed.fault u.performed.fault (idle turns'.opened) x.closed y.closed
    (opened_is_sound file journal turns'.opened turns'.opens, tt) x.told y.told x.performs y.performs in
    is
    ∙ ap (λ (n : ℕ). of_turn word n t.performed.fault t.saved) r.0
    ∙ ap (λ (f : Option SessionFault). of_turn word u.performed.done f t.saved) r.1
    ∙ ap (λ (v : Saved). of_turn word u.performed.done u.performed.fault v) (saved_same x.closed y.closed t.saved u.saved r.2 x.saves y.saves)
    ∙ sym is'
one_turned word request n file journal a b (IsTurnAnswer.turned t turns is) (IsTurnAnswer.unopened u) = absurd (not_unopened file journal turns.opened u.message turns.opens u.why)
one_turned word request n file journal a b (IsTurnAnswer.unopened u) (IsTurnAnswer.turned t turns is) = absurd (not_unopened file journal turns.opened u.message turns.opens u.why)
one_turned word request n file journal a b (IsTurnAnswer.unopened u) (IsTurnAnswer.unopened v) = one_unopened file journal a b u v

one_log : (file : Text) (journal : Option Text) → One (IsLogAnswer file journal)
one_log file journal a b (IsLogAnswer.listed kept opens is) (IsLogAnswer.listed kept' opens' is') =
    is ∙ ap (λ (k : KeptSteps). answer_of (log_text k) [] 0) (one-opening file journal kept kept' opens opens') ∙ sym is'
one_log file journal a b (IsLogAnswer.listed kept opens is) (IsLogAnswer.unopened u) = absurd (not_unopened file journal kept u.message opens u.why)
one_log file journal a b (IsLogAnswer.unopened u) (IsLogAnswer.listed kept opens is) = absurd (not_unopened file journal kept u.message opens u.why)
one_log file journal a b (IsLogAnswer.unopened u) (IsLogAnswer.unopened v) = one_unopened file journal a b u v

one_forget : (file : Text) → One (IsForgetAnswer file)
one_forget file a b (IsForgetAnswer.forgot saved opens saves is) (IsForgetAnswer.forgot saved' opens' saves' is') =
    is ∙ ap (λ (v : Saved). record { output = []; outcome = journal_left v.journal }) (one_saved (started file) saved saved' saves saves') ∙ sym is'
one_forget file a b (IsForgetAnswer.forgot saved opens saves is) (IsForgetAnswer.unforgotten u) = absurd (not_unopened file None (started file) u.message (opens, refl) u.why)
one_forget file a b (IsForgetAnswer.unforgotten u) (IsForgetAnswer.forgot saved opens saves is) = absurd (not_unopened file None (started file) u.message (opens, refl) u.why)
one_forget file a b (IsForgetAnswer.unforgotten u) (IsForgetAnswer.unforgotten v) = one_unopened file None a b u v

-- ---- what an import answers

one_additions : (latex strict : Bool) (file text : Text) (a b : Additions) → IsOpenable file → AreAdditions latex strict file text a → AreAdditions latex strict file text b → a ≡ b
one_additions latex strict file text a b opens x y =
    let said : x.said ≡ y.said = meanings.says_one (lines_of text) x.said y.said x.reads y.reads in
    ap (λ (es : List NewEntry). record { entries = es; skipped = a.skipped })
    (x.entries opens.0 opens.1.reads ∙ ap (λ (s : RisFile). imported opens.0 (records_of latex s.records)) said ∙ sym (y.entries opens.0 opens.1.reads))
    ∙ ap (λ (n : ℕ). record { entries = b.entries; skipped = n }) (x.skipped ∙ ap (λ (s : RisFile). s.skipped) said ∙ sym y.skipped)

-- a text that says records with balanced texts has no unbalanced text
not_unbalanced : (latex : Bool) (text : Text) (said : RisFile) → RisReads text said → list_all are_balanced (records_of latex said.records) ≡ true → HasUnbalanced latex text → ⊥
not_unbalanced latex text said reads balanced why =
    false≢true (sym why.unbalanced ∙ ap (λ (s : RisFile). list_all are_balanced (records_of latex s.records)) (meanings.says_one (lines_of text) why.said said why.reads reads) ∙ balanced)

-- a text that adds entries gives some
not_refused : (latex strict : Bool) (file text : Text) (a : Additions) (fault : ImportFault) → fault ≢ Memory → AreAdditions latex strict file text a → RefusesImport latex strict fault text → ⊥
not_refused latex strict file text a Memory told adds why = told refl
not_refused latex strict file text a (Unread fault) told adds why = meanings.wrong_says_nothing (length text) (lines_of text) adds.said fault adds.reads why.1
not_refused latex strict file text a UnbalancedText told adds why = not_unbalanced latex text adds.said adds.reads adds.balanced why
not_refused latex strict file text a (SkippedLine place) told adds why =
    let count : length (why.1.first ∷ why.1.others) ≡ adds.said.skipped = skipping.skipped_are_counted text adds.said (why.1.first ∷ why.1.others) adds.reads why.1.skipped in
    absurd (omega (arith, count, adds.skipped, adds.whole why.0))

-- the place of the first of these lines
abbrev first_place : List RisTextLine → ℕ
first_place [] = 0
first_place (line ∷ lines) = line.place

one_import_fault : (latex strict : Bool) (text : Text) (f g : ImportFault) → f ≢ Memory → g ≢ Memory → RefusesImport latex strict f text → RefusesImport latex strict g text → f ≡ g
one_import_fault latex strict text (Unread f) (Unread g) told told' why why' = ap Unread (meanings.one_fault (length text) (lines_of text) f g why.1 why'.1)
one_import_fault latex strict text (Unread f) UnbalancedText told told' why why' = absurd (meanings.wrong_says_nothing (length text) (lines_of text) why'.said f why'.reads why.1)
one_import_fault latex strict text (Unread f) (SkippedLine q) told told' why why' = absurd (meanings.wrong_says_nothing (length text) (lines_of text) why'.1.said f why'.1.reads why.1)
one_import_fault latex strict text (Unread f) Memory told told' why why' = absurd (told' refl)
one_import_fault latex strict text UnbalancedText (Unread g) told told' why why' = absurd (meanings.wrong_says_nothing (length text) (lines_of text) why.said g why.reads why'.1)
one_import_fault latex strict text UnbalancedText UnbalancedText told told' why why' = refl
one_import_fault latex strict text UnbalancedText (SkippedLine q) told told' why why' = absurd (not_unbalanced latex text why'.1.said why'.1.reads why'.1.balanced why)
one_import_fault latex strict text UnbalancedText Memory told told' why why' = absurd (told' refl)
one_import_fault latex strict text (SkippedLine p) (Unread g) told told' why why' = absurd (meanings.wrong_says_nothing (length text) (lines_of text) why.1.said g why.1.reads why'.1)
one_import_fault latex strict text (SkippedLine p) UnbalancedText told told' why why' = absurd (not_unbalanced latex text why.1.said why.1.reads why.1.balanced why')
one_import_fault latex strict text (SkippedLine p) (SkippedLine q) told told' why why' =
    ap SkippedLine (sym why.1.begins ∙ ap first_place (skipping.skips_one text (why.1.first ∷ why.1.others) (why'.1.first ∷ why'.1.others) why.1.skipped why'.1.skipped) ∙ why'.1.begins)
one_import_fault latex strict text (SkippedLine p) Memory told told' why why' = absurd (told' refl)
one_import_fault latex strict text Memory g told told' why why' = absurd (told refl)

one_added : (a : Additions) (told : Text) (s : SessionState) → IsGood s → One (HasAdded a told s)
one_added a told s good x y (HasAdded.added closed saved makes saves is) (HasAdded.added closed' saved' makes' saves' is') =
    let same : closed ≡ closed' = one_does (request.Edit (AddMany a.entries)) s closed closed' good.0.present makes makes' in
    is ∙ ap (added_answer told) (saved_same closed closed' saved saved' same saves saves') ∙ sym is'
one_added a told s good x y (HasAdded.added closed saved makes saves is) (HasAdded.refused fault known refuses is') =
    absurd (not_both (request.Edit (AddMany a.entries)) fault s closed good.0.present known refuses makes)
one_added a told s good x y (HasAdded.refused fault known refuses is) (HasAdded.added closed saved makes saves is') =
    absurd (not_both (request.Edit (AddMany a.entries)) fault s closed good.0.present known refuses makes)
one_added a told s good x y (HasAdded.refused fault known refuses is) (HasAdded.refused fault' known' refuses' is') =
    is ∙ ap (λ (f : SessionFault). answer_of [] (fault_line f) 1) (one_refusal (request.Edit (AddMany a.entries)) fault fault' s good.0.present known known' refuses refuses') ∙ sym is'

one_imported : (command : Command) (text : Text) (s : SessionState) → IsGood s → One (HasImported command text s)
one_imported command text s good x y (HasImported.read a adds lines skips has) (HasImported.read b adds' lines' skips' has') =
    let same : a ≡ b = one_additions command.latex command.strict s.steps.present text a b good.0.present adds adds' in
    let told : import_told command.skipped a text lines ≡ import_told command.skipped b text lines' =
    ap (λ (c : Additions). import_told command.skipped c text lines) same
    ∙ ap (import_told command.skipped b text) (skipping.skips_one text lines lines' skips skips') in
    one_added b (import_told command.skipped b text lines') s good x y
    (subst (λ (t : Text). HasAdded b t s x) told (subst (λ (c : Additions). HasAdded c (import_told command.skipped a text lines) s x) same has)) has'
one_imported command text s good x y (HasImported.read a adds lines skips has) (HasImported.unread fault told refuses is) =
    absurd (not_refused command.latex command.strict s.steps.present text a fault told adds refuses)
one_imported command text s good x y (HasImported.unread fault told refuses is) (HasImported.read a adds lines skips has) =
    absurd (not_refused command.latex command.strict s.steps.present text a fault told adds refuses)
one_imported command text s good x y (HasImported.unread fault told refuses is) (HasImported.unread fault' told' refuses' is') =
    is ∙ ap (λ (f : ImportFault). answer_of [] (import_fault_line f) 1) (one_import_fault command.latex command.strict text fault fault' told told' refuses refuses') ∙ sym is'

-- ---- what an insertion answers

one_gain : (old new new' : Text) (added added' : ℕ) → IsOpenable old → IsOpenable new → new ≡ new' → IsGain added old new → IsGain added' old new' → added ≡ added'
one_gain old new new' added added' opens opens' same gain gain' =
    let db' = subst (λ (t : Text). Reads t opens'.0) same opens'.1.reads in
    gain opens.0 opens.1.reads opens'.0 opens'.1.reads ∙ sym (gain' opens.0 opens.1.reads opens'.0 db')

one_put : (at : Position) (text : Text) (s : SessionState) (x y : Answer) (f g : Option SessionFault) → IsGood s → HasPutIn at text s x f → HasPutIn at text s y g → (x ≡ y) × (f ≡ g)
one_put at text s x y f g good (HasPutIn.inserted closed saved added makes saves gain is) (HasPutIn.inserted closed' saved' added' makes' saves' gain' is') =
    let same : closed ≡ closed' = one_does (request.Insert at text) s closed closed' good.0.present makes makes' in
    let after : IsGood closed = does_keeps_good (request.Insert at text) s closed good makes in
    let count : added ≡ added' = one_gain s.steps.present closed.steps.present closed'.steps.present added added' good.0.present after.0.present (ap (λ (t : SessionState). t.steps.present) same) gain gain' in
    (is ∙ ap (λ (n : ℕ). inserted_answer n saved) count ∙ ap (inserted_answer added') (saved_same closed closed' saved saved' same saves saves') ∙ sym is', refl)
one_put at text s x y f g good (HasPutIn.inserted closed saved added makes saves gain is) (HasPutIn.refused fault told refuses is') =
    absurd (not_both (request.Insert at text) fault s closed good.0.present told refuses makes)
one_put at text s x y f g good (HasPutIn.refused fault told refuses is) (HasPutIn.inserted closed saved added makes saves gain is') =
    absurd (not_both (request.Insert at text) fault s closed good.0.present told refuses makes)
one_put at text s x y f g good (HasPutIn.refused fault told refuses is) (HasPutIn.refused fault' told' refuses' is') =
    let same : fault ≡ fault' = one_refusal (request.Insert at text) fault fault' s good.0.present told told' refuses refuses' in
    (is ∙ ap (λ (f : SessionFault). answer_of [] (uninserted_line f) 1) same ∙ sym is', ap (λ (f : SessionFault). Some f) same)

-- a text that is refused since it defines a macro can be opened
opens-if-defined : (at : Position) (text : Text) (s : SessionState) (fault : SessionFault) → RefusesInsertion at text s fault → fault ≡ Refused NameInUse → IsOpenable text
opens-if-defined at text s fault (RefusesInsertion.during current) is = cc
opens-if-defined at text s fault (RefusesInsertion.unplanned other closed plan) is = (subst (λ (f : SessionFault). RefusesPlan f at s.steps.present text) is plan).opens
opens-if-defined at text s fault (RefusesInsertion.full closed lacks) is = cc
opens-if-defined at text s fault (RefusesInsertion.long closed makes) is = cc

opens-if-put : (at : Position) (text : Text) (s : SessionState) (x : Answer) (fault : Option SessionFault) → HasPutIn at text s x fault → fault ≡ defined_there → IsOpenable text
opens-if-put at text s x fault (HasPutIn.inserted closed saved added makes saves gain is) defined = cc
opens-if-put at text s x fault (HasPutIn.refused own told refuses is) defined = opens-if-defined at text s own refuses (same_Some own (Refused NameInUse) defined)

one_news : (at : Position) (file text news other : Text) → IsOpenable file → IsOpenable text → AreNews at file text news → AreNews at file text other → news ≡ other
one_news at file text news other opens opens' are are' =
    are.are opens.0 opens.1.reads opens'.0 opens'.1.reads
    ∙ ap (λ n. bytes_of (news_of (macros_at months opens.0.items n) opens'.0)) (one_place at file are.place are'.place opens are.is_place are'.is_place)
    ∙ sym (are'.are opens.0 opens.1.reads opens'.0 opens'.1.reads)

one_put_news : (at : Position) (text : Text) (s : SessionState) → IsGood s → One (HasPutNews at text s)
one_put_news at text s good x y (HasPutNews.whole fault other has) (HasPutNews.whole fault' other' has') = (one_put at text s x y fault fault' good has has').0
one_put_news at text s good x y (HasPutNews.whole fault other has) (HasPutNews.news told news fault' had are has') =
    absurd (other (one_put at text s x told fault defined_there good has had).1)
one_put_news at text s good x y (HasPutNews.news told news fault had are has) (HasPutNews.whole fault' other' has') =
    absurd (other' (one_put at text s y told fault' defined_there good has' had).1)
one_put_news at text s good x y (HasPutNews.news told news fault had are has) (HasPutNews.news told' news' fault' had' are' has') =
    let same : news ≡ news' = one_news at s.steps.present text news news' good.0.present (opens-if-put at text s told defined_there had refl) are are' in
    (one_put at news' s x y fault fault' good (subst (λ (t : Text). HasPutIn at t s x fault) same has) has').0

one_inserted : (words : List Text) (text : Text) (s : SessionState) → IsGood s → One (HasInserted words text s)
one_inserted words text s good x y (HasInserted.asked at says has) (HasInserted.asked at' says' has') =
    one_put_news at' text s good x y (subst (λ (p : Position). HasPutNews p text s x) (same_Some at at' (sym says ∙ says')) has) has'
one_inserted words text s good x y (HasInserted.asked at says has) (HasInserted.no_position none is) = absurd (none-some at (sym none ∙ says))
one_inserted words text s good x y (HasInserted.no_position none is) (HasInserted.asked at says has) = absurd (none-some at (sym none ∙ says))
one_inserted words text s good x y (HasInserted.no_position none is) (HasInserted.no_position none' is') = is ∙ sym is'

-- ---- all commands

one_edits : (command : Command) (file : Text) (journal : Option Text) (input : Text) → One (IsEditsAnswer command file journal input)
one_edits command file journal input a b (IsEditsAnswer.script alone is) (IsEditsAnswer.script alone' is') =
    one_session command.new_journal (AnswersInput HasEditedBy input) file journal
    (λ s good. one_input HasEditedBy input s (one_edited (said_of input).requests (stop_line (said_of input)) s good)) a b is is'
one_edits command file journal input a b (IsEditsAnswer.script alone is) (IsEditsAnswer.words more is') = absurd (more alone)
one_edits command file journal input a b (IsEditsAnswer.words more is) (IsEditsAnswer.script alone is') = absurd (more alone)
one_edits command file journal input a b (IsEditsAnswer.words more is) (IsEditsAnswer.words more' is') =
    one_session command.new_journal (HasEditedByWords (key_words command)) file journal (one_words (key_words command)) a b is is'

one_whole : (command : Command) (file : Text) (journal : Option Text) (input : Text) → One (IsWholeAnswer command file journal input)
one_whole command file journal input a b x y =
    x.whole ∙ ap (whole command.all_or_nothing) (one_edits command file journal input x.made y.made x.edits y.edits) ∙ sym y.whole

one_of_verb : (verb : Verb) (command : Command) (file : Text) (journal : Option Text) (input : Text) → verb ≢ Explain → verb ≢ Diff → One (Answers verb command file journal input)
one_of_verb (Asks question) command file journal input other undiffed = one_question question command file
one_of_verb Cat command file journal input other undiffed = one_cat file
one_of_verb Lint command file journal input other undiffed = one_lint (key_words command) command.cited (first_word command) file
one_of_verb Names command file journal input other undiffed = one_printed command file
one_of_verb Explain command file journal input other undiffed = absurd (other refl)
one_of_verb Edit command file journal input other undiffed = one_whole command file journal input
one_of_verb Import command file journal input other undiffed =
    one_session command.new_journal (AnswersInput (HasImported command) input) file journal (λ s good. one_input (HasImported command) input s (one_imported command input s good))
one_of_verb Insert command file journal input other undiffed =
    one_session command.new_journal (AnswersInput (HasInserted (key_words command)) input) file journal
    (λ s good. one_input (HasInserted (key_words command)) input s (one_inserted (key_words command) input s good))
one_of_verb Diff command file journal input other undiffed = absurd (undiffed refl)
one_of_verb Undo command file journal input other undiffed = one_turned (codes "undone") request.Undo command.n file journal
one_of_verb Redo command file journal input other undiffed = one_turned (codes "redone") request.Redo command.n file journal
one_of_verb Log command file journal input other undiffed = one_log file journal
one_of_verb Forget command file journal input other undiffed = one_forget file
one_of_verb Merge command file journal input other undiffed = λ a b is also. is ∙ sym also

one_of_some : (verb : Option Verb) (command : Command) (file : Text) (journal : Option Text) (input : Text) → verb ≢ Some Explain → verb ≢ Some Diff
    → One (λ answer. IsSomeAnd verb (λ v. Answers v command file journal input answer))
one_of_some None command file journal input other undiffed = λ a b is also. absurd is
one_of_some (Some verb) command file journal input other undiffed = one_of_verb verb command file journal input (λ e. other (ap Some e)) (λ e. undiffed (ap Some e))

-- ---- `explain` and `diff`

-- the last two commands of the list of all
abbrev is_last : Option Verb → Bool
is_last (Some Explain) = true
is_last (Some Diff) = true
is_last _ = false

-- if a name is that of one of the last, it is not the name of a command before
skip : (here : Bool) (verb : Verb) (rest : Option Verb) (last : Verb) → is_last (Some verb) ≡ false → is_last (Some last) ≡ true → (if here then Some verb else rest) ≡ Some last → rest ≡ Some last
skip true verb rest last other is_last_one is = absurd (false≢true (sym other ∙ ap is_last is ∙ is_last_one))
skip false verb rest last other is_last_one is = is

-- the last two by their names
abbrev of_last : Text → Option Verb
of_last name = if bytes_eq name (codes "diff") then Some Diff else if bytes_eq name (codes "explain") then Some Explain else None

among_last : (name : Text) (last : Verb) → is_last (Some last) ≡ true → verb_of name ≡ Some last → of_last name ≡ Some last
among_last name last one is =
    skip (bytes_eq name (codes "merge")) Merge _ last refl one
    (skip (bytes_eq name (codes "insert")) Insert _ last refl one
    (skip (bytes_eq name (codes "import")) Import _ last refl one
    (skip (bytes_eq name (codes "extract")) (Asks Extract) _ last refl one
    (skip (bytes_eq name (codes "ris")) (Asks Ris) _ last refl one
    (skip (bytes_eq name (codes "forget")) Forget _ last refl one
    (skip (bytes_eq name (codes "log")) Log _ last refl one
    (skip (bytes_eq name (codes "redo")) Redo _ last refl one
    (skip (bytes_eq name (codes "undo")) Undo _ last refl one
    (skip (bytes_eq name (codes "edit")) Edit _ last refl one
    (skip (bytes_eq name (codes "newkeys")) (Asks NewKeys) _ last refl one
    (skip (bytes_eq name (codes "names")) Names _ last refl one
    (skip (bytes_eq name (codes "json")) (Asks Json) _ last refl one
    (skip (bytes_eq name (codes "labels")) (Asks Labels) _ last refl one
    (skip (bytes_eq name (codes "cite")) (Asks Cite) _ last refl one
    (skip (bytes_eq name (codes "entry")) (Asks Entry) _ last refl one
    (skip (bytes_eq name (codes "show")) (Asks Show) _ last refl one
    (skip (bytes_eq name (codes "lint")) Lint _ last refl one
    (skip (bytes_eq name (codes "check")) (Asks Check) _ last refl one
    (skip (bytes_eq name (codes "cat")) Cat _ last refl one
    is)))))))))))))))))))

abbrev is_explain : Option Verb → Bool
is_explain (Some Explain) = true
is_explain _ = false

of_diff : (here there : Bool) → (if here then Some Diff else if there then Some Explain else None) ≡ Some Diff → here ≡ true
of_diff true there is = refl
of_diff false true is = absurd (false≢true (sym (ap is_explain is)))
of_diff false false is = absurd (none-some Diff is)

of_explain : (here there : Bool) → (if here then Some Diff else if there then Some Explain else None) ≡ Some Explain → there ≡ true
of_explain true there is = absurd (false≢true (ap is_explain is))
of_explain false true is = refl
of_explain false false is = absurd (none-some Explain is)

-- only their own names name these commands
diff_named : (name : Text) → verb_of name ≡ Some Diff → name ≡ codes "diff"
diff_named name is = eq-true name (codes "diff") (of_diff (bytes_eq name (codes "diff")) (bytes_eq name (codes "explain")) (among_last name Diff refl is))

explain_named : (name : Text) → verb_of name ≡ Some Explain → name ≡ codes "explain"
explain_named name is = eq-true name (codes "explain") (of_explain (bytes_eq name (codes "diff")) (bytes_eq name (codes "explain")) (among_last name Explain refl is))

pub one-answer : one_answer
one-answer command file journal input a b other undiffed is also =
    is.shown
    ∙ ap (λ (s : Answer). shown command.print (kept_with command.no_journal s))
    (one_of_some (verb_of command.name) command file journal input (λ e. other (explain_named command.name e)) (λ e. undiffed (diff_named command.name e)) is.stored also.stored is.answers also.answers)
    ∙ sym also.shown
