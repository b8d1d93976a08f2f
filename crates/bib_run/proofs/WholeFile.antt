-- What was read up to the limit tells of the whole file.
use Rattle.bib_run.proofs.Words.{◌≡◌, ◌≢◌, ◌∙◌, Bool, ℕ, ◌+◌, ◌<◌, ◌≤◌, [], ◌++◌, length, take, drop, ap, Option, Some, None, subst, refl, arith, inl, inr, sym, codes, take_all, take-add, Consumes, file_limit, Text, IsReadFault, no_reading, Command, Answer, ReadsUpTo, Reading, KeptSteps, Request}
use Rattle.bib_run.proofs.Words.{SessionState, Opens, IsOpenFault, AnswersFile, IsCatAnswer, IsLintAnswer, error_line, answer_of, position_of, IsAnswer, key_words, first_word, AnswersSession, AnswersInput}
use Rattle.bib_run.proofs.Words.{HasEditedBy, HasEditedByWords, HasImported, IsUnopened, IsUnopenedAnswer, OpensWith, judged_journal, IsTurnAnswer, IsLogAnswer, IsForgetAnswer}
use Rattle.std.proofs.Common.{List, fold, append-nil, length-append, IsSomeAnd}
use Rattle.std.proofs.lemmas.List.{length-take-le}
use Rattle.std.proofs.lemmas.Bool.{cases_eq, cases_lt}
use Rattle.std.proofs.Math.Seq.{take-append_seam}
use Rattle.bib_spec.specs.Fault.{too_long, no_memory}
use Rattle.bib_run.specs.Transfers.{HasBytes}
use Rattle.bib_data.specs.declared.request.Request.TheVariants as request
use Rattle.bib_run.specs.InsertAnswer.{HasInserted}
use Rattle.bib_words.specs.declared.verbs.Verb.{Verb}
use Rattle.bib_words.specs.declared.verbs.Verb.TheVariants.{Asks, Cat, Lint, Names, Explain, Edit, Import, Insert, Merge, Diff, Undo, Redo, Log, Forget}
use Rattle.bib_words.specs.declared.verbs.Question.{Question}
use Rattle.bib_words.specs.declared.verbs.Question.TheVariants.{Check, Show, Entry, Cite, Labels, Json, NewKeys, Ris, Extract}
use Rattle.bib_words.specs.Verbs.{verb_of}
use Rattle.bibtex_answers.specs.Opened as bibtex
use Rattle.bibtex_answers.specs.Opened.{AnswersAsBibtex, IsFaultAsBibtex}
use Rattle.bibtex_answers.specs.Show as bibtex_show
use Rattle.bibtex_answers.specs.Cite as bibtex_cite
use Rattle.bibtex_answers.specs.Records as bibtex_records
use Rattle.bibtex_answers.specs.Names as bibtex_names
use Rattle.bibtex_answers.specs.Labels as bibtex_labels
use Rattle.bibtex_ris.specs.Ris as bibtex_texts
use Rattle.bibtex_answers.specs.StyleMacros.{style_macros, with_style}
use Rattle.bib_journal.proofs.LoadLemmas.{opened_short}
use Rattle.aux_text.specs.declared.placing.AuxKeys.{AuxKeys}
use Rattle.bib_answers.specs.Opened as opening
use Rattle.bib_answers.specs.Opened.{opened}
use Rattle.bib_answers.specs.Cat.{copied, refused}
use Rattle.bib_answers.specs.Lint as linting
use Rattle.bib_answers.specs.Positions.{position, position_after}
use Rattle.bib_answers.specs.declared.positions.Position.{Position}
use Rattle.bib_answers.specs.Names.{IsNamesAnswer, names_answer}
use Rattle.bib_diff.specs.declared.fault.DiffFault.{DiffFault}
use Rattle.bib_diff.specs.declared.fault.DiffFault.TheVariants as diff_fault
use Rattle.bib_diff.specs.Leading.{RefusesDiff}
use Rattle.diff_answers.specs.Answers as comparing
use Rattle.diff_answers.specs.Answers.{IsDiffAnswer}
use Rattle.bib_run.specs.declared.reading.Sources.{Sources}
use Rattle.bib_run.specs.Answers.{Answers, AnswersBibtex, AnswersNames, AnswersQuestion, as_ever, as_bibtex, names_as_ever, names_as_bibtex, IsEditsAnswer, IsWholeAnswer, question_answer, key_word, template_word, script, words}
use Rattle.bib_run.specs.Sources.{front, fronts}
use Rattle.bib_run.specs.Inputs as inputs
use Rattle.bib_run.specs.Inputs.{answered}
use Rattle.bib_run.specs.Sessions as why
use Rattle.bib_run.specs.Turns as turning
use Rattle.bib_run.specs.Log as logging

-- what was read up to the limit is the first `most` bytes of all that there was
pub take-read : (most : ℕ) (v rest : Text) → length v ≤ most → (length v ≢ most → rest ≡ []) → take most (v ++ rest) ≡ v
take-read most v rest within whole = elim (cases_eq (length v) most) [
  | inl e ↦ subst (λ n. take n (v ++ rest) ≡ v) e (take-append_seam v rest)
  | inr n ↦ rw (whole n, append-nil v) (take_all most v within)
]

-- the bytes of a source whose first `most` bytes are these, which were read
pub record IsReadFrom (most : ℕ) (before after : Option Text) (v : Text) : Type 0 where
  pub bytes : Text
  pub has : HasBytes most before after bytes
  pub front : take most bytes ≡ v

pub source_bytes : (most : ℕ) (before after : Option Text) (v : Text) → ReadsUpTo most before after v → IsReadFrom most before after v
source_bytes most None after v r =
    let front : take most v ≡ v = take_all most v r.within in
    record {
      bytes = v;
      has = record {
        all = tt;
        taken = subst (Consumes None after) (sym front) r.given;
        ended = λ short. r.whole (λ e. omega (arith, short, e));
      };
      front = front;
    }
source_bytes most (Some told) None v r = absurd r.given
source_bytes most (Some told) (Some rest) v r =
    let front : take most told ≡ v = subst (λ t. take most t ≡ v) (sym r.given) (take-read most v rest r.within r.whole) in
    record {
      bytes = told;
      has = record {
        all = refl;
        taken = subst (Consumes (Some told) (Some rest)) (sym front) r.given;
        ended = λ short. r.whole (λ e. let same : length told ≡ length (v ++ rest) = rw r.given refl in omega (arith, short, e, same, length-append v rest));
      };
      front = front;
    }

-- a file that is too long is refused as its front is that has one byte past the limit
IsReadFault-long : (bytes : Text) (kind place : ℕ) → file_limit < length bytes → IsReadFault (take (file_limit + 1) bytes) kind place → IsReadFault bytes kind place
IsReadFault-long bytes kind place long (too_long over) = too_long long
IsReadFault-long bytes kind place long (no_reading fault at within failing wrong) = absurd (omega (arith, long, within, length-take-le (file_limit + 1) bytes (omega (arith, long))))
IsReadFault-long bytes kind place long (no_memory within) = absurd (omega (arith, long, within, length-take-le (file_limit + 1) bytes (omega (arith, long))))

IsCatAnswer-long : (bytes : Text) (answer : Answer) → file_limit < length bytes
    → IsCatAnswer (take (file_limit + 1) bytes) answer → IsCatAnswer bytes answer
IsCatAnswer-long bytes answer long (copied within reads) = absurd (omega (arith, long, within, length-take-le (file_limit + 1) bytes (omega (arith, long))))
IsCatAnswer-long bytes answer long (refused kind place other fault) = refused kind place other (IsReadFault-long bytes kind place long fault)

-- so is one that is opened
IsOpenFault-long : (bytes : Text) (kind place : ℕ) → file_limit < length bytes → IsOpenFault (take (file_limit + 1) bytes) kind place → IsOpenFault bytes kind place
IsOpenFault-long bytes kind place long (inl fault) = inl (IsReadFault-long bytes kind place long fault)
IsOpenFault-long bytes kind place long (inr fault) = absurd (let within = fault.short in omega (arith, long, within, length-take-le (file_limit + 1) bytes (omega (arith, long))))

AnswersFile-long : (answers : Reading → Answer) (bytes : Text) (answer : Answer) → file_limit < length bytes
    → AnswersFile answers (take (file_limit + 1) bytes) answer → AnswersFile answers bytes answer
AnswersFile-long answers bytes answer long (opened db opens is) = absurd (let within = opens.short in omega (arith, long, within, length-take-le (file_limit + 1) bytes (omega (arith, long))))
AnswersFile-long answers bytes answer long (opening.refused kind place other fault is) = opening.refused kind place other (IsOpenFault-long bytes kind place long fault) is

-- so is one that is opened after the macros of the style
style_is_long : (bytes : Text) → file_limit < length bytes → file_limit < length (with_style bytes)
style_is_long bytes long = let both = length-append style_macros bytes in omega (arith, long, both)

IsFaultAsBibtex-long : (bytes : Text) (kind place : ℕ) → file_limit < length bytes → IsFaultAsBibtex (take (file_limit + 1) bytes) kind place → IsFaultAsBibtex bytes kind place
IsFaultAsBibtex-long bytes kind place long (bibtex.own _ _ fault) = bibtex.own kind place (IsOpenFault-long bytes kind place long fault)
IsFaultAsBibtex-long bytes kind place long (bibtex.with_macros _ at opens fault) =
    absurd (let within = opens.1.short in omega (arith, long, within, length-take-le (file_limit + 1) bytes (omega (arith, long))))

AnswersAsBibtex-long : (answers : Reading → Answer) (bytes : Text) (answer : Answer) → file_limit < length bytes
    → AnswersAsBibtex answers (take (file_limit + 1) bytes) answer → AnswersAsBibtex answers bytes answer
AnswersAsBibtex-long answers bytes answer long (bibtex.opened db opens is) =
    absurd (let within = opens.short in let both = length-append style_macros (take (file_limit + 1) bytes) in omega (arith, long, within, both, length-take-le (file_limit + 1) bytes (omega (arith, long))))
AnswersAsBibtex-long answers bytes answer long (bibtex.refused kind place other at told fault told' fault' is) =
    bibtex.refused kind place 9 file_limit told (IsFaultAsBibtex-long bytes kind place long fault) (λ e. omega (arith, e)) (inl (too_long (style_is_long bytes long))) is

AnswersBibtex-long : (question : Question) (command : Command) (bytes : Text) (answer : Answer) → file_limit < length bytes
    → AnswersBibtex question command (take (file_limit + 1) bytes) answer → AnswersBibtex question command bytes answer
AnswersBibtex-long Show command bytes answer long = AnswersAsBibtex-long (bibtex_show.show_answer (key_word command)) bytes answer long
AnswersBibtex-long Cite command bytes answer long = AnswersAsBibtex-long (bibtex_cite.cite_answer command.strict (key_words command) command.n) bytes answer long
AnswersBibtex-long Json command bytes answer long = AnswersAsBibtex-long (bibtex_records.json_answer (key_words command)) bytes answer long
AnswersBibtex-long Ris command bytes answer long = AnswersAsBibtex-long (bibtex_texts.ris_answer command.dropped command.plain (key_words command)) bytes answer long
AnswersBibtex-long Check command bytes answer long = λ none. absurd none
AnswersBibtex-long Entry command bytes answer long = λ none. absurd none
AnswersBibtex-long Labels command bytes answer long = AnswersAsBibtex-long (bibtex_labels.labels_answer (key_words command)) bytes answer long
AnswersBibtex-long NewKeys command bytes answer long = λ none. absurd none
AnswersBibtex-long Extract command bytes answer long = λ none. absurd none

AnswersQuestion-long : (question : Question) (command : Command) (bytes : Text) (answer : Answer) → file_limit < length bytes
    → AnswersQuestion question command (take (file_limit + 1) bytes) answer → AnswersQuestion question command bytes answer
AnswersQuestion-long question command bytes answer long (as_ever off is) = as_ever off (AnswersFile-long (question_answer question command) bytes answer long is)
AnswersQuestion-long question command bytes answer long (as_bibtex on is) = as_bibtex on (AnswersBibtex-long question command bytes answer long is)

-- a file that is too long is not opened, with whatever journal
front_is_long : (bytes : Text) → file_limit < length bytes → length (take (file_limit + 1) bytes) ≤ file_limit → ⊥
front_is_long bytes long within = omega (arith, long, within, length-take-le (file_limit + 1) bytes (omega (arith, long)))

not_opened : (bytes : Text) (journal : Option Text) (kept : KeptSteps) → file_limit < length bytes → Opens (take (file_limit + 1) bytes) journal kept → ⊥
not_opened bytes journal kept long opens = front_is_long bytes long (opened_short (take (file_limit + 1) bytes) journal kept opens)

IsUnopened-long : (bytes : Text) (journal : Option Text) (message : Text) → file_limit < length bytes → IsUnopened (take (file_limit + 1) bytes) journal message → IsUnopened bytes journal message
IsUnopened-long bytes journal message long (why.file j kind place other fault) = why.file j kind place other (IsOpenFault-long bytes kind place long fault)
IsUnopened-long bytes journal message long (why.journal text place opens wrong) = absurd (front_is_long bytes long opens.1.short)
IsUnopened-long bytes journal message long (why.mismatch text misfit) = absurd (front_is_long bytes long misfit.opens.1.short)

IsUnopenedAnswer-long : (bytes : Text) (journal : Option Text) (answer : Answer) → file_limit < length bytes
    → IsUnopenedAnswer (take (file_limit + 1) bytes) journal answer → IsUnopenedAnswer bytes journal answer
IsUnopenedAnswer-long bytes journal answer long w = record { message = w.message; why = IsUnopened-long bytes journal w.message long w.why; answered = w.answered }

not_opened_with : (new_journal : Bool) (bytes : Text) (journal : Option Text) (state : SessionState) → file_limit < length bytes → OpensWith new_journal (take (file_limit + 1) bytes) journal state → ⊥
not_opened_with new_journal bytes journal state long (why.fitting opens) = not_opened bytes journal state.steps long opens.opens
not_opened_with new_journal bytes journal state long (why.begun text anew is unfit opens) = not_opened bytes None state.steps long opens.opens

AnswersSession-long : (new_journal : Bool) (answers : SessionState → Answer → Type 0) (bytes : Text) (journal : Option Text) (answer : Answer) → file_limit < length bytes
    → AnswersSession new_journal answers (take (file_limit + 1) bytes) journal answer → AnswersSession new_journal answers bytes journal answer
AnswersSession-long new_journal answers bytes journal answer long (answered state opens has) = absurd (not_opened_with new_journal bytes journal state long opens)
AnswersSession-long new_journal answers bytes journal answer long (inputs.unopened w) = inputs.unopened (IsUnopenedAnswer-long bytes (judged_journal new_journal journal) answer long w)

IsTurnAnswer-long : (word : Text) (request : Request) (n : ℕ) (bytes : Text) (journal : Option Text) (answer : Answer) → file_limit < length bytes
    → IsTurnAnswer word request n (take (file_limit + 1) bytes) journal answer → IsTurnAnswer word request n bytes journal answer
IsTurnAnswer-long word request n bytes journal answer long (turning.turned turned turns is) = absurd (not_opened bytes journal turns.opened long turns.opens)
IsTurnAnswer-long word request n bytes journal answer long (turning.unopened w) = turning.unopened (IsUnopenedAnswer-long bytes journal answer long w)

IsLogAnswer-long : (bytes : Text) (journal : Option Text) (answer : Answer) → file_limit < length bytes
    → IsLogAnswer (take (file_limit + 1) bytes) journal answer → IsLogAnswer bytes journal answer
IsLogAnswer-long bytes journal answer long (logging.listed kept opens is) = absurd (not_opened bytes journal kept long opens)
IsLogAnswer-long bytes journal answer long (logging.unopened w) = logging.unopened (IsUnopenedAnswer-long bytes journal answer long w)

IsForgetAnswer-long : (bytes : Text) (answer : Answer) → file_limit < length bytes → IsForgetAnswer (take (file_limit + 1) bytes) answer → IsForgetAnswer bytes answer
IsForgetAnswer-long bytes answer long (logging.forgot saved opens saves is) = absurd (front_is_long bytes long opens.1.short)
IsForgetAnswer-long bytes answer long (logging.unforgotten w) = logging.unforgotten (IsUnopenedAnswer-long bytes None answer long w)

-- the place of a file that is too long has the position that it has in the front
fault_position : (bytes : Text) (kind place : ℕ) → file_limit < length bytes → IsOpenFault (take (file_limit + 1) bytes) kind place → position_of (take (file_limit + 1) bytes) place ≡ position_of bytes place
fault_position bytes kind place long (inl (too_long over)) = ap (fold position_after (position 1 1)) (
    ap (take file_limit) (take-add file_limit 1 bytes)
    ∙ subst (λ n. take n (take file_limit bytes ++ take 1 (drop file_limit bytes)) ≡ take file_limit bytes) (length-take-le file_limit bytes (omega (arith, long)))
    (take-append_seam (take file_limit bytes) (take 1 (drop file_limit bytes))))
fault_position bytes kind place long (inl (no_reading fault at within failing wrong)) = absurd (front_is_long bytes long within)
fault_position bytes kind place long (inl (no_memory within)) = absurd (front_is_long bytes long within)
fault_position bytes kind place long (inr fault) = absurd (front_is_long bytes long fault.short)

IsLintAnswer-long : (ignored : List Text) (cited : List AuxKeys) (name bytes : Text) (answer : Answer) → file_limit < length bytes → IsLintAnswer ignored cited name (take (file_limit + 1) bytes) answer
    → IsLintAnswer ignored cited name bytes answer
IsLintAnswer-long ignored cited name bytes answer long (linting.opened db opens is) = absurd (front_is_long bytes long opens.short)
IsLintAnswer-long ignored cited name bytes answer long (linting.faulty short unread faults are is) = absurd (front_is_long bytes long short)
IsLintAnswer-long ignored cited name bytes answer long (linting.refused kind place other past fault is) =
    linting.refused kind place other past (IsOpenFault-long bytes kind place long fault)
    (is ∙ ap (λ (at : Position). answer_of (error_line name at kind) [] 1) (fault_position bytes kind place long fault))

IsEditsAnswer-long : (command : Command) (bytes : Text) (journal : Option Text) (input : Text) (answer : Answer) → file_limit < length bytes
    → IsEditsAnswer command (take (file_limit + 1) bytes) journal input answer → IsEditsAnswer command bytes journal input answer
IsEditsAnswer-long command bytes journal input answer long (script alone given) =
    script alone (AnswersSession-long command.new_journal (AnswersInput HasEditedBy input) bytes journal answer long given)
IsEditsAnswer-long command bytes journal input answer long (words more given) =
    words more (AnswersSession-long command.new_journal (HasEditedByWords (key_words command)) bytes journal answer long given)

IsNamesAnswer-long : (depth : ℕ) (key template bytes : Text) (answer : Answer) → file_limit < length bytes → IsNamesAnswer depth key template (take (file_limit + 1) bytes) answer
    → IsNamesAnswer depth key template bytes answer
IsNamesAnswer-long depth key template bytes answer long a =
    record { pattern = a.pattern; spells = a.spells; answers = AnswersFile-long (names_answer depth key a.pattern) bytes answer long a.answers }

AnswersNames-long : (command : Command) (bytes : Text) (answer : Answer) → file_limit < length bytes → AnswersNames command (take (file_limit + 1) bytes) answer → AnswersNames command bytes answer
AnswersNames-long command bytes answer long (names_as_ever off is) = names_as_ever off (IsNamesAnswer-long command.depth (key_word command) (template_word command) bytes answer long is)
AnswersNames-long command bytes answer long (names_as_bibtex on is) =
    names_as_bibtex on (AnswersAsBibtex-long (bibtex_names.names_answer (key_word command) (template_word command)) bytes answer long is)

IsWholeAnswer-long : (command : Command) (bytes : Text) (journal : Option Text) (input : Text) (answer : Answer) → file_limit < length bytes
    → IsWholeAnswer command (take (file_limit + 1) bytes) journal input answer → IsWholeAnswer command bytes journal input answer
IsWholeAnswer-long command bytes journal input answer long a =
    record { made = a.made; edits = IsEditsAnswer-long command bytes journal input a.made long a.edits; whole = a.whole }

-- no script leads from a file that is too long
RefusesDiff-long : (bytes new : Text) (fault : DiffFault) → file_limit < length bytes → RefusesDiff fault (take (file_limit + 1) bytes) new → RefusesDiff fault bytes new
RefusesDiff-long bytes new (diff_fault.Old fault) long why = (why.0, IsOpenFault-long bytes fault.kind fault.place long why.1)
RefusesDiff-long bytes new (diff_fault.New fault) long why = absurd (front_is_long bytes long why.0.1.short)
RefusesDiff-long bytes new (diff_fault.NoScript key) long why = absurd (front_is_long bytes long why.0.1.short)
RefusesDiff-long bytes new diff_fault.Memory long why = tt

IsDiffAnswer-long : (name other bytes new : Text) (answer : Answer) → file_limit < length bytes → IsDiffAnswer name other (take (file_limit + 1) bytes) new answer → IsDiffAnswer name other bytes new answer
IsDiffAnswer-long name other bytes new answer long (comparing.agree opens opens' agree is) = absurd (front_is_long bytes long opens.1.short)
IsDiffAnswer-long name other bytes new answer long (comparing.differ request requests lines says leads differ is) = absurd (front_is_long bytes long leads.old_opens.1.short)
IsDiffAnswer-long name other bytes new answer long (comparing.refused fault told why is) = comparing.refused fault told (RefusesDiff-long bytes new fault long why) is

Answers-long : (verb : Verb) (command : Command) (bytes : Text) (journal : Option Text) (input : Text) (answer : Answer) → file_limit < length bytes
    → Answers verb command (take (file_limit + 1) bytes) journal input answer → Answers verb command bytes journal input answer
Answers-long (Asks question) command bytes journal input answer long = AnswersQuestion-long question command bytes answer long
Answers-long Cat command bytes journal input answer long = IsCatAnswer-long bytes answer long
Answers-long Lint command bytes journal input answer long = IsLintAnswer-long (key_words command) command.cited (first_word command) bytes answer long
Answers-long Names command bytes journal input answer long = AnswersNames-long command bytes answer long
Answers-long Explain command bytes journal input answer long = λ given. given
Answers-long Edit command bytes journal input answer long = IsWholeAnswer-long command bytes journal input answer long
Answers-long Insert command bytes journal input answer long = AnswersSession-long command.new_journal (AnswersInput (HasInserted (key_words command)) input) bytes journal answer long
Answers-long Import command bytes journal input answer long = AnswersSession-long command.new_journal (AnswersInput (HasImported command) input) bytes journal answer long
Answers-long Diff command bytes journal input answer long = IsDiffAnswer-long (first_word command) (key_word command) bytes input answer long
Answers-long Undo command bytes journal input answer long = IsTurnAnswer-long (codes "undone") request.Undo command.n bytes journal answer long
Answers-long Redo command bytes journal input answer long = IsTurnAnswer-long (codes "redone") request.Redo command.n bytes journal answer long
Answers-long Log command bytes journal input answer long = IsLogAnswer-long bytes journal answer long
Answers-long Forget command bytes journal input answer long = IsForgetAnswer-long bytes answer long
Answers-long Merge command bytes journal input answer long = λ given. given

-- an input that is too long is refused as its front is
AnswersSession-input : (new_journal : Bool) (answers : Text → SessionState → Answer → Type 0) (file : Text) (journal : Option Text) (input : Text) (answer : Answer) → file_limit < length input
    → AnswersSession new_journal (AnswersInput answers (take (file_limit + 1) input)) file journal answer → AnswersSession new_journal (AnswersInput answers input) file journal answer
AnswersSession-input new_journal answers file journal input answer long (answered state opens (inputs.within short has)) = absurd (front_is_long input long short)
AnswersSession-input new_journal answers file journal input answer long (answered state opens (inputs.too_long over made)) = answered state opens (inputs.too_long long made)
AnswersSession-input new_journal answers file journal input answer long (inputs.unopened w) = inputs.unopened w

IsEditsAnswer-input : (command : Command) (file : Text) (journal : Option Text) (input : Text) (answer : Answer) → file_limit < length input
    → IsEditsAnswer command file journal (take (file_limit + 1) input) answer → IsEditsAnswer command file journal input answer
IsEditsAnswer-input command file journal input answer long (script alone given) = script alone (AnswersSession-input command.new_journal HasEditedBy file journal input answer long given)
IsEditsAnswer-input command file journal input answer long (words more given) = words more given

IsWholeAnswer-input : (command : Command) (file : Text) (journal : Option Text) (input : Text) (answer : Answer) → file_limit < length input
    → IsWholeAnswer command file journal (take (file_limit + 1) input) answer → IsWholeAnswer command file journal input answer
IsWholeAnswer-input command file journal input answer long a =
    record { made = a.made; edits = IsEditsAnswer-input command file journal input a.made long a.edits; whole = a.whole }

-- nor to one that is
RefusesDiff-input : (old bytes : Text) (fault : DiffFault) → file_limit < length bytes → RefusesDiff fault old (take (file_limit + 1) bytes) → RefusesDiff fault old bytes
RefusesDiff-input old bytes (diff_fault.Old fault) long why = why
RefusesDiff-input old bytes (diff_fault.New fault) long why = (why.0, why.1, IsOpenFault-long bytes fault.kind fault.place long why.2)
RefusesDiff-input old bytes (diff_fault.NoScript key) long why = absurd (front_is_long bytes long why.1.1.short)
RefusesDiff-input old bytes diff_fault.Memory long why = tt

IsDiffAnswer-input : (name other old bytes : Text) (answer : Answer) → file_limit < length bytes → IsDiffAnswer name other old (take (file_limit + 1) bytes) answer → IsDiffAnswer name other old bytes answer
IsDiffAnswer-input name other old bytes answer long (comparing.agree opens opens' agree is) = absurd (front_is_long bytes long opens'.1.short)
IsDiffAnswer-input name other old bytes answer long (comparing.differ request requests lines says leads differ is) = absurd (front_is_long bytes long leads.new_opens.1.short)
IsDiffAnswer-input name other old bytes answer long (comparing.refused fault told why is) = comparing.refused fault told (RefusesDiff-input old bytes fault long why) is

Answers-input : (verb : Verb) (command : Command) (file : Text) (journal : Option Text) (input : Text) (answer : Answer) → file_limit < length input
    → Answers verb command file journal (take (file_limit + 1) input) answer → Answers verb command file journal input answer
Answers-input (Asks question) command file journal input answer long = λ given. given
Answers-input Cat command file journal input answer long = λ given. given
Answers-input Lint command file journal input answer long = λ given. given
Answers-input Names command file journal input answer long = λ given. given
Answers-input Explain command file journal input answer long = λ given. given
Answers-input Edit command file journal input answer long = IsWholeAnswer-input command file journal input answer long
Answers-input Insert command file journal input answer long = AnswersSession-input command.new_journal (HasInserted (key_words command)) file journal input answer long
Answers-input Import command file journal input answer long = AnswersSession-input command.new_journal (HasImported command) file journal input answer long
Answers-input Diff command file journal input answer long = IsDiffAnswer-input (first_word command) (key_word command) file input answer long
Answers-input Undo command file journal input answer long = λ given. given
Answers-input Redo command file journal input answer long = λ given. given
Answers-input Log command file journal input answer long = λ given. given
Answers-input Forget command file journal input answer long = λ given. given
Answers-input Merge command file journal input answer long = λ given. given

-- what holds of the front of a text holds of the text, if it holds of a text that is longer than the limit
by_front : (P : Text → Type 0) (bytes : Text) → (file_limit < length bytes → P (front bytes) → P bytes) → P (front bytes) → P bytes
by_front P bytes longer given = elim (cases_lt file_limit (length bytes)) [
  | inl long ↦ longer long given
  | inr short ↦ subst P (take_all (file_limit + 1) bytes (omega (arith, short))) given
]

Answers-fronts : (verb : Verb) (command : Command) (bytes : Sources) (answer : Answer)
    → Answers verb command (front bytes.file) bytes.journal (front bytes.input) answer → Answers verb command bytes.file bytes.journal bytes.input answer
Answers-fronts verb command bytes answer given =
    by_front (λ file. Answers verb command file bytes.journal bytes.input answer) bytes.file (Answers-long verb command bytes.file bytes.journal bytes.input answer)
    (by_front (λ input. Answers verb command (front bytes.file) bytes.journal input answer) bytes.input (Answers-input verb command (front bytes.file) bytes.journal bytes.input answer) given)

of_some : (verb : Option Verb) (P Q : Verb → Type 0) → ((v : Verb) → P v → Q v) → IsSomeAnd verb P → IsSomeAnd verb Q
of_some None P Q each given = given
of_some (Some verb) P Q each given = each verb given

-- the answer to what was kept of the sources is the answer to what they hold
pub IsAnswer-fronts : (command : Command) (bytes kept : Sources) (answer : Answer) → kept ≡ fronts bytes → IsAnswer command kept.file kept.journal kept.input answer
    → IsAnswer command bytes.file bytes.journal bytes.input answer
IsAnswer-fronts command bytes kept answer is given =
    let a : IsAnswer command (front bytes.file) bytes.journal (front bytes.input) answer = subst (λ (s : Sources). IsAnswer command s.file s.journal s.input answer) is given in
    record {
      stored = a.stored;
      answers = of_some (verb_of command.name) _ _ (λ verb. Answers-fronts verb command bytes a.stored) a.answers;
      shown = a.shown;
    }
