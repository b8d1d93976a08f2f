-- Answers whose journal is not made.
use Rattle.bib_run.proofs.Words.{◌≡◌, ◌∙◌, Bool, true, false, ◌==◌, List, Option, Some, None, ℕ, take, sym, refl, ap, subst, IfOk-weaker, Text, Command, Answer, Saved, KeptSteps, Request, edited_answer, outcome_after, shown}
use Rattle.std.proofs.Common.{◌&&◌, ◌||◌, if◌then◌else◌, not, IfOk, IsSomeAnd, Result}
use Rattle.bib_words.specs.declared.verbs.Verb.{Verb}
use Rattle.bib_words.specs.Verbs.{verb_of}
use Rattle.bib_run.specs.Answers.{Answers, IsStoredAnswer}
use Rattle.bib_answers.specs.declared.answers.Outcome.{Outcome}
use Rattle.bib_run.specs.EditAnswer.{applied_line, edits_in, taken_back, whole}
use Rattle.bib_run.specs.ImportAnswer.{added_answer}
use Rattle.bib_run.specs.Shown.{printed, without_journal, kept_with, SavesUpTo, IsUpTo}

-- an answer is itself up to its journal
pub up_to : (no_journal : Bool) (P : Answer → Type 0) (answer : Answer) → P answer → IsUpTo no_journal P answer
up_to no_journal P answer is = record { stored = answer; answers = is; same = refl }

pub up_to-weaker : (no_journal : Bool) (P Q : Answer → Type 0) (given : Answer) → ((answer : Answer) → P answer → Q answer) → IsUpTo no_journal P given → IsUpTo no_journal Q given
up_to-weaker no_journal P Q given f is = record { stored = is.stored; answers = f is.stored is.answers; same = is.same }

pub each_up_to : {E : Type 0} (no_journal : Bool) (P : Answer → Type 0) (result : Result Answer E) → IfOk result P → IfOk result (IsUpTo no_journal P)
each_up_to no_journal P result is = IfOk-weaker result P (IsUpTo no_journal P) (λ answer h. up_to no_journal P answer h) is

-- the answer of the command with this name
pub named_answer : (verb : Verb) (command : Command) (file : Text) (journal : Option Text) (input : Text) (answer : Answer) → verb_of command.name ≡ Some verb
    → Answers verb command file journal input answer → IsStoredAnswer command file journal input answer
named_answer verb command file journal input answer named is =
    subst (λ (v : Option Verb). IsSomeAnd v (λ w. Answers w command file journal input answer)) (sym named) is

-- what is shown does not depend on a journal that is not stored
pub shown_same : (print no_journal : Bool) (given stored : Answer) → kept_with (no_journal || print) given ≡ kept_with (no_journal || print) stored
    → shown print (kept_with no_journal given) ≡ shown print (kept_with no_journal stored)
shown_same true true given stored same = ap printed same
shown_same true false given stored same = ap printed same
shown_same false true given stored same = same
shown_same false false given stored same = same

-- nor does taking all back
same_choice : (b : Bool) (one other one' other' : Answer) → without_journal one ≡ without_journal one' → without_journal other ≡ without_journal other'
    → without_journal (if b then one else other) ≡ without_journal (if b then one' else other')
same_choice true one other one' other' same same' = same
same_choice false one other one' other' same same' = same'

pub whole_same : (all no_journal : Bool) (given stored : Answer) → kept_with no_journal given ≡ kept_with no_journal stored
    → kept_with no_journal (whole all given) ≡ kept_with no_journal (whole all stored)
whole_same all false given stored same = ap (whole all) same
whole_same all true given stored same = sym (bare given) ∙ ap (λ (a : Answer). without_journal (whole all a)) same ∙ bare stored
  where
    bare : (a : Answer) → without_journal (whole all (without_journal a)) ≡ without_journal (whole all a)
    bare a = same_choice (all && not (a.outcome.status == 0)) (taken_back (without_journal a)) (without_journal a) (taken_back a) a refl refl

-- an outcome has the file that is saved, whatever the journal
same_outcome : (output : Text) (done : ℕ) (message : Option Text) (given saved : Saved) → given.file ≡ saved.file
    → without_journal (record { output = output; outcome = outcome_after done message given }) ≡ without_journal (record { output = output; outcome = outcome_after done message saved })
same_outcome output done None given saved file = ap (λ (f : Text). without_journal (record { output = output; outcome = outcome_after done None (record saved { file = f }) })) file
same_outcome output done (Some message) given saved file = ap (λ (f : Text). without_journal (record { output = output; outcome = outcome_after done (Some message) (record saved { file = f }) })) file

-- so an answer with what is saved is one up to the journal
pub saved_same : (no_journal : Bool) (kept : KeptSteps) (given : Saved) (is : SavesUpTo no_journal kept given) (output : Text) (done : ℕ) (message : Option Text)
    → kept_with no_journal (record { output = output; outcome = outcome_after done message given }) ≡ kept_with no_journal (record { output = output; outcome = outcome_after done message is.saved })
saved_same true kept given is output done message = same_outcome output done message given is.saved is.file
saved_same false kept given is output done message = ap (λ (s : Saved). kept_with false (record { output = output; outcome = outcome_after done message s })) (is.journal refl)

-- so is one to requests
pub edited_same : (no_journal : Bool) (kept : KeptSteps) (given : Saved) (is : SavesUpTo no_journal kept given) (requests : List Request) (done : ℕ) (message : Option Text)
    → kept_with no_journal (edited_answer requests done message given) ≡ kept_with no_journal (edited_answer requests done message is.saved)
edited_same no_journal kept given is requests done message =
    let made : ℕ = edits_in (take done requests) in
    saved_same no_journal kept given is (applied_line made) made message

-- and one that has added entries
pub added_same : (no_journal : Bool) (kept : KeptSteps) (given : Saved) (is : SavesUpTo no_journal kept given) (told : Text) (outcome : Outcome) → outcome ≡ outcome_after 1 None given
    → kept_with no_journal (record { output = told; outcome = outcome }) ≡ kept_with no_journal (added_answer told is.saved)
added_same no_journal kept given is told outcome after =
    ap (λ (o : Outcome). kept_with no_journal (record { output = told; outcome = o })) after ∙ saved_same no_journal kept given is told 1 None
