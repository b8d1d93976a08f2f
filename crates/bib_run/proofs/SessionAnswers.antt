-- Why no session is opened, as an answer.
use Rattle.bib_run.proofs.Words.{◌≡◌, ◌≢◌, ℕ, [], Option, Some, None, Text, ReadFault, IsOpenFault, SessionFault, Unopened, BadJournal, JournalMismatch, RefusesOpen, Answer, refusal_line, answer_of, IsUnopenedAnswer, bad_journal_line, mismatch_line}
use Rattle.bib_run.specs.Sessions as why

-- the answer says why no session is opened, for every file and journal with this fault
abbrev pub Tells : SessionFault → Answer → Type 0
Tells fault answer = (file : Text) (journal : Option Text) → RefusesOpen fault file journal → IsUnopenedAnswer file journal answer

file_refused : (fault : ReadFault) (file : Text) (journal : Option Text) → RefusesOpen (Unopened fault) file journal → IsOpenFault file fault.kind fault.place
file_refused fault file None refuses = refuses.1
file_refused fault file (Some text) refuses = refuses.1

pub tells_file : (fault : ReadFault) (answer : Answer) → fault.kind ≢ 10 → answer ≡ answer_of [] (refusal_line fault.kind fault.place) 1 → Tells (Unopened fault) answer
tells_file fault answer told is file journal refuses = record {
  message = refusal_line fault.kind fault.place;
  why = why.file journal fault.kind fault.place told (file_refused fault file journal refuses);
  answered = is;
}

pub tells_journal : (place : ℕ) (answer : Answer) → answer ≡ answer_of [] (bad_journal_line place) 1 → Tells (BadJournal place) answer
tells_journal place answer is file None refuses = absurd refuses
tells_journal place answer is file (Some text) refuses = record { message = bad_journal_line place; why = why.journal text place refuses.0 refuses.1; answered = is }

pub tells_mismatch : (answer : Answer) → answer ≡ answer_of [] mismatch_line 1 → Tells JournalMismatch answer
tells_mismatch answer is file None refuses = absurd refuses
tells_mismatch answer is file (Some text) refuses = record { message = mismatch_line; why = why.mismatch text refuses; answered = is }
