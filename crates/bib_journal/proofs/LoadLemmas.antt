-- Contents, held against a file.
use Rattle.bib_journal.proofs.Words.{◌≡◌, ◌≤◌, List, length, Option, Some, None, reverse, refl, sym, subst, ◌∙◌, ap, file_limit, Text, Step, KeptSteps, Contents, digest_of, Opens, RefusesOpen, SessionFault, Memory, kept, FitFile, Loads, SaysOf}
use Rattle.std.proofs.lemmas.List.{reverse-reverse}
use Rattle.journal_format.specs.Faults.{IsJournalOf}

-- the steps of the contents, undone ones last first
pub contents_kept : (c : Contents) (file : Text) (stack : List Step) → stack ≡ reverse c.future → kept c.past file (reverse stack) ≡ kept c.past file c.future
contents_kept c file stack turned = ap (kept c.past file) (ap reverse turned ∙ reverse-reverse c.future)

-- a session with what the journal says
pub says_loads : (file text : Text) (c : Contents) → SaysOf file text c → Loads file text (kept c.past file c.future)
says_loads file text c says =
    let same : record { digest = digest_of file; past = c.past; future = c.future } ≡ c = ap (λ (d : Text). record { digest = d; past = c.past; future = c.future }) (sym says.fit.digest) in
    record {
      present = refl;
      journal = subst (λ (x : Contents). IsJournalOf x text) (sym same) says.journal;
      fit = subst (λ (x : Contents). FitFile x file) (sym same) says.fit;
    }

-- ---- want of memory

-- what is opened is not too long
pub opened_short : (file : Text) (journal : Option Text) (kept : KeptSteps) → Opens file journal kept → length file ≤ file_limit
opened_short file None kept opens = opens.0.1.short
opened_short file (Some text) kept opens = opens.fit.opens.1.short

memory_refuses_any : (file : Text) (journal : Option Text) → length file ≤ file_limit → RefusesOpen Memory file journal
memory_refuses_any file None short = short
memory_refuses_any file (Some text) short = short

-- want of memory refuses any opening of a file that is not too long
pub memory_refuses : (fault : SessionFault) (file : Text) (journal : Option Text) → length file ≤ file_limit → fault ≡ Memory → RefusesOpen fault file journal
memory_refuses fault file journal short is = subst (λ (f : SessionFault). RefusesOpen f file journal) (sym is) (memory_refuses_any file journal short)
