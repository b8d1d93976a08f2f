-- What was read of a source, and what was written.
use Rattle.bib_run.proofs.Words.{◌≡◌, ◌+◌, true, length, Option, refl, subst, sym, arith, take_all, Appends, file_limit, Text, Command, ReadsUpTo, WritesPrefix}
use Rattle.std.proofs.Common.{ap₂}
use Rattle.bib_run.specs.declared.reading.Sources.{Sources}
use Rattle.bib_run.specs.Views.{TapView}
use Rattle.bib_run.specs.Sources.{SourcesView, WasRead, HasInput, HasJournal, HasRead, Keeps}
use Rattle.bib_run.proofs.WholeFile.{source_bytes}

-- the front of a source was kept
pub keeps_front : (old new : TapView) (kept : Text) → ReadsUpTo (file_limit + 1) old.bytes new.bytes kept → new.failed ≡ old.failed → Keeps (WasRead old new) kept
keeps_front old new kept reads sound =
    let from = source_bytes (file_limit + 1) old.bytes new.bytes kept reads in
    record { bytes = from.bytes; hold = record { read = from.has; sound = sound }; kept_is = sym from.front }

-- the bytes of a file, a journal and an input
abbrev sources_of : Text → Option Text → Text → Sources
sources_of file journal input = record { file = file; journal = journal; input = input }

-- each source was read
pub has_read : (command : Command) (old new : SourcesView) (file : Text) (journal : Option Text) (input : Text) → Keeps (WasRead old.file new.file) file
    → HasJournal command old.journal new.journal journal → Keeps (HasInput command old.input new.input) input → HasRead command old new (sources_of file journal input)
has_read command old new file journal input keeps_file read_journal keeps_input = record {
  bytes = sources_of keeps_file.bytes journal keeps_input.bytes;
  hold = record { file = keeps_file.hold; journal = read_journal; input = keeps_input.hold };
  kept_is = ap₂ (λ (f i : Text). sources_of f journal i) keeps_file.kept_is keeps_input.kept_is;
}

-- all was written
pub Appends-whole : (before after : Option Text) (bytes : Text) → WritesPrefix before after bytes true → Appends before after bytes
Appends-whole before after bytes w =
    let count_is : w.count ≡ length bytes = w.whole refl in
    subst (Appends before after) (take_all w.count bytes (omega (arith, count_is))) w.given
