use Rattle.bib_answers.proofs.Words.{refl}
use Rattle.bib_answers.proofs.check.check_in.Goals as goal

pub returns : goal.returns
returns c = λ r reads.
    rw (c.done.ensures, c.from_vec.ensures, c.in_ok-out.ensures, c.as_bytes.ensures.value, c.in_ok-counts.ensures.ok, c.saturating_sub.ensures, c.saturating_sub-2.ensures, c.item_count.ensures r reads, c.entry_count.ensures r reads, c.preamble_count.ensures r reads, c.in_ok-found.ensures.reports r reads, c.in_ok-found.ensures.definitions r reads, c.in_ok-found.ensures.comments r reads) refl
