use Rattle.bib_answers.proofs.Words.{◌≡◌, [], Some, length, take, OfReading, IsKnown}
use Rattle.std.proofs.Common.{slice_index_or}
use Rattle.bib_answers.specs.Raw.{standing_of}
use Rattle.bib_answers.proofs.StandingItems.{standings, IsCounted}
use Rattle.bib_answers.proofs.standings.standings_in.Given as goal

abbrev pub invariant-items : goal.invariant-items
invariant-items l =
    IsKnown (slice_index_or l.files.files l.reached.file []) l.reached.known
    × OfReading l.db (λ r. (l.all.items ≡ take l.m (standings (standing_of (Some l.files) r) (length r.items))) × IsCounted l.files.files r l.m l.reached.file l.count)
