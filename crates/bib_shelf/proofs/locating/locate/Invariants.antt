use Rattle.std.proofs.Common.{◌-◌}
use Rattle.bib_shelf.proofs.Locates.{IsBetween}
use Rattle.bib_shelf.proofs.locating.locate.Given as goal

abbrev pub invariant-search : goal.invariant-search
invariant-search l = IsBetween l.spans l.place l.file l.end

abbrev pub decreases-search : goal.decreases-search
decreases-search l = l.end - l.file
