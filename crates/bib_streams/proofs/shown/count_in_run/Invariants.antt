use Rattle.std.proofs.Common.{◌≡◌, ◌≤◌, take}
use Rattle.std.specs.List.{count_by}
use Rattle.bib_streams.specs.Shown.{may_begin}
use Rattle.bib_streams.proofs.shown.count_in_run.Given as goal

abbrev pub invariant-bytes : goal.invariant-bytes
invariant-bytes l = (l.count ≡ count_by may_begin (take l.byte-index l.run)) × (l.count ≤ l.byte-index)
