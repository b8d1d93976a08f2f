use Rattle.std.proofs.Common.{All, take}
use Rattle.bib_data.specs.Depths.{AsksWithDepth}
use Rattle.edit_tests.proofs.turns.all_ask_with_depth.Given as goal

abbrev pub invariant-loop-request : goal.invariant-loop-request
invariant-loop-request l = All AsksWithDepth (take l.request-index l.requests)
