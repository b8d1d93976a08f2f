use Rattle.std.proofs.Common.{◌+◌, ◌≤◌, All, length}
use Rattle.bib_data.specs.Depths.{AsksWithDepth}
use Rattle.bib_script.specs.Script.{said_of}
use Rattle.bib_script.proofs.SaidLemmas.{SaysOn}
use Rattle.bib_script.proofs.script.read_script.Given as goal

abbrev pub invariant-line : goal.invariant-line
invariant-line l = record {
  says : SaysOn (said_of l.fn.script) l.requests.items l.lines.items l.number l.rest;
  depths : All AsksWithDepth l.requests.items;
  counted : l.number + length l.rest ≤ length l.fn.script;
}

abbrev pub decreases-line : goal.decreases-line
decreases-line l = length l.rest
