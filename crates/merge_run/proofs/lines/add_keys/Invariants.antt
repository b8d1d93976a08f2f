use Rattle.bib_places.proofs.Lists.{IsGatheredTo}
use Rattle.merge_run.specs.Lines.{key_line}
use Rattle.merge_run.proofs.lines.add_keys.Given as goal

abbrev pub invariant-keys : goal.invariant-keys
invariant-keys l = IsGatheredTo key_line l.fn.out.items l.keys l.k l.out.items
