use Rattle.bib_units.specs.Labels.{label_seen}
use Rattle.bib_fields.specs.PartsSeen.{part_seen}
use Rattle.bib_places.proofs.Lists.{IsGatheredTo}
use Rattle.merge_run.specs.Lines.{line, part_words}
use Rattle.merge_run.proofs.lines.add_part_lines.Given as goal

abbrev pub invariant-parts : goal.invariant-parts
invariant-parts l = IsGatheredTo (λ part. line (part_words (label_seen l.label) (part_seen part))) l.fn.out.items l.parts l.k l.out.items
