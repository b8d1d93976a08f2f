use Rattle.std.proofs.Common.{◌++◌, sym, ◌∙◌, ap}
use Rattle.bib_spec.specs.Text.{Text}
use Rattle.bib_units.specs.Labels.{label_seen}
use Rattle.bib_fields.specs.declared.telling.ChangedPart.{ChangedPart}
use Rattle.bib_fields.specs.PartsSeen.{part_seen}
use Rattle.bib_places.proofs.Lists.{gathered-more, gathered-all, flat_map-map}
use Rattle.merge_run.specs.Lines.{line, part_words}
use Rattle.merge_run.proofs.lines.add_part_lines.Goals as goal

pub parts-preserved : goal.parts-preserved
parts-preserved c =
    gathered-more (λ part. line (part_words (label_seen c.args.label) (part_seen part))) c.args.out.now.items c.args.parts.now c.parts.k c.index-parts-k.result c.parts.out.items c.add_part_line.new.out.items c.parts-test.true
    (c.in_ok-add_part_line.ensures ∙ ap (λ (part : ChangedPart). c.parts.out.items ++ line (part_words (label_seen c.args.label) (part_seen part))) c.index-parts-k.is) c.parts.invariant

pub returns : goal.returns
returns c =
    gathered-all (λ part. line (part_words (label_seen c.args.label) (part_seen part))) c.args.out.now.items c.args.parts.now c.parts.k c.parts.out.items c.parts-test.false c.parts.invariant
    ∙ ap (λ (t : Text). c.args.out.now.items ++ t) (sym (flat_map-map (λ part. line (part_words (label_seen c.args.label) part)) part_seen c.args.parts.now))
