use Rattle.std.proofs.Common.{◌++◌, sym, ◌∙◌, ap}
use Rattle.bib_spec.specs.Text.{Text}
use Rattle.bib_places.specs.OwnedLabels.{owned_seen}
use Rattle.bib_places.specs.ConflictsSeen.{change_seen, conflict_seen}
use Rattle.bib_places.proofs.Lists.{gathered-more, gathered-all, flat_map-map}
use Rattle.merge_spec.specs.Conflicts as conflicts
use Rattle.bib_places.specs.declared.conflicts.Conflict.{Conflict}
use Rattle.merge_run.specs.Lines.{change_lines}
use Rattle.merge_run.proofs.lines.add_conflicts.Goals as goal

pub conflicts-preserved : goal.conflicts-preserved
conflicts-preserved c =
    gathered-more (λ k. change_lines (owned_seen k.label) (change_seen k.change)) c.args.out.now.items c.args.conflicts.now c.conflicts.k c.index-conflicts-k.result c.conflicts.out.items c.add_lines.new.out.items c.conflicts-test.true
    (c.in_ok-add_lines.ensures ∙ ap (λ (k : Conflict). c.conflicts.out.items ++ change_lines (owned_seen k.label) (change_seen k.change)) c.index-conflicts-k.is) c.conflicts.invariant

pub returns : goal.returns
returns c =
    gathered-all (λ k. change_lines (owned_seen k.label) (change_seen k.change)) c.args.out.now.items c.args.conflicts.now c.conflicts.k c.conflicts.out.items c.conflicts-test.false c.conflicts.invariant
    ∙ ap (λ (t : Text). c.args.out.now.items ++ t) (sym (flat_map-map (λ (k : conflicts.Conflict). change_lines k.label k.change) conflict_seen c.args.conflicts.now))
