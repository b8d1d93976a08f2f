use Rattle.bib_steps.proofs.Words.{get_or, sym, arith, get_or_default_zero, moved}
use Rattle.std.proofs.lemmas.List.Edits.{map_over_more}
use Rattle.bib_steps.proofs.ends.move_places.Goals as goal

pub all-preserved : goal.all-preserved
all-preserved c =
    let place = get_or c.all.places c.all.i 0 in
    map_over_more (moved c.args.old c.args.new) c.args.places.now c.all.places c.all.i place c.all-test.true c.all.invariant
    (sym (get_or_default_zero c.all.places c.all.i place (omega (arith, c.all-test.true, c.all.auto.places))))
