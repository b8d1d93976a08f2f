use Rattle.merge_spec.specs.Units.{units_of, spaced_of}
use Rattle.merge_spec.specs.Merged.{unit_at}
use Rattle.bib_places.proofs.plain.plain_place.Goals as goal

pub returns-clause-may : goal.returns-clause-may
returns-clause-may g c rb ro rt sb so st labels counts =
    c.in_ok-outcome.ensures rb sb.reads ro so.reads rt st.reads labels counts (unit_at (units_of rb) c.args.b) (unit_at (units_of ro) c.args.o) (unit_at (units_of rt) c.args.t)
    (c.unit_at.ensures rb (spaced_of rb) sb.are) (c.unit_at-our_unit.ensures ro (spaced_of ro) so.are) (c.unit_at-their_unit.ensures rt (spaced_of rt) st.are)
