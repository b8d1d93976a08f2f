use Rattle.std.proofs.Common.{sym, ◌∙◌}
use Rattle.std.proofs.lemmas.Bool.{and_from}
use Rattle.merge_spec.specs.Units.{units_of, spaced_of}
use Rattle.merge_spec.specs.Merged.{unit_at}
use Rattle.bib_places.proofs.settled.is_settled.Goals as goal

pub returns : goal.returns
returns g c may rb ro rt sb so st labels counts =
    let b = unit_at (units_of rb) c.args.place.now.base in
    let o = unit_at (units_of ro) c.args.place.now.ours in
    let t = unit_at (units_of rt) c.args.place.now.theirs in
    let see_b = c.unit_at.ensures rb (spaced_of rb) sb.are in
    let see_o = c.unit_at-2.ensures ro (spaced_of ro) so.are in
    let see_t = c.unit_at-3.ensures rt (spaced_of rt) st.are in
    and_from _ _
    (and_from _ _ (sym (c.have_one_label.ensures rb ro rt b o t see_b see_o see_t) ∙ c.if-not-have_one_label.false)
    (c.in_ok-may.ensures may rb sb.reads ro so.reads rt st.reads labels counts b o t see_b see_o see_t))
    (sym c.is_white.ensures ∙ c.if-not-is_white.false)
