use Rattle.std.proofs.Common.{◌≡◌, true, map, ap, sym, subst, ◌∙◌}
use Rattle.std.proofs.lemmas.Result.{err_from_is_err_and}
use Rattle.bib_spec.specs.Text.{Text}
use Rattle.bib_spec.specs.Texts.{IsOpenable}
use Rattle.merge_spec.specs.Units.{units_of}
use Rattle.merge_spec.specs.Merged.{is_merge}
use Rattle.merge_spec.specs.Conflicts.{conflicts_of}
use Rattle.bib_places.specs.OwnedLabels.{owned_seen}
use Rattle.bib_places.specs.PlacesSeen.{IsSide, place_seen}
use Rattle.bib_merge.specs.Merges.{RefusesText, IsOrMemory}
use Rattle.bib_merge.proofs.RefusedTexts.{weaker}
use Rattle.bib_merge.proofs.merging.merge_sides.Goals as goal

pub returns-clause-merged : goal.returns-clause-merged
returns-clause-merged c rm reads_m rb reads_b ro rt so st =
    let side_o = subst (IsSide ro c.args.o.now) (sym c.as_slice-our_units.ensures.value) so in
    let side_t = subst (IsSide rt c.args.t.now) (sym c.as_slice-their_units.ensures.value) st in
    record {
      places = map (place_seen (units_of ro) (units_of rt)) c.as_slice-places.result.now;
      space = c.in_ok-settled.settled.space.now;
      merge = subst (λ ps. is_merge (map owned_seen c.args.given.now) (units_of rb) (units_of ro) (units_of rt) (map (place_seen (units_of ro) (units_of rt)) ps) ≡ true) (sym c.as_slice-places.ensures.value) (c.in_ok-settled.ensures.merge rb reads_b ro rt side_o side_t);
      bytes = sym (reads_m.bytes ∙ c.in_ok-file.ensures.opened ∙ c.in_ok-text.ensures ro rt side_o side_t);
      items = c.in_ok-lost.ensures.items rm reads_m ro rt side_o side_t;
      told = ap (λ ps. conflicts_of (units_of rb) (units_of ro) (units_of rt) (map (place_seen (units_of ro) (units_of rt)) ps)) c.as_slice-places.ensures.value ∙ sym (c.in_ok-settled.ensures.conflicts rb reads_b ro rt side_o side_t);
    }

pub returns-clause-opens : goal.returns-clause-opens
returns-clause-opens c = subst IsOpenable (sym c.in_ok-file.ensures.opened) c.in_ok-file.ensures.opens

pub returns-in_err-settled-clause-fault : goal.returns-in_err-settled-clause-fault
returns-in_err-settled-clause-fault c =
    let p = err_from_is_err_and c.from_residual.result c.from_residual.ensures.1 in
    rw (p.1, p.2) IsOrMemory.no_memory

pub returns-in_err-text-clause-fault : goal.returns-in_err-text-clause-fault
returns-in_err-text-clause-fault c =
    let p = err_from_is_err_and c.from_residual-in_err-text.result c.from_residual-in_err-text.ensures.1 in
    rw (p.1, p.2) IsOrMemory.no_memory

pub returns-in_err-file-clause-fault : goal.returns-in_err-file-clause-fault
returns-in_err-file-clause-fault c =
    let p = err_from_is_err_and c.from_residual-in_err-file.result c.from_residual-in_err-file.ensures.1 in
    let refused = weaker _ _
    (λ fault unopened rb reads_b ro rt so st.
    let side_o = subst (IsSide ro c.args.o.now) (sym c.as_slice-our_units.ensures.value) so in
    let side_t = subst (IsSide rt c.args.t.now) (sym c.as_slice-their_units.ensures.value) st in
    record {
      places = map (place_seen (units_of ro) (units_of rt)) c.as_slice-places.result.now;
      space = c.in_ok-settled.settled.space.now;
      merge = subst (λ ps. is_merge (map owned_seen c.args.given.now) (units_of rb) (units_of ro) (units_of rt) (map (place_seen (units_of ro) (units_of rt)) ps) ≡ true) (sym c.as_slice-places.ensures.value) (c.in_ok-settled.ensures.merge rb reads_b ro rt side_o side_t);
      text = c.in_ok-text.text;
      bytes = sym (c.in_ok-text.ensures ro rt side_o side_t);
      refused = RefusesText.unopened fault unopened;
    })
    _ c.in_err-file.ensures.fault in
    rw (p.1, p.2) refused

pub returns-in_err-lost-clause-fault : goal.returns-in_err-lost-clause-fault
returns-in_err-lost-clause-fault c =
    let p = err_from_is_err_and c.from_residual-in_err-lost.result c.from_residual-in_err-lost.ensures.1 in
    let refused = weaker _ _
    (λ fault refuses rb reads_b ro rt so st.
    let side_o = subst (IsSide ro c.args.o.now) (sym c.as_slice-our_units.ensures.value) so in
    let side_t = subst (IsSide rt c.args.t.now) (sym c.as_slice-their_units.ensures.value) st in
    record {
      places = map (place_seen (units_of ro) (units_of rt)) c.as_slice-places.result.now;
      space = c.in_ok-settled.settled.space.now;
      merge = subst (λ ps. is_merge (map owned_seen c.args.given.now) (units_of rb) (units_of ro) (units_of rt) (map (place_seen (units_of ro) (units_of rt)) ps) ≡ true) (sym c.as_slice-places.ensures.value) (c.in_ok-settled.ensures.merge rb reads_b ro rt side_o side_t);
      text = c.in_ok-text.text;
      bytes = sym (c.in_ok-text.ensures ro rt side_o side_t);
      refused = subst (λ (t : Text). RefusesText ro rt (map (place_seen (units_of ro) (units_of rt)) c.as_slice-places.result.now) t fault) c.in_ok-file.ensures.opened (refuses ro rt side_o side_t);
    })
    _ c.in_err-lost.ensures.fault in
    rw (p.1, p.2) refused
