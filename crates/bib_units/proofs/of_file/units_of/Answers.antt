use Rattle.std.proofs.Common.{◌≡◌, ◌∙◌, ◌+◌, ◌≤◌, ◌<◌, List, [], length, drop, refl, sym, ap, subst}
use Rattle.std.specs.List.{flat_map}
use Rattle.bib_spec.specs.Text.{Text}
use Rattle.bib_spec.specs.Texts.{months}
use Rattle.bib_scan.specs.View.{View}
use Rattle.merge_spec.specs.Units.{text_units, front_space}
use Rattle.bib_units.specs.declared.unit_view.UnitView.{UnitView}
use Rattle.bib_units.specs.Comments.{comment_bytes}
use Rattle.bib_units.specs.UnitsSeen.{AreUnits}
use Rattle.bib_units.proofs.CommentsGathered.{comments-next, of-comment, item-len, begins-within}
use Rattle.bib_units.proofs.UnitsOfFile.{slice_get-within, walked-first, walked-next, walked-all}
use Rattle.bib_units.proofs.of_file.units_of.Goals as goal

pub returns-clause-space : goal.returns-clause-space
returns-clause-space g c r reads = c.split_front.ensures.space ∙ ap front_space (c.front-front.ensures r reads)

pub items-init : goal.items-init
items-init g c r reads =
    walked-first r c.as_slice-rest.result.now c.add_text.new.units.items (c.as_slice-rest.ensures ∙ c.requires r reads)
    (subst (λ t. AreUnits r c.add_text.new.units.items (text_units months t)) (c.front-front.ensures r reads)
    (c.in_ok-add_text.ensures r months [] (subst (λ (l : List UnitView). AreUnits r l []) (sym c.in_ok-units.ensures.items) tt)))

pub add_item-requires : goal.add_item-requires
add_item-requires g c comment =
    let it = c.opens.ensures in
    let r = it.0 in
    let reads = it.1.reads in
    let item = slice_get-within r.items c.items.n (subst (λ k. c.items.n < k) (c.item_count-n-end.ensures r reads) c.items-test.true) in
    let seen = c.item-item.ensures r reads item.0 item.1 in
    begins-within (comment_bytes item.0) (flat_map comment_bytes (drop (c.items.n + 1) r.items)) c.items.rest.now (length c.item-item.result.body + length c.item-item.result.trail)
    (item-len c.item-item.result item.0 c.item-item.result.body c.item-item.result.trail seen refl refl ∙ sym (ap length (of-comment item.0 (sym (ap (λ (v : View). v.kind) seen) ∙ comment))))
    ((c.items.invariant r reads).rest_is ∙ comments-next r.items c.items.n item.0 item.1)

pub items-preserved : goal.items-preserved
items-preserved g c r reads =
    let item = slice_get-within r.items c.items.n (subst (λ k. c.items.n < k) (c.item_count-n-end.ensures r reads) c.items-test.true) in
    let is = c.items.invariant r reads in
    let seen = c.item-item.ensures r reads item.0 item.1 in
    let more = flat_map comment_bytes (drop (c.items.n + 1) r.items) in
    let rest = is.rest_is ∙ comments-next r.items c.items.n item.0 item.1 in
    walked-next r c.items.n c.items.rest.now c.in_ok-rest.rest.now c.items.units.items c.add_item.new.units.items item.0 item.1 is
    (c.in_ok-rest.ensures.rest item.0 more seen rest)
    (c.in_ok-rest.ensures.units r item.0 more is.before item.1 seen rest is.are)

pub returns-clause-units : goal.returns-clause-units
returns-clause-units g c r reads =
    walked-all r c.items.n c.items.rest.now c.items.units.items (subst (λ k. k ≤ c.items.n) (c.item_count-n-end.ensures r reads) c.items-test.false) (c.items.invariant r reads)
