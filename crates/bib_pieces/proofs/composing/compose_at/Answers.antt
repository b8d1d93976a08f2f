use Rattle.std.proofs.Common.{rules, ◌≡◌, ◌+◌, ◌-◌, length, take, refl, sym, ◌∙◌, ap, ap₂}
use Rattle.bib_spec.specs.Pieces.{applied}
use Rattle.history_spec.specs.Shifting.{all_moved_back}
use Rattle.history_spec.specs.Composing.{composed_at, group_old, group_new}
use Rattle.bib_pieces.proofs.Advancing.{first_new_bytes, composing_start, composing_more, composing_same}
use Rattle.bib_pieces.proofs.composing.compose_at.Goals as goal

pub reverse_from-requires-clause-new_bytes : goal.reverse_from-requires-clause-new_bytes
reverse_from-requires-clause-new_bytes c = first_new_bytes c.args.from c.args.middle_from c.args.first.now c.args.second.now c.requires

pub groups-init : goal.groups-init
groups-init c =
    composing_same (composed_at c.args.from c.args.middle_from c.args.first.now c.args.second.now) _ c.as_slice-backs.result.now _ c.args.second.now _ c.new-pieces.result.items c.args.from _ c.args.middle_from _
    (c.as_slice-backs.ensures ∙ c.in_ok-back.ensures) refl c.new-pieces.ensures.items refl refl
    (composing_start c.args.from c.args.middle_from c.args.first.now c.args.second.now c.requires)

pub groups-preserved : goal.groups-preserved
groups-preserved c =
    let old_is : c.in_ok-old.old.items ≡ group_old (record { place = c.in_ok-group.group.place; covered = c.in_ok-group.group.covered.items; backs = take c.in_ok-group.group.backs c.groups.backs.now; ons = take c.in_ok-group.group.ons c.groups.ons.now })
    = c.in_ok-old.ensures ∙ ap₂ (λ ps t. applied (all_moved_back c.in_ok-group.group.place ps) t) c.split_at.ensures.front c.as_slice-covered.ensures.value in
    let new_is : c.in_ok-new.new.items ≡ group_new (record { place = c.in_ok-group.group.place; covered = c.in_ok-group.group.covered.items; backs = take c.in_ok-group.group.backs c.groups.backs.now; ons = take c.in_ok-group.group.ons c.groups.ons.now })
    = c.in_ok-new.ensures ∙ ap₂ (λ ps t. applied (all_moved_back c.in_ok-group.group.place ps) t) c.split_at-in-groups.ensures.front c.as_slice-covered.ensures.value in
    let long : c.len.result ≡ length c.in_ok-old.old.items = search rules in
    composing_same (composed_at c.args.from c.args.middle_from c.args.first.now c.args.second.now) _ c.split_at.result.1.now _ c.split_at-in-groups.result.1.now _ c.push.new.self.items _ _ _ _
    c.split_at.ensures.back c.split_at-in-groups.ensures.back c.in_ok-push.ensures.items
    (ap (λ n. c.groups.end + (c.in_ok-group.group.place - c.groups.middle_end) + n) (long ∙ ap length (sym c.from_vec.ensures)))
    (ap (λ t. c.in_ok-group.group.place + length t) c.as_slice-covered.ensures.value)
    (composing_more (composed_at c.args.from c.args.middle_from c.args.first.now c.args.second.now) c.groups.backs.now c.groups.ons.now c.groups.pieces.items c.groups.end c.groups.middle_end c.in_ok-group.group.place
    c.in_ok-group.group.covered.items c.in_ok-group.group.backs c.in_ok-group.group.ons c.groups.invariant c.in_ok-group.ensures.groups c.from_vec.result c.from_vec-in-groups.result
    (c.from_vec.ensures ∙ old_is) (c.from_vec-in-groups.ensures ∙ new_is))
