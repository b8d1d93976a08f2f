use Rattle.std.proofs.Common.{◌++◌, ◌∙◌, ap}
use Rattle.bib_spec.specs.Text.{Text}
use Rattle.merge_spec.specs.ThreeWay.{entry_of}
use Rattle.bib_fields.specs.MixSeen.{mix_bytes}
use Rattle.bib_places.proofs.ItemUnits.{item-of, item-entry, bytes-units}
use Rattle.bib_merge.proofs.meeting.mixed_body.Goals as goal

pub returns-in_ok-add_mixed-in-Some-Some : goal.returns-in_ok-add_mixed-in-Some-Some
returns-in_ok-add_mixed-in-Some-Some c ro reads_o rt reads_t o t see_o see_t =
    let in_o = item-entry ro c.in-Some-Some.n o (item-of ro c.item_of.result c.in-Some-Some.n o c.in-Some-Some.is-0 (c.item_of.ensures.item ro o see_o)) in
    let in_t = item-entry rt c.in-Some-Some.m t (item-of rt c.item_of-2.result c.in-Some-Some.m t c.in-Some-Some.is-1 (c.item_of-2.ensures.item rt t see_t)) in
    bytes-units o t _ _ c.args.mix c.new-body.result.items c.add_mixed.new.out.items in_o.2 in_t.2 (c.in_ok-add_mixed-in-Some-Some.ensures ro reads_o rt reads_t in_o.0 in_t.0 _ _ in_o.1 in_t.1)
    ∙ ap (λ (l : Text). l ++ mix_bytes (entry_of o) (entry_of t) c.args.mix) c.new-body.ensures.items
