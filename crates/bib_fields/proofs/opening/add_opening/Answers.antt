use Rattle.std.proofs.Common.{ap}
use Rattle.bib_scan.specs.View.{View}
use Rattle.bib_fields.proofs.Openings.{opening-written}
use Rattle.bib_fields.proofs.opening.add_opening.Goals as goal

pub returns : goal.returns
returns c e trail is seen =
    opening-written e c.args.item.now.body c.args.item.now.type_name c.args.type_name.now c.in-Some.before.now c.in-Some.after.now c.args.item.now.key_at
    c.args.out.now.items c.extend_from_slice.new.self.items c.extend_from_slice-2.new.self.items c.extend_from_slice-3.new.self.items is
    (ap (λ (v : View). v.body) seen) (ap (λ (v : View). v.type_name) seen) (ap (λ (v : View). v.key_at) seen) c.in-Some.ensures.0 c.in-Some.ensures.1
    c.in_ok-extend_from_slice.ensures.items c.in_ok-extend_from_slice-2.ensures.items c.in_ok-extend_from_slice-3.ensures.items
