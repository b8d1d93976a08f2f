use Rattle.std.proofs.Common.{refl}
use Rattle.bib_units.proofs.UnitsAdded.{plain-added}
use Rattle.bib_units.proofs.of_item.add_plain.Goals as goal

pub returns : goal.returns
returns c r i before at bytes trail other label all =
    plain-added r c.args.n i c.args.units.now.items c.push.new.self.items c.add_text.new.units.items before _ c.args.body.now c.args.trail.now at bytes trail other c.in_ok-push.ensures.items refl label refl
    c.split_front.ensures.space (λ macros bs are. c.in_ok-add_text.ensures r macros bs are) all
