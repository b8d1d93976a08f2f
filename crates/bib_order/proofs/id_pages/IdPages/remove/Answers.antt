use Rattle.bib_order.proofs.Words.{◌<◌, ℕ, length, ap, arith, joined}
use Rattle.bib_order.proofs.Ordering.{ordered_remove}
use Rattle.bib_order.proofs.id_pages.IdPages.remove.Goals as goal

pub invariant_of-self : goal.invariant_of-self
invariant_of-self c =
    let sheets = c.self.inside.sheets.items in
    let within : c.args.n < length (joined sheets) = omega (arith, c.requires, ap (length {A = ℕ}) c.self.view_is) in
    let id = c.take_away-id.ensures.id in
    ordered_remove sheets c.take_away-id.new.sheets.items c.self.inside.homes.items c.self.inside.count c.args.n c.take_away-id.result c.self.invariant within id c.take_away-id.ensures.list

pub invariant_of-self-else-len-capacity : goal.invariant_of-self-else-len-capacity
invariant_of-self-else-len-capacity c =
    let sheets = c.self.inside.sheets.items in
    let within : c.args.n < length (joined sheets) = omega (arith, c.requires, ap (length {A = ℕ}) c.self.view_is) in
    let id = c.take_away-id.ensures.id in
    ordered_remove sheets c.take_away-id.new.sheets.items c.self.inside.homes.items c.self.inside.count c.args.n c.take_away-id.result c.self.invariant within id c.take_away-id.ensures.list
