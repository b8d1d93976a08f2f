use Rattle.bib_order.proofs.Words.{◌≡◌, ◌≤◌, ◌<◌, ◌+◌, ◌^◌, ℕ, List, Some, length, set, ap, sym, subst, arith, joined, Lacks, IsOrdered}
use Rattle.bib_order.proofs.Ordering.{ordered_insert}
use Rattle.bib_order.proofs.id_pages.IdPages.take_in.Goals as goal

pub invariant_of-self-2 : goal.invariant_of-self-2
invariant_of-self-2 c =
    let sheets = c.self.inside.sheets.items in
    let id = c.args.id in
    let name = c.in_ok-name.name in
    let within : c.args.n ≤ length (joined sheets) = omega (arith, c.requires.within, ap (length {A = ℕ}) c.self.view_is) in
    let lacks : Lacks (joined sheets) id = subst (λ (l : List ℕ). Lacks l id) (sym c.self.view_is) c.requires.spare in
    let more : c.in-Some.count ≡ c.self.inside.count + 1 = first_of (omega (arith, c.in-Some.ensures), grind (arith, c.in-Some.ensures)) in
    let fits : c.self.inside.count + 1 < 2 ^ 64 = first_of (omega arith, grind arith) in
    subst (λ (m : ℕ). IsOrdered c.put.new.sheets.items (set c.put.new.homes.items id (Some name)) m) (sym more)
    (ordered_insert sheets c.put.new.sheets.items c.self.inside.homes.items c.make_place.new.homes.items c.put.new.homes.items c.self.inside.count c.args.n id name
    c.self.invariant lacks c.in_ok-make_place.ensures.told c.in_ok-make_place.ensures.within c.in_ok-name.ensures.told within fits c.in_ok-name.ensures.ok)
