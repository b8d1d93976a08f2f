use Rattle.bib_items.proofs.Words.{◌≡◌, ◌++◌, flat_map, between, kept_bytes}
use Rattle.bib_items.proofs.list.ItemList.append_bytes.Given as goal

abbrev pub invariant-append : goal.invariant-append
invariant-append g l = l.out.items ≡ l.fn.out.items ++ flat_map kept_bytes (between l.from l.n (g.Self.ItemList.items l.self))
