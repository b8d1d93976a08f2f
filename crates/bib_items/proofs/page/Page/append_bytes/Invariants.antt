use Rattle.bib_items.proofs.Words.{◌≡◌, ◌++◌, flat_map, between, kept_bytes}
use Rattle.bib_items.proofs.page.Page.append_bytes.Given as goal

abbrev pub invariant-append : goal.invariant-append
invariant-append l = l.out.items ≡ l.fn.out.items ++ flat_map kept_bytes (between l.from l.k l.self)
