use Rattle.bib_order.proofs.Words.{◌≡◌, length, IsTold}
use Rattle.bib_order.proofs.id_pages.make_place.Given as goal

abbrev pub invariant-grow : goal.invariant-grow
invariant-grow l = IsTold l.fn.homes.items l.homes.items × (length l.homes.items ≡ l.k)
