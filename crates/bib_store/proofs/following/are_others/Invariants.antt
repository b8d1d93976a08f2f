use Rattle.bib_store.proofs.Words.{◌-◌, List, take, bodies_between, AreItemsOf, DefineNothing}
use Rattle.bib_spec.specs.Reading.{Item}
use Rattle.bib_store.proofs.following.are_others.Given as goal

abbrev pub invariant-pass : goal.invariant-pass
invariant-pass g l = (new : List Item) → AreItemsOf (bodies_between l.from l.to (g.L.ItemList.items l.items)) new → DefineNothing (take (l.k - l.from) new)
