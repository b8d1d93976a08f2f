use Rattle.std.proofs.Common.{◌≡◌, map, filter, take, List, ℕ, Bor}
use Rattle.bib_persons.specs.Persons.{has_many_commas}
use Rattle.bib_persons.proofs.persons.refused_names.Given as goal

abbrev pub invariant-names : goal.invariant-names
invariant-names l = map {A = Bor (List ℕ)} {B = List ℕ} (λ n. n.now) l.refused.items ≡ filter has_many_commas (map {A = Bor (List ℕ)} {B = List ℕ} (λ n. n.now) (take l.name-index l.name-items))
