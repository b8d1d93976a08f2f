use Rattle.bib_keys.proofs.Words.{◌+◌, ◌≤◌, length, AllByRecursion, name_limit, entries_of, dangling_texts, OfReading, AreParents}
use Rattle.bib_keys.proofs.MadeKeyLists.{AreMadeTo, bases_of}
use Rattle.bib_keys.proofs.making.made_keys.Given as goal

abbrev pub invariant-entries : goal.invariant-entries
invariant-entries g l =
    OfReading l.db (λ r. AreMadeTo (dangling_texts (entries_of r)) (bases_of l.depth (entries_of r)) l.n l.taken l.keys.items) × AllByRecursion (λ key. length key ≤ name_limit) l.keys.items × OfReading l.db (λ r. l.taken.count ≤ length (entries_of r) + l.n) × AreParents l.db l.parents
