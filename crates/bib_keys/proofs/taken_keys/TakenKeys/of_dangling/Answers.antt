use Rattle.bib_keys.proofs.Words.{[], List, length, ap, arith, append-nil, subst, Text, entries_of, dangling_texts, AreTaken}
use Rattle.bib_keys.proofs.EntryCounts.{few-entries}
use Rattle.bib_keys.proofs.taken_keys.TakenKeys.of_dangling.Goals as goal

pub add_dangling-requires : goal.add_dangling-requires
add_dangling-requires g c db reads =
    let none = c.none-taken.ensures.count in
    let few = few-entries db in
    let bytes = ap length reads.bytes in
    let short = c.opens.ensures.1.short in
    omega (arith, none, few, bytes, short)

pub returns-clause-taken : goal.returns-clause-taken
returns-clause-taken g c db reads =
    subst (λ (l : List Text). AreTaken l c.add_dangling.new.self) (append-nil (dangling_texts (entries_of db))) (c.in_ok-add_dangling.ensures.taken db reads [] c.none-taken.ensures)

pub returns-clause-count : goal.returns-clause-count
returns-clause-count g c db reads =
    let none = c.none-taken.ensures.count in
    let dangling = c.in_ok-add_dangling.ensures.count db reads in
    omega (arith, none, dangling)
