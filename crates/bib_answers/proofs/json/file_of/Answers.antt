use Rattle.bib_answers.proofs.Words.{entries_of, length, ◌<◌}
use Rattle.std.proofs.Common.{arith}
use Rattle.bib_store.proofs.EntryItems.{entry_within}
use Rattle.bib_answers.proofs.json.file_of.Goals as goal

pub item_place-requires : goal.item_place-requires
item_place-requires c = λ db reads.
    let within : c.args.n < length (entries_of db) = c.requires db reads in
    let number = entry_within db c.args.n c.entry_item.result within (c.entry_item.ensures db reads) in
    omega (arith, number)
