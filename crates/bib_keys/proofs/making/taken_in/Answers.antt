use Rattle.bib_keys.proofs.Words.{◌++◌, length, ap, arith, Reading, Reads, entries_of, dangling_texts}
use Rattle.bib_keys.proofs.EntryCounts.{few-entries}
use Rattle.bib_keys.proofs.making.taken_in.Goals as goal

pub add_all-requires : goal.add_all-requires
add_all-requires g c =
    let db : Reading = c.opens.ensures.0 in
    let reads : Reads c.args.db.now db = c.opens.ensures.1.reads in
    let few = few-entries db in
    let bytes = ap length reads.bytes in
    let short = c.opens.ensures.1.short in
    let dangling = c.in_ok-taken.ensures.count db reads in
    omega (arith, few, bytes, short, dangling)

pub add_entries-requires : goal.add_entries-requires
add_entries-requires g c db reads =
    let few = few-entries db in
    let bytes = ap length reads.bytes in
    let short = c.opens.ensures.1.short in
    let dangling = c.in_ok-taken.ensures.count db reads in
    let all = c.in_ok-add_all.ensures.count in
    omega (arith, few, bytes, short, dangling, all)

pub returns-clause-taken : goal.returns-clause-taken
returns-clause-taken g c db reads =
    c.in_ok-add_entries.ensures.taken db reads (c.args.others.now ++ dangling_texts (entries_of db)) (c.in_ok-add_all.ensures.taken (dangling_texts (entries_of db)) (c.in_ok-taken.ensures.taken db reads))

pub returns-clause-count : goal.returns-clause-count
returns-clause-count g c =
    let db : Reading = c.opens.ensures.0 in
    let reads : Reads c.args.db.now db = c.opens.ensures.1.reads in
    let few = few-entries db in
    let bytes = ap length reads.bytes in
    let short = c.opens.ensures.1.short in
    let dangling = c.in_ok-taken.ensures.count db reads in
    let all = c.in_ok-add_all.ensures.count in
    let entries = c.in_ok-add_entries.ensures.count db reads in
    omega (arith, few, bytes, short, dangling, all, entries)
