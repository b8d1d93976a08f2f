use Rattle.bib_keys.proofs.Words.{◌≤◌, ◌<◌, length, sym, ◌∙◌, ap, subst, arith, AllByRecursion, IfOk-weaker, name_limit, Reading, Reads, entries_of, dangling_texts, record_of, made_base}
use Rattle.bib_keys.proofs.EntryCounts.{few-entries}
use Rattle.bib_keys.proofs.MadeKeyLists.{bases_of, length-bases, base-at, made-none, made-all, pushed-more, pushed-short, was-made}
use Rattle.bib_keys.proofs.Walks.{next-of}
use Rattle.bib_keys.proofs.making.made_keys.Goals as goal

pub entries-init : goal.entries-init
entries-init g c = (
  λ db reads. made-none (dangling_texts (entries_of db)) (bases_of c.args.depth (entries_of db)) c.in_ok-taken.taken c.new-keys.result.items (c.in_ok-taken.ensures.taken db reads) c.new-keys.ensures.items,
  subst (AllByRecursion (λ key. length key ≤ name_limit)) (sym c.new-keys.ensures.items) tt,
  λ db reads. let dangling = c.in_ok-taken.ensures.count db reads in omega (arith, dangling),
  c.none-parents.ensures c.args.db.now,
)

pub make_key-requires-clause-count : goal.make_key-requires-clause-count
make_key-requires-clause-count g c =
    let db : Reading = c.opens.ensures.0 in
    let reads : Reads c.args.db.now db = c.opens.ensures.1.reads in
    let few = few-entries db in
    let bytes = ap length reads.bytes in
    let short = c.opens.ensures.1.short in
    let count = c.entry_count-n-end.ensures db reads in
    let test = c.entries-test.true in
    let taken = c.entries.invariant.2 db reads in
    omega (arith, few, bytes, short, count, test, taken)

pub entries-preserved : goal.entries-preserved
entries-preserved g c = (
  λ db reads.
      let count = c.entry_count-n-end.ensures db reads in
      let test = c.entries-test.true in
      let lt : c.entries.n < length (entries_of db) = omega (arith, count, test) in
      let entry = next-of (entries_of db) c.entries.n lt in
      pushed-more (dangling_texts (entries_of db)) (bases_of c.args.depth (entries_of db)) c.entries.n c.entries.taken c.make_key.new.taken c.entries.keys.items c.push_made.new.keys.items
      (made_base (record_of c.args.depth (entries_of db) c.entries.n entry.0)) c.make_key.result
      (c.entries.invariant.0 db reads) (base-at c.args.depth (entries_of db) c.entries.n entry.0 entry.1)
      (IfOk-weaker c.make_key.result _ _ (λ key h taken are. h db reads entry.0 entry.1 taken are) c.make_key.ensures.key)
      c.make_key.ensures.taken
      c.in_ok-push_made.ensures.pushed,
  pushed-short c.entries.keys.items c.push_made.new.keys.items c.make_key.result c.entries.invariant.1 c.make_key.ensures.short c.in_ok-push_made.ensures.pushed,
  λ db reads.
      let taken = c.entries.invariant.2 db reads in
      let more = was-made c.make_key.result _ c.in_ok-push_made.ensures.pushed c.make_key.ensures.count in
      omega (arith, taken, more),
  was-made c.make_key.result _ c.in_ok-push_made.ensures.pushed c.make_key.ensures.parents,
)

pub returns-clause-keys : goal.returns-clause-keys
returns-clause-keys g c db reads =
    let count = c.entry_count-n-end.ensures db reads in
    let test = c.entries-test.false in
    let bases = length-bases c.args.depth (entries_of db) in
    c.from_vec.ensures ∙ made-all (dangling_texts (entries_of db)) (bases_of c.args.depth (entries_of db)) c.entries.n c.entries.taken c.entries.keys.items (c.entries.invariant.0 db reads) (omega (arith, count, test, bases))

pub returns-clause-short : goal.returns-clause-short
returns-clause-short g c = subst (AllByRecursion (λ key. length key ≤ name_limit)) (sym c.from_vec.ensures) c.entries.invariant.1
