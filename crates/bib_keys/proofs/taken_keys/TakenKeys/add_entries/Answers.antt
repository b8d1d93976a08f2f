use Rattle.bib_keys.proofs.Words.{◌≡◌, ◌+◌, ◌<◌, ◌++◌, List, ◌∷◌, length, drop, sym, ◌∙◌, subst, arith, length-map, same_Some, Text, Reading, Reads, entries_of, keys_of, AreTaken}
use Rattle.bib_store.proofs.EntryItems.{entry_at, key_at_entry, key_seen}
use Rattle.bib_keys.proofs.Walks.{next-of}
use Rattle.bib_keys.proofs.TakenLists.{AreTakenBut, but-all, but-one_less, but-past}
use Rattle.bib_keys.proofs.taken_keys.TakenKeys.add_entries.Goals as goal

pub entries-init : goal.entries-init
entries-init g c = (λ db reads others are. but-all others (keys_of (entries_of db)) c.args.self.now are, omega arith)

pub add-requires : goal.add-requires
add-requires g c =
    let db : Reading = c.opens.ensures.0 in
    let reads : Reads c.args.db.now db = c.opens.ensures.1.reads in
    let count = c.entry_count-n-end.ensures db reads in
    let test = c.entries-test.true in
    let so_far = c.entries.invariant.1 in
    let few = c.requires db reads in
    omega (arith, count, test, so_far, few)

pub entries-preserved : goal.entries-preserved
entries-preserved g c =
    let so_far = c.entries.invariant.1 in
    let more = c.in_ok-add.ensures.count in (
      λ db reads others are.
          let count = c.entry_count-n-end.ensures db reads in
          let test = c.entries-test.true in
          let lt : c.entries.n < length (entries_of db) = omega (arith, count, test) in
          let keys = length-map (entries_of db) (λ entry. entry.key) in
          let next = next-of (keys_of (entries_of db)) c.entries.n (omega (arith, lt, keys)) in
          let entry = entry_at db c.entries.n lt in
          let key : c.key.result.now ≡ next.0 =
          key_seen db c.entries.n entry.0 entry.1 c.key.result.now c.entry.result c.key.ensures (c.entry.ensures db reads entry.0 entry.1.listed)
          ∙ same_Some entry.1.entry.key next.0 (sym (key_at_entry db c.entries.n entry.0 entry.1) ∙ next.1) in
          but-one_less next.0 (drop (c.entries.n + 1) (keys_of (entries_of db))) (keys_of (entries_of db) ++ others) c.entries.self c.add.new.self
          (subst (λ (rest : List Text). AreTakenBut rest (keys_of (entries_of db) ++ others) c.entries.self) next.2 (c.entries.invariant.0 db reads others are))
          (λ some them. subst (λ (key : Text). AreTaken (key ∷ some) c.add.new.self) key (c.in_ok-add.ensures.taken some them)),
      omega (arith, so_far, more),
    )

pub returns-clause-taken : goal.returns-clause-taken
returns-clause-taken g c db reads others are =
    let count = c.entry_count-n-end.ensures db reads in
    let test = c.entries-test.false in
    let keys = length-map (entries_of db) (λ entry. entry.key) in
    but-past (keys_of (entries_of db)) (keys_of (entries_of db) ++ others) c.entries.n c.entries.self (omega (arith, count, test, keys)) (c.entries.invariant.0 db reads others are)
