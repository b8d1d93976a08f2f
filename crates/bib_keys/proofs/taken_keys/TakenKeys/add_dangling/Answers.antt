use Rattle.bib_keys.proofs.Words.{◌+◌, ◌<◌, ◌++◌, List, length, subst, arith, Text, Reading, Reads, entries_of, dangling_texts, dangling_at}
use Rattle.bib_keys.proofs.DanglingTexts.{texts_from, texts-next, texts-past}
use Rattle.bib_keys.proofs.TakenLists.{AreTakenBut, but-all, but-option_less, but-none}
use Rattle.bib_keys.proofs.taken_keys.TakenKeys.add_dangling.Goals as goal

pub entries-init : goal.entries-init
entries-init g c = (λ db reads others are. but-all others (dangling_texts (entries_of db)) c.args.self.now are, omega arith)

pub add_text-requires-clause-count : goal.add_text-requires-clause-count
add_text-requires-clause-count g c =
    let db : Reading = c.opens.ensures.0 in
    let reads : Reads c.args.db.now db = c.opens.ensures.1.reads in
    let count = c.entry_count-n-end.ensures db reads in
    let test = c.entries-test.true in
    let so_far = c.entries.invariant.1 in
    let few = c.requires db reads in
    omega (arith, count, test, so_far, few)

pub entries-preserved : goal.entries-preserved
entries-preserved g c =
    let so_far = c.entries.invariant.1 in
    let more = c.in_ok-add_text.ensures.count in (
      λ db reads others are.
          let count = c.entry_count-n-end.ensures db reads in
          let test = c.entries-test.true in
          let lt : c.entries.n < length (entries_of db) = omega (arith, count, test) in
          but-option_less (dangling_at (entries_of db) c.entries.n) (texts_from (entries_of db) (c.entries.n + 1)) (dangling_texts (entries_of db) ++ others) c.entries.self c.add_text.new.self
          (subst (λ (rest : List Text). AreTakenBut rest (dangling_texts (entries_of db) ++ others) c.entries.self) (texts-next (entries_of db) c.entries.n lt) (c.entries.invariant.0 db reads others are))
          (c.in_ok-add_text.ensures.taken db reads),
      omega (arith, so_far, more),
    )

pub returns-clause-taken : goal.returns-clause-taken
returns-clause-taken g c db reads others are =
    let count = c.entry_count-n-end.ensures db reads in
    let test = c.entries-test.false in
    but-none (dangling_texts (entries_of db) ++ others) c.entries.self
    (subst (λ (rest : List Text). AreTakenBut rest (dangling_texts (entries_of db) ++ others) c.entries.self) (texts-past (entries_of db) c.entries.n (omega (arith, count, test))) (c.entries.invariant.0 db reads others are))
