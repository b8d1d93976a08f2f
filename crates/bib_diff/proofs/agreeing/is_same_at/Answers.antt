use Rattle.bib_spec.specs.Texts.{months, macros_at}
use Rattle.bib_spec.specs.Records.{EntryTexts, texts_of}
use Rattle.bib_store.proofs.EntryItems.{IsEntryAt, entry_at}
use Rattle.bib_diff.proofs.EntryPairs.{shows, say_the_same, are_the_same}
use Rattle.bib_diff.proofs.agreeing.is_same_at.Goals as goal

pub returns-clause-same : goal.returns-clause-same
returns-clause-same c = λ true_is db reads x there db' reads' y there'.
    say_the_same c.entry-was.result c.entry-is.result x y c.in_ok-old_texts.old_texts c.in_ok-new_texts.new_texts
    (shows c.args.old.now db c.args.n c.entry-was.result x reads (c.requires.old db reads) (c.entry-was.ensures db reads) there)
    (shows c.args.new.now db' c.args.n c.entry-is.result y reads' (c.requires.new db' reads') (c.entry-is.ensures db' reads') there')
    (c.in_ok-old_texts.ensures db reads x there)
    (c.in_ok-new_texts.ensures db' reads' y there')
    (c.are_same.ensures.same true_is)

pub returns-clause-other : goal.returns-clause-other
returns-clause-other c = λ false_is said.
    let db = c.opens.ensures.0 in
    let reads = c.opens.ensures.1.reads in
    let db' = c.opens-2.ensures.0 in
    let reads' = c.opens-2.ensures.1.reads in
    let at = entry_at db c.args.n (c.requires.old db reads) in
    let it : IsEntryAt db c.args.n at.0 = at.1 in
    let at' = entry_at db' c.args.n (c.requires.new db' reads') in
    let it' : IsEntryAt db' c.args.n at'.0 = at'.1 in
    let x : EntryTexts = texts_of (macros_at months db.items it.number) it.entry in
    let y : EntryTexts = texts_of (macros_at months db'.items it'.number) it'.entry in
    c.are_same.ensures.other false_is
    (are_the_same c.entry-was.result c.entry-is.result x y c.in_ok-old_texts.old_texts c.in_ok-new_texts.new_texts
    (shows c.args.old.now db c.args.n c.entry-was.result x reads (c.requires.old db reads) (c.entry-was.ensures db reads) it.texts)
    (shows c.args.new.now db' c.args.n c.entry-is.result y reads' (c.requires.new db' reads') (c.entry-is.ensures db' reads') it'.texts)
    (c.in_ok-old_texts.ensures db reads x it.texts)
    (c.in_ok-new_texts.ensures db' reads' y it'.texts)
    (said db reads x it.texts db' reads' y it'.texts))
