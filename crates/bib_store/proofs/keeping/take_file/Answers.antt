use Rattle.bib_store.proofs.Words.{inl, no_memory}
use Rattle.bib_store.proofs.OpenedFiles.{taken}
use Rattle.bib_store.proofs.keeping.take_file.Goals as goal

pub returns-in-Ok-clause-taken : goal.returns-in-Ok-clause-taken
returns-in-Ok-clause-taken g c =
    taken c.args.file.items c.in-Ok.front (g.L.ItemList.items c.in-Ok.items) c.args.layout c.into_notes.result c.requires.layout c.in-Ok.ensures.front c.in-Ok.ensures.items c.into_notes.ensures

pub returns-in-Err-clause-fault : goal.returns-in-Err-clause-fault
returns-in-Err-clause-fault g c = inl (no_memory c.requires.layout.0)
