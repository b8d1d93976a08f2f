use Rattle.bib_edit.proofs.Words.{entries_of}
use Rattle.bib_edit.proofs.Parents.{referred-iff, unnamed-iff}
use Rattle.bib_edit.proofs.Referrers.{key-short}
use Rattle.bib_edit.proofs.referring.is_referred.Goals as goal

pub is_parent-requires : goal.is_parent-requires
is_parent-requires g c =
    key-short c.args.db.now c.opens.ensures.0 c.opens.ensures.1.reads c.args.key.now c.in-Ok.m (c.in-Ok.ensures.found c.opens.ensures.0 c.opens.ensures.1.reads)

pub returns-in-Ok : goal.returns-in-Ok
returns-in-Ok g c db reads =
    let named = c.in-Ok.ensures.found db reads in
    referred-iff c.args.key.now (entries_of db) c.in-Ok.m c.is_parent.result named (c.is_parent.ensures db reads named)

pub returns-in-Err : goal.returns-in-Err
returns-in-Err g c db reads = unnamed-iff c.args.key.now (entries_of db) (c.in-Err.ensures.none.1 db reads)
