use Rattle.bib_edit.proofs.Words.{◌∙◌, ap, is_some, entries_of, new_key_parts, new_key-length}
use Rattle.bib_edit.proofs.Referrers.{awaited-held, awaited-free}
use Rattle.bib_edit.proofs.dangling.is_awaited.Goals as goal

pub returns-in-Ok : goal.returns-in-Ok
returns-in-Ok g c db reads = awaited-held (entries_of db) c.args.key.now c.in-Ok.field-0 (c.in-Ok.ensures.found db reads)

pub referrer-requires : goal.referrer-requires
referrer-requires g c = new_key-length c.args.key.now c.requires

pub returns-in-Err : goal.returns-in-Err
returns-in-Err g c db reads =
    c.is_some.ensures ∙ ap is_some (c.referrer.ensures db reads)
    ∙ awaited-free (entries_of db) c.args.key.now (c.in-Err.ensures.none.1 db reads) (new_key_parts c.args.key.now c.requires).0
