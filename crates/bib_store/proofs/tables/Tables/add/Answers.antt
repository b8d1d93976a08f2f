use Rattle.bib_store.proofs.Words.{Option, subst, Note, err_from}
use Rattle.std.proofs.Common.{IfSome}
use Rattle.bib_scan.specs.Note.{IsNoteOf}
use Rattle.bib_store.proofs.tables.Tables.add.Goals as goal

pub returns-in-Some-clause-too_long : goal.returns-in-Some-clause-too_long
returns-in-Some-clause-too_long c =
    let known = subst (λ (o : Option Note). IfSome o (IsNoteOf c.args.body.now)) c.in-Some.is c.requires in
    err_from c.insert.result _ _ (λ fault over place is tree good bytes. over place is tree good (c.noted.ensures.item tree good bytes (known tree good bytes))) c.insert.ensures.too_long

pub returns-in-None-clause-too_long : goal.returns-in-None-clause-too_long
returns-in-None-clause-too_long c = err_from c.insert-in-None.result _ _ (λ fault over place is tree good bytes. over place is tree good (c.of.ensures.item tree good bytes)) c.insert-in-None.ensures.too_long
