use Rattle.bib_journal.proofs.Words.{◌≡◌, ◌-◌, ◌++◌, List, take, drop, length, min, Option, IfSome, refl, ap, subst, Text, Step, BelongTo, first_of, Contents, digest_of, journal_text, SaysOf}
use Rattle.bib_journal.proofs.TakenBack.{undos_leave}
use Rattle.bib_journal.proofs.changing.undo_in.Goals as goal

pub returns-in-Some-clause-turned : goal.returns-in-Some-clause-turned
returns-in-Some-clause-turned g c =
    let file = c.args.file.items in
    let said = c.in_ok-db.said in
    let done = c.min-done.result in
    let old : List Step = c.said.inside.past in
    let new : List Step = c.said.inside.future in
    let past : old ≡ said.past = ap (λ (s : Contents). s.past) c.said.view_is in
    let future : new ≡ said.future = ap (λ (s : Contents). s.future) c.said.view_is in
    let before : BelongTo old new c.in_ok-db.db × (c.in-Some.file ≡ first_of (drop (length old - done) old) c.in_ok-db.db) =
    subst (λ (found : Option Text). IfSome found (λ f. BelongTo old new c.in_ok-db.db × (f ≡ first_of (drop (length old - done) old) c.in_ok-db.db)))
    c.in-Some.is c.in_ok-file.ensures.file in
    let found : BelongTo said.past said.future file × (c.in-Some.file ≡ first_of (drop (length said.past - done) said.past) file) =
    rw (← past, ← future, ← c.in_ok-db.ensures.file) before in
    let written : c.in_ok-saved_back-in-Some.field-0.journal
    ≡ journal_text (record { digest = digest_of c.in-Some.file; past = take (length said.past - done) said.past; future = drop (length said.past - done) said.past ++ said.future }) =
    rw (← past, ← future) c.in_ok-saved_back-in-Some.ensures.journal in
    let says : SaysOf file c.args.journal.now said = record {
      journal = c.in_ok-db.ensures.said;
      fit = record { opens = c.in_ok-db.ensures.opens; digest = c.in_ok-db.ensures.digest; belong = found.0 };
    } in
    let least : done ≡ min c.args.n (length said.past) = cc (c.min-done.ensures, c.len.ensures.count, past) in
    undos_leave file c.args.journal.now c.in-Some.file said c.args.n done c.undone.result.fault _ says
    found.1 least c.undone.ensures.all c.undone.ensures.stopped c.undone.ensures.done refl c.in_ok-saved_back-in-Some.ensures.file c.in_ok-saved_back-in-Some.ensures.digest written
