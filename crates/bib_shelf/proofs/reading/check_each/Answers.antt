use Rattle.std.proofs.Common.{◌∙◌, sym, subst}
use Rattle.std.proofs.lemmas.Result.{on_ok_weaker}
use Rattle.bib_spec.specs.Text.{Text}
use Rattle.bib_shelf.specs.declared.joining.Joined.{Joined}
use Rattle.bib_shelf.specs.Joined.{AreJoined}
use Rattle.bib_shelf.specs.Faults.{no_memory}
use Rattle.bib_shelf.proofs.PartedFiles.{parted_have_places}
use Rattle.bib_shelf.proofs.reading.check_each.Goals as goal

pub returns-then-are_parted-clause-read : goal.returns-then-are_parted-clause-read
returns-then-are_parted-clause-read g c = λ files are opens.
    let joined : Joined = record { text = c.args.db.now; spans = c.args.spans.now } in
    parted_have_places files joined are opens (c.are_parted.ensures c.if-are_parted.true)

pub returns-in-Ok-clause-read : goal.returns-in-Ok-clause-read
returns-in-Ok-clause-read g c = on_ok_weaker c.read_each.result (λ read files are opens.
    read files (subst (λ (t : Text). AreJoined files (record { text = t; spans = c.args.spans.now })) (sym (c.as_slice.ensures ∙ c.in-Ok.ensures.bytes)) are)) c.read_each.ensures.read

pub returns-in-Err-clause-fault : goal.returns-in-Err-clause-fault
returns-in-Err-clause-fault g c = λ files are. no_memory
