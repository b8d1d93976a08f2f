use Rattle.std.proofs.Common.{◌<◌, All, length, sym, subst}
use Rattle.std.proofs.lemmas.Result.{IfOk-weaker}
use Rattle.bib_spec.specs.Records.{entries_of}
use Rattle.bibtex_answers.proofs.ListAnswers.{cited_so}
use Rattle.bibtex_answers.proofs.UnknownKeys.{unknown_within}
use Rattle.bibtex_answers.proofs.cite.cite_in.Goals as goal

pub cited-requires : goal.cited-requires
cited-requires c =
    let opened = c.opens.ensures in
    subst (All (λ place. place < length c.args.keys.now)) (sym (c.in-Ok.ensures.unknown opened.0 opened.1.reads)) (unknown_within (entries_of opened.0) c.args.keys.now)

pub returns-in-Ok : goal.returns-in-Ok
returns-in-Ok c =
    IfOk-weaker c.cited.result _ _
    (λ answer is r reads. cited_so c.args.strict c.args.keys.now c.args.min r c.in-Ok.list.listed c.in-Ok.list.unknown answer (c.in-Ok.ensures.records r reads) (c.in-Ok.ensures.unknown r reads) (c.in-Ok.ensures.short r reads) is)
    c.cited.ensures
