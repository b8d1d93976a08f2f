use Rattle.std.proofs.Common.{◌∙◌, List, [], map, sym, ap, subst}
use Rattle.std.specs.List.{AllByRecursion}
use Rattle.std.proofs.lemmas.Result.{IfOk-weaker}
use Rattle.bib_spec.specs.Records.{entries_of}
use Rattle.bib_answers.specs.Cited.{default_min}
use Rattle.bib_answers.specs.Outcome.{answer_of}
use Rattle.bibtex_places.specs.declared.lists.BibtexEntry.{BibtexEntry}
use Rattle.bibtex_lists.specs.Records.{record_as_listed}
use Rattle.bibtex_ris.specs.Fitting.{Fits}
use Rattle.bibtex_ris.specs.Ris.{ris_told}
use Rattle.bibtex_ris.proofs.RisAnswers.{none_unknown, ris_so}
use Rattle.bibtex_ris.proofs.answering.ris_in.Goals as goal

pub told-requires : goal.told-requires
told-requires c = λ r reads.
    subst (AllByRecursion (Fits (entries_of r))) (sym (c.as_slice-then-is_empty.ensures ∙ c.in-Ok.ensures.listed r reads)) (c.listed_records_fit.ensures c.args.db.now r c.args.keys.now default_min reads)

pub returns-then-is_empty : goal.returns-then-is_empty
returns-then-is_empty c =
    IfOk-weaker c.told.result _ _
    (λ answer h r reads. ris_so c.args.dropped c.args.plain c.args.keys.now r c.in-Ok.list.listed answer (c.in-Ok.ensures.records r reads) (c.in-Ok.ensures.short r reads)
    (sym (c.in-Ok.ensures.unknown r reads) ∙ sym c.as_slice.ensures ∙ none_unknown c.as_slice.result.now (sym c.is_empty.ensures ∙ c.if-is_empty.true))
    (h r reads ∙ ap (λ (list : List BibtexEntry). answer_of (ris_told c.args.dropped c.args.plain (map (record_as_listed (entries_of r)) list)) [] 0) c.as_slice-then-is_empty.ensures))
    c.told.ensures
