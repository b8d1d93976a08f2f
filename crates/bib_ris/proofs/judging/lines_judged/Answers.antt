use Rattle.bib_ris.proofs.Words.{◌∙◌, List, [], Option, refl, sym, ap, subst, option_map_or, Text, Record, entries_of, dropped_lines}
use Rattle.std.proofs.Common.{Some}
use Rattle.bib_spec.specs.Text.{folded}
use Rattle.bib_spec.specs.Texts.{months, macros_at}
use Rattle.bib_spec.specs.Records.{EntryTexts, RecordField, fields_at, texts_of}
use Rattle.bib_store.proofs.EntryItems.{IsEntryAt, entry_at}
use Rattle.bib_store.proofs.GatheredFields.{missing_all}
use Rattle.bib_store.proofs.Inherited.{expanded_along, record_made}
use Rattle.bib_ris.specs.Judging.{IsJudged}
use Rattle.bib_ris.proofs.judging.lines_judged.Goals as goal

pub returns : goal.returns
returns g c = λ db reads.
    let entries : List EntryTexts = entries_of db in
    let n = c.args.n in
    let depth = c.args.depth in
    let at = entry_at db n (c.requires.number db reads) in
    let it : IsEntryAt db n at.0 = at.1 in
    let macros = macros_at months db.items it.number in
    let kind = c.as_slice-kind_name.result.now in
    let key = c.key-key.result.now in
    let kind_is = c.as_slice-kind_name.ensures ∙ c.in_ok-kind_name.ensures ∙ ap folded c.type_name.ensures in
    let none : IsJudged kind key [] c.new-seen.result.items c.new-lines.result.items =
    subst (λ (names : List Text). IsJudged kind key [] names c.new-lines.result.items) (sym c.new-seen.ensures.items)
    (subst (IsJudged kind key [] []) (sym c.new-lines.ensures.items) (record { names = λ name not_always. refl; told = refl })) in
    let own = subst (λ (fields : List RecordField). IsJudged kind key fields c.judge_entry.new.seen.items c.judge_entry.new.lines.items) (missing_all (fields_at entries n))
    (c.in_ok-judge_entry.ensures c.if-not-branch.false db reads [] none) in
    let whole = c.in_ok-judge_inherited.ensures c.if-not-branch-2.false db reads (fields_at entries n) own in
    whole.told
    ∙ sym (ap (λ (o : Option Record). option_map_or dropped_lines o [])
    (expanded_along entries depth n (texts_of macros it.entry) it.texts
    ∙ ap (λ (r : Record). Some r) (record_made at.0 it.entry macros _ _ _ _ _ (c.entry-entry.ensures db reads at.0 it.listed) it.is kind_is c.key-key.ensures refl)))
