use Rattle.bib_names.proofs.Words.{rules, ◌≡◌, ◌∙◌, ◌++◌, ◌∷◌, [], List, map, take, get_or, sym, ap, take_all, map-append, Text, label_base}
use Rattle.std.proofs.lemmas.List.{take_more}
use Rattle.bib_data.specs.declared.record.Record.{Record}
use Rattle.bib_names.proofs.labelling.bases_of.Goals as goal

abbrev base : Record → Text
base r = label_base r.fields

pub loop-record-preserved : goal.loop-record-preserved
loop-record-preserved c =
    let records = c.args.records.now in
    let n = c.loop-record.record-index in
    let is : c.in_ok-base_of.field-0 ≡ base c.record-item.result = search rules in
    c.in_ok-push.ensures.items
    ∙ ap (λ (b : Text). c.loop-record.bases.items ++ b ∷ []) (is ∙ ap base c.record-item.is)
    ∙ ap (λ (bs : List Text). bs ++ base (get_or records n c.record-item.result) ∷ []) c.loop-record.invariant
    ∙ sym (ap (map base) (take_more records n c.record-item.result c.loop-record-test.true) ∙ map-append base (take n records) (get_or records n c.record-item.result ∷ []))

pub returns : goal.returns
returns c = c.loop-record.invariant ∙ ap (map base) (take_all c.loop-record.record-index c.args.records.now c.loop-record-test.false)
