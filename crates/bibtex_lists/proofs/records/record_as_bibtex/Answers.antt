use Rattle.std.proofs.Common.{◌≡◌, ◌∙◌, ◌++◌, ap, List}
use Rattle.bib_spec.specs.Records.{RecordField, entries_of, missing, fields_at, with_inherited}
use Rattle.bib_store.proofs.GatheredFields.{missing_all}
use Rattle.bibtex_lists.proofs.Inherited.{record_is}
use Rattle.bibtex_lists.proofs.records.record_as_bibtex.Goals as goal

pub returns : goal.returns
returns g c r reads =
    let own : c.gather.new.fields.fields.items ≡ fields_at (entries_of r) c.args.listed.now.entry =
    c.in_ok-gather.ensures.added r reads ∙ ap (λ (l : List RecordField). l ++ missing l (fields_at (entries_of r) c.args.listed.now.entry)) c.in_ok-fields.ensures.fields ∙ missing_all (fields_at (entries_of r) c.args.listed.now.entry) in
    record_is (entries_of r) c.args.listed.now c.in_ok-kind_name.kind_name c.in_ok-key.key c.into_fields.result (c.in_ok-kind_name.ensures r reads) (c.in_ok-key.ensures ∙ c.as_slice.ensures)
    (c.into_fields.ensures ∙ c.in_ok-gather_inherited.ensures r reads ∙ ap (λ (l : List RecordField). with_inherited (entries_of r) l c.as_slice-2.result.now) own ∙ ap (with_inherited (entries_of r) (fields_at (entries_of r) c.args.listed.now.entry)) c.as_slice-2.ensures)
