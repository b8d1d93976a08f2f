use Rattle.std.proofs.Common.{◌≡◌, ◌∙◌, ◌++◌, true, sym, ap, ap₂, subst, arith}
use Rattle.std.specs.List.{flat_map}
use Rattle.std.proofs.lemmas.List.{take_all}
use Rattle.bib_spec.specs.Text.{Text}
use Rattle.bib_spec.specs.Records.{Record, entries_of}
use Rattle.ris_text.specs.Writing.{record_text, is_well_formed}
use Rattle.ris_format.specs.Mapping.{ris}
use Rattle.bibtex_places.specs.declared.lists.BibtexEntry.{BibtexEntry}
use Rattle.bibtex_lists.specs.Records.{record_as_listed}
use Rattle.bibtex_ris.specs.Fitting.{Fits}
use Rattle.bibtex_ris.proofs.RisTexts.{member_at, texts_more, ris_made}
use Rattle.bibtex_ris.proofs.exporting.entries_ris.Goals as goal

pub add_record-requires : goal.add_record-requires
add_record-requires c =
    let opened = c.opens.ensures in
    subst (λ (rec : Record). is_well_formed (ris rec) ≡ true) (sym (c.in_ok-rec.ensures opened.0 opened.1.reads ∙ ap (record_as_listed (entries_of opened.0)) c.entry-item.is))
    (member_at (Fits (entries_of opened.0)) c.args.list.now c.entries.entry-index c.entry-item.result (c.requires opened.0 opened.1.reads) c.entries-test.true)

pub entries-preserved : goal.entries-preserved
entries-preserved c r reads =
    c.in_ok-add_record.ensures
    ∙ ap₂ (λ (t : Text) (rec : Record). t ++ record_text (ris rec)) (c.entries.invariant r reads) (c.in_ok-rec.ensures r reads ∙ ap (record_as_listed (entries_of r)) c.entry-item.is)
    ∙ texts_more (λ (e : BibtexEntry). record_text (ris (record_as_listed (entries_of r) e))) c.args.list.now c.entries.entry-index c.entry-item.result c.entries-test.true

pub returns : goal.returns
returns c r reads =
    c.from_vec.ensures
    ∙ c.entries.invariant r reads
    ∙ ap (flat_map (λ (e : BibtexEntry). record_text (ris (record_as_listed (entries_of r) e)))) (take_all c.entries.entry-index c.args.list.now (let end = c.entries-test.false in omega (arith, end)))
    ∙ ris_made (entries_of r) c.args.list.now
