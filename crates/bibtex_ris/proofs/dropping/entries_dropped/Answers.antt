use Rattle.std.proofs.Common.{◌∙◌, ◌++◌, ap, ap₂, arith}
use Rattle.std.specs.List.{flat_map}
use Rattle.std.proofs.lemmas.List.{take_all}
use Rattle.bib_spec.specs.Text.{Text}
use Rattle.bib_spec.specs.Records.{Record, entries_of}
use Rattle.bib_ris.specs.Dropped.{dropped_lines}
use Rattle.bibtex_places.specs.declared.lists.BibtexEntry.{BibtexEntry}
use Rattle.bibtex_lists.specs.Records.{record_as_listed}
use Rattle.bibtex_ris.proofs.RisTexts.{texts_more, dropped_made}
use Rattle.bibtex_ris.proofs.dropping.entries_dropped.Goals as goal

pub entries-preserved : goal.entries-preserved
entries-preserved c r reads =
    c.in_ok-add_record.ensures
    ∙ ap₂ (λ (t : Text) (rec : Record). t ++ dropped_lines rec) (c.entries.invariant r reads) (c.in_ok-rec.ensures r reads ∙ ap (record_as_listed (entries_of r)) c.entry-item.is)
    ∙ texts_more (λ (e : BibtexEntry). dropped_lines (record_as_listed (entries_of r) e)) c.args.list.now c.entries.entry-index c.entry-item.result c.entries-test.true

pub returns : goal.returns
returns c r reads =
    c.from_vec.ensures
    ∙ c.entries.invariant r reads
    ∙ ap (flat_map (λ (e : BibtexEntry). dropped_lines (record_as_listed (entries_of r) e))) (take_all c.entries.entry-index c.args.list.now (let end = c.entries-test.false in omega (arith, end)))
    ∙ dropped_made (entries_of r) c.args.list.now
