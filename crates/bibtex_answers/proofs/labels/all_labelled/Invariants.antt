use Rattle.std.proofs.Common.{◌≡◌, drop, map}
use Rattle.bib_spec.specs.Records.{entries_of}
use Rattle.bib_store.specs.Readings.{OfReading}
use Rattle.bibtex_lists.specs.Records.{record_as_listed}
use Rattle.bibtex_labels.specs.Fields.{map_all}
use Rattle.bibtex_labels.specs.Label.{labelled}
use Rattle.bibtex_labels.proofs.AllLemmas.{after}
use Rattle.bibtex_answers.proofs.labels.all_labelled.Given as goal

abbrev pub invariant-entries : goal.invariant-entries
invariant-entries l = OfReading l.db (λ r. map_all labelled (map (record_as_listed (entries_of r)) l.list) ≡ after labelled l.entries.items (map_all labelled (drop l.entry-index (map (record_as_listed (entries_of r)) l.list))))
