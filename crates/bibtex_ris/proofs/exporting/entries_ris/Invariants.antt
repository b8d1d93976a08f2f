use Rattle.std.proofs.Common.{◌≡◌, take}
use Rattle.std.specs.List.{flat_map}
use Rattle.bib_spec.specs.Records.{entries_of}
use Rattle.bib_store.specs.Readings.{OfReading}
use Rattle.ris_text.specs.Writing.{record_text}
use Rattle.ris_format.specs.Mapping.{ris}
use Rattle.bibtex_lists.specs.Records.{record_as_listed}
use Rattle.bibtex_ris.proofs.exporting.entries_ris.Given as goal

abbrev pub invariant-entries : goal.invariant-entries
invariant-entries l = OfReading l.db (λ r. l.text.items ≡ flat_map (λ e. record_text (ris (record_as_listed (entries_of r) e))) (take l.entry-index l.list))
