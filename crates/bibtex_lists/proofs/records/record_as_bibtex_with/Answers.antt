use Rattle.std.proofs.Common.{◌∙◌, Bor, List, ℕ, ap, map}
use Rattle.bib_spec.specs.Text.{Text}
use Rattle.bib_spec.specs.Records.{entries_of, fields_at, with_inherited}
use Rattle.bib_store.specs.Choosing.{chosen}
use Rattle.bibtex_lists.proofs.Inherited.{chosen_record_is}
use Rattle.bibtex_lists.proofs.records.record_as_bibtex_with.Goals as goal

pub returns : goal.returns
returns g c r reads =
    let names : List Text = map {A = Bor (List ℕ)} {B = List ℕ} (λ name. name.now) c.args.names.now in
    chosen_record_is names (entries_of r) c.args.listed.now c.in_ok-kind_name.kind_name c.in_ok-key.key c.from_vec.result (c.in_ok-kind_name.ensures r reads) (c.in_ok-key.ensures ∙ c.as_slice.ensures)
    (c.from_vec.ensures ∙ c.in_ok-choose_inherited.ensures r reads (fields_at (entries_of r) c.args.listed.now.entry) (c.in_ok-fields.ensures r reads)
    ∙ ap (λ (up : List ℕ). chosen names (with_inherited (entries_of r) (fields_at (entries_of r) c.args.listed.now.entry) up)) c.as_slice-2.ensures)
