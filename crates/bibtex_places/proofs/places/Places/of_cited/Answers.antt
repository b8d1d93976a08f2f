use Rattle.std.proofs.Common.{◌++◌, ◌∷◌, [], ◌∙◌, ap, length, refl}
use Rattle.std.proofs.lemmas.Option.{slice_get_read}
use Rattle.bib_spec.specs.Text.{Text}
use Rattle.bibtex_spec.specs.Places.{cited_place}
use Rattle.bibtex_places.proofs.Reading.{placed_next}
use Rattle.bibtex_places.proofs.places.Places.of_cited.Goals as goal

pub add-preserved : goal.add-preserved
add-preserved c =
    c.in_ok-places.ensures
    ∙ ap (λ (t : Text). c.add.places ++ cited_place t ∷ []) (c.in_ok-copied.ensures ∙ c.as_slice.ensures)
    ∙ placed_next c.args.keys.now c.add.key-index c.key-item.result c.add.places
    (slice_get_read c.args.keys.now (length c.args.keys.now) c.add.key-index c.key-item.result refl c.add-test.true c.key-item.is) c.add.invariant
