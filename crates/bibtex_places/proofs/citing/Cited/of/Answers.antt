use Rattle.std.proofs.Common.{◌∙◌, ap, refl, length}
use Rattle.std.proofs.lemmas.Option.{slice_get_read}
use Rattle.bibtex_places.specs.Steps.{with_cited}
use Rattle.bibtex_places.proofs.Reading.{cited_next}
use Rattle.bibtex_places.proofs.citing.Cited.of.Goals as goal

pub cite-preserved : goal.cite-preserved
cite-preserved c =
    c.in_ok-cited.ensures
    ∙ ap (with_cited c.cite.cited) c.as_slice.ensures
    ∙ cited_next c.args.keys.now c.cite.key-index c.key-item.result c.cite.cited
    (slice_get_read c.args.keys.now (length c.args.keys.now) c.cite.key-index c.key-item.result refl c.cite-test.true c.key-item.is) c.cite.invariant
