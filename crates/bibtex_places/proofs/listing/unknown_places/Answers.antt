use Rattle.std.proofs.Common.{◌≡◌, sym, subst, length, refl, get_or}
use Rattle.std.proofs.lemmas.Option.{slice_get_read}
use Rattle.bib_spec.specs.Text.{Text}
use Rattle.bibtex_places.proofs.UnknownKeys.{unknown_next, unknown_all}
use Rattle.bibtex_places.proofs.listing.unknown_places.Goals as goal

pub seek-preserved : goal.seek-preserved
seek-preserved c texts finds =
    let key : Text = c.as_slice.result.now in
    let is : key ≡ get_or c.args.keys.now c.seek.place key = subst (λ (k : Text). k ≡ get_or c.args.keys.now c.seek.place k) (sym c.as_slice.ensures) c.index-keys-place.is in
    unknown_next texts c.args.keys.now c.seek.place key c.seek.unknown.items c.push_some.new.list.items c.in_ok-at.at
    (slice_get_read c.args.keys.now (length c.args.keys.now) c.seek.place key refl c.seek-test.true is)
    (c.seek.invariant texts finds)
    (c.in_ok-at.ensures texts finds)
    c.in_ok-push_some.ensures

pub returns : goal.returns
returns c texts finds = unknown_all texts c.args.keys.now c.seek.place c.seek.unknown.items (c.seek.invariant texts finds) c.seek-test.false
