use Rattle.std.proofs.Common.{◌≡◌, ◌∙◌, ap, sym, arith, map, filter_map, List, Some, slice_get}
use Rattle.std.specs.List.{list_any, enumerate_from}
use Rattle.std.specs.Option.{option_copied}
use Rattle.std.proofs.lemmas.List.{length-map}
use Rattle.bibtex_spec.specs.Places.{Place}
use Rattle.bibtex_places.specs.Seen.{seen}
use Rattle.bibtex_places.specs.Lists.{entry_at, is_deep_at}
use Rattle.bibtex_places.proofs.Entries.{is_there}
use Rattle.bibtex_places.proofs.ParentLists.{seen_there}
use Rattle.bibtex_places.proofs.ListedEntries.{listed_none, listed_more, listed_all, deep_at}
use Rattle.bibtex_places.proofs.listing.list.Goals as goal

pub list-init : goal.list-init
list-init c texts keys are = listed_none texts keys c.args.sources.now.least (map seen c.args.sources.now.places.now) c.new-listed.result.items c.new-listed.ensures.items

pub returns-in_default-clause-listed : goal.returns-in_default-clause-listed
returns-in_default-clause-listed c texts keys are places = absurd (is_there c.args.sources.now.places.now c.list.i c.list-test.true (sym c.place_at.ensures ∙ ap option_copied c.in_default.is))

pub returns-in_default-clause-short : goal.returns-in_default-clause-short
returns-in_default-clause-short c texts keys are places = absurd (is_there c.args.sources.now.places.now c.list.i c.list-test.true (sym c.place_at.ensures ∙ ap option_copied c.in_default.is))

pub list-preserved : goal.list-preserved
list-preserved c texts keys are =
    let at : slice_get (map seen c.args.sources.now.places.now) c.list.i ≡ Some (seen c.in-Some.place.now) = seen_there c.args.sources.now.places.now c.list.i c.in-Some.place.now (sym c.place_at.ensures ∙ ap option_copied c.in-Some.is) in
    listed_more texts keys c.args.sources.now.least (map seen c.args.sources.now.places.now) c.list.listed.items c.push_some.new.list.items c.list.i (seen c.in-Some.place.now) c.in-Ok.entry
    (c.list.invariant texts keys are) at (c.in-Ok.ensures.entry texts keys are at) (c.in-Ok.ensures.short texts keys are) c.in_ok-push_some.ensures

pub returns-in-Err-clause-deep : goal.returns-in-Err-clause-deep
returns-in-Err-clause-deep c is texts keys are places =
    let at : slice_get (map seen c.args.sources.now.places.now) c.list.i ≡ Some (seen c.in-Some.place.now) = seen_there c.args.sources.now.places.now c.list.i c.in-Some.place.now (sym c.place_at.ensures ∙ ap option_copied c.in-Some.is) in
    ap (λ (ps : List Place). list_any (is_deep_at texts keys c.args.sources.now.least ps) (enumerate_from 0 ps)) (sym places)
    ∙ deep_at texts keys c.args.sources.now.least (map seen c.args.sources.now.places.now) c.list.i (seen c.in-Some.place.now) at (c.in-Err.ensures.deep is texts keys are)

pub returns-clause-listed : goal.returns-clause-listed
returns-clause-listed c texts keys are places =
    let test = c.list-test.false in
    let long = length-map c.args.sources.now.places.now seen in
    (listed_all texts keys c.args.sources.now.least (map seen c.args.sources.now.places.now) c.list.listed.items c.list.i (c.list.invariant texts keys are) (omega (arith, test, long))).0
    ∙ ap (λ (ps : List Place). filter_map (entry_at texts keys c.args.sources.now.least ps) (enumerate_from 0 ps)) places

pub returns-clause-short : goal.returns-clause-short
returns-clause-short c texts keys are places =
    let test = c.list-test.false in
    let long = length-map c.args.sources.now.places.now seen in
    ap (λ (ps : List Place). list_any (is_deep_at texts keys c.args.sources.now.least ps) (enumerate_from 0 ps)) (sym places)
    ∙ (listed_all texts keys c.args.sources.now.least (map seen c.args.sources.now.places.now) c.list.listed.items c.list.i (c.list.invariant texts keys are) (omega (arith, test, long))).1
