use Rattle.std.proofs.Common.{◌∙◌, ap, option_and_then, arith, length}
use Rattle.std.proofs.lemmas.List.{length-map}
use Rattle.bibtex_spec.specs.Listed.{place_named}
use Rattle.bibtex_places.specs.Seen.{seen}
use Rattle.bibtex_places.proofs.ParentLists.{parent_of, parents_are, seen_at, parents_next, parents_all}
use Rattle.bibtex_places.proofs.parents.parents_of.Goals as goal

pub parents-preserved : goal.parents-preserved
parents-preserved c texts keys are finds all cited =
    parents_next (parent_of texts keys c.args.places.now) c.args.places.now c.parents.place-index (seen c.place-item.result) c.parents.parents.items c.push.new.self.items c.in_ok-parent_of.field-0
    (seen_at c.as_slice-place-items.result.now c.args.places.now c.parents.place-index c.place-item.result c.as_slice-place-items.ensures c.parents-test.true c.place-item.is)
    (c.parents.invariant texts keys are finds all cited)
    (c.in_ok-parent_of.ensures texts keys finds all cited ∙ ap (option_and_then (place_named texts keys c.args.places.now)) (c.crossref_of-crossref.ensures texts are))
    c.in_ok-push.ensures.items

pub returns : goal.returns
returns c texts keys are finds all cited =
    let test = c.parents-test.false in
    let long = length-map c.as_slice-place-items.result.now seen in
    let same = ap length c.as_slice-place-items.ensures in
    parents_are texts keys c.args.places.now c.parents.parents.items
    (parents_all (parent_of texts keys c.args.places.now) c.args.places.now c.parents.place-index c.parents.parents.items (c.parents.invariant texts keys are finds all cited) (omega (arith, test, long, same)))
