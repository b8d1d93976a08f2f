use Rattle.std.proofs.Common.{◌≡◌, ◌∙◌, ap, sym, arith, map, Some, slice_get}
use Rattle.std.proofs.lemmas.List.{map_push}
use Rattle.bibtex_places.specs.Seen.{seen}
use Rattle.bibtex_places.proofs.EachPlace.{each_start, each_more, each_all}
use Rattle.bibtex_places.proofs.places.Places.of_each.Goals as goal

pub each-init : goal.each-init
each-init c = each_start c.args.entries.now _ c.new-table.result (ap (map seen) c.in_ok-all.ensures.items) c.new-table.ensures

pub each-preserved : goal.each-preserved
each-preserved c =
    let at : slice_get c.args.entries.now c.each.n ≡ Some c.in-Some.entry = sym c.given_at.ensures ∙ c.in-Some.is in
    each_more c.args.entries.now c.each.n c.in-Some.entry (map seen c.each.all.items) _ (seen c.in_ok-added.field-0) c.each.table c.add.new.self at c.each.invariant
    (sym c.in_ok-add.ensures.new ∙ c.if-not-branch.false) c.in_ok-add.ensures.keys c.in_ok-added.ensures
    (ap (map seen) c.in_ok-push.ensures.items ∙ map_push seen c.each.all.items c.in_ok-added.field-0)

pub returns : goal.returns
returns c = each_all c.args.entries.now c.each.n (map seen c.each.all.items) c.each.table (let test = c.each-test.false in omega (arith, test)) c.each.invariant
