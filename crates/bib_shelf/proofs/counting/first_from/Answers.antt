use Rattle.bib_shelf.proofs.Searches.{searched_none, middle_within, searched_up, searched_down, searched_all}
use Rattle.bib_shelf.proofs.counting.first_from.Goals as goal

pub search-init : goal.search-init
search-init g c = λ db reads. searched_none db c.args.place c.item_count-end.result (c.item_count-end.ensures db reads)

pub item_place-requires : goal.item_place-requires
item_place-requires g c = λ db reads. middle_within db c.args.place c.search.first c.search.end (c.search.invariant db reads) c.search-test.true

pub search-preserved-then-item_place-place : goal.search-preserved-then-item_place-place
search-preserved-then-item_place-place g c = λ db reads.
    searched_up db c.args.place c.search.first c.search.end c.item_place.result (c.search.invariant db reads) c.search-test.true (c.item_place.ensures db reads) c.if-item_place-place.true

pub search-preserved : goal.search-preserved
search-preserved g c = λ db reads.
    searched_down db c.args.place c.search.first c.search.end c.item_place.result (c.search.invariant db reads) c.search-test.true (c.item_place.ensures db reads) c.if-item_place-place.false

pub returns : goal.returns
returns g c = λ db reads. searched_all db c.args.place c.search.first c.search.end (c.search.invariant db reads) c.search-test.false
