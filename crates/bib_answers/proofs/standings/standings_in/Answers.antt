use Rattle.bib_answers.proofs.Words.{◌==◌, ◌≡◌, ◌∙◌, ◌++◌, ◌∷◌, ◌<◌, ◌≤◌, [], List, Some, length, refl, sym, ap, subst}
use Rattle.std.proofs.Common.{arith}
use Rattle.entry_json.specs.declared.raw.Standing.{Standing}
use Rattle.bib_scan.specs.Layout.{start_of}
use Rattle.bib_shelf.specs.Joined.{located_in}
use Rattle.bib_answers.specs.Lint.{place_at}
use Rattle.bib_answers.specs.Raw.{file_at, number_in_file, standing, standing_of}
use Rattle.bib_answers.proofs.StandingItems.{standings_more, standings_all, IsCounted, counted_none, counted_more, item_numbered, item_small}
use Rattle.bib_answers.proofs.standings.standings_in.Goals as goal

pub item_place-place-requires : goal.item_place-place-requires
item_place-place-requires c r reads = omega (arith, c.items-test.true, c.item_count-m-end.ensures r reads)

pub overflow_add-count : goal.overflow_add-count
overflow_add-count c =
    let opened = c.opens.ensures in
    let r = opened.0 in
    let files = c.args.files.now in
    let m = c.items.m in
    let next = c.reached_at-next.result in
    let item = c.number_after-item.result in
    let within : m < length r.items = omega (arith, c.items-test.true, c.item_count-m-end.ensures r opened.1.reads) in
    let at : next.file ≡ file_at files.files r m = c.reached_at-next.ensures.file ∙ ap (λ p. (located_in files.files p).0) (c.item_place-place.ensures r opened.1.reads) in
    let small : item ≤ m =
    item_small files.files r m c.items.reached.file c.items.count next.file item (next.file == c.items.reached.file) within (c.items.invariant.1 r opened.1.reads).1 at refl c.number_after-item.ensures in
    omega (arith, small, c.items-test.true)

pub items-init : goal.items-init
items-init c = (c.first_reached-reached.ensures.known c.args.files.now.files, λ r reads. (c.in_ok-all.ensures.items, subst (λ k. IsCounted c.args.files.now.files r 0 k 0) (sym c.first_reached-reached.ensures.file) (counted_none c.args.files.now.files r)))

pub items-preserved : goal.items-preserved
items-preserved c = (
  c.reached_at-next.ensures.known,
  λ r reads.
      let files = c.args.files.now in
      let m = c.items.m in
      let next = c.reached_at-next.result in
      let item = c.number_after-item.result in
      let within : m < length r.items = omega (arith, c.items-test.true, c.item_count-m-end.ensures r reads) in
      let at : next.file ≡ file_at files.files r m = c.reached_at-next.ensures.file ∙ ap (λ p. (located_in files.files p).0) (c.item_place-place.ensures r reads) in
      let here : next.known.at ≡ place_at files.files (start_of r m) = c.reached_at-next.ensures.at ∙ ap (place_at files.files) (c.item_place-place.ensures r reads) in
      let numbered : item ≡ number_in_file files.files r m =
      item_numbered files.files r m c.items.reached.file c.items.count next.file item (next.file == c.items.reached.file) within (c.items.invariant.1 r reads).1 at refl c.number_after-item.ensures in
      let stands : standing item next.known.at ≡ standing_of (Some files) r m =
      ap (λ n. standing n next.known.at) numbered ∙ ap (standing (number_in_file files.files r m)) here in (
        c.in_ok-push.ensures.items
            ∙ ap (λ (all : List Standing). all ++ standing item next.known.at ∷ []) (c.items.invariant.1 r reads).0
            ∙ standings_more (standing_of (Some files) r) (length r.items) m (standing item next.known.at) within stands,
        counted_more files.files r m c.items.reached.file c.items.count next.file item (next.file == c.items.reached.file) within (c.items.invariant.1 r reads).1 at refl c.number_after-item.ensures,
      ),
)

pub returns : goal.returns
returns c r reads = (c.items.invariant.1 r reads).0 ∙ standings_all (standing_of (Some c.args.files.now) r) (length r.items) c.items.m (omega (arith, c.items-test.false, c.item_count-m-end.ensures r reads))
