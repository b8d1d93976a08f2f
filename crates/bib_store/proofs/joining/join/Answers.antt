use Rattle.bib_store.proofs.Words.{◌++◌, ◌∙◌, ◌≤◌, List, ℕ, length, ap, arith, flat_map, between, kept_bytes}
use Rattle.std.proofs.lemmas.List.{take_all}
use Rattle.std.proofs.lemmas.Slice.{between_from_start}
use Rattle.bib_items.specs.declared.list.Item.{Item}
use Rattle.bib_store.proofs.joining.join.Goals as goal

pub returns : goal.returns
returns g c =
    let items : List Item = g.L.ItemList.items c.args.items.now in
    let all : length items ≤ c.count-count.result = omega (arith, c.count-count.ensures) in
    c.in_ok-append_bytes.ensures.bytes
    ∙ ap (λ (front : List ℕ). front ++ flat_map kept_bytes (between 0 c.count-count.result items)) (c.in_ok-extend_from_slice.ensures.items ∙ ap (λ (none : List ℕ). none ++ c.args.front.now) c.in_ok-file.ensures.items)
    ∙ ap (λ (l : List Item). c.args.front.now ++ flat_map kept_bytes l) (between_from_start items c.count-count.result ∙ take_all c.count-count.result items all)
