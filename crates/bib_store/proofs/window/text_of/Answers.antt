use Rattle.bib_store.proofs.Words.{◌++◌, ◌∙◌, List, ℕ, ap, ap₂, flat_map, between, kept_bytes}
use Rattle.bib_store.proofs.window.text_of.Goals as goal

pub returns : goal.returns
returns g c =
    c.in_ok-append_bytes.ensures.bytes
    ∙ ap (λ (front : List ℕ). front ++ flat_map kept_bytes (between c.args.window.from c.args.window.to (g.L.ItemList.items c.args.items.now)))
    (c.in_ok-extend_from_slice.ensures.items ∙ ap₂ ◌++◌ c.new-text.ensures.items c.front_of.ensures)
