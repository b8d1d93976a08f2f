use Rattle.bib_edit.proofs.Words.{ℕ, ◌∙◌, ◌++◌, ap, List, Text, View, arith, start_of, tokens_seen}
use Rattle.bib_edit.specs.RenamedFields.{own_fields, fields_clash, names_at}
use Rattle.bib_edit.proofs.NamedFields.{names-placed}
use Rattle.bib_edit.proofs.rename_field.found_in_item.Goals as goal

pub item_place-start-requires : goal.item_place-start-requires
item_place-start-requires g c db reads = let within = c.requires db reads in omega (arith, within)

pub push_in_item-requires : goal.push_in_item-requires
push_in_item-requires g c = names-placed c.args.db.now c.args.n c.item_place-start.result c.item-view.result c.opens.ensures c.requires c.item_place-start.ensures c.item-view.ensures

pub returns-clause-names : goal.returns-clause-names
returns-clause-names g c db reads item at =
    c.in_ok-clashes.ensures.names
    ∙ ap (λ (l : List (ℕ × Text)). l ++ names_at c.item_place-start.result c.args.from.now (own_fields c.item-view.result)) (ap tokens_seen c.new-names.ensures.items)
    ∙ ap (λ (k : ℕ). names_at k c.args.from.now (own_fields c.item-view.result)) (c.item_place-start.ensures db reads)
    ∙ ap (λ (v : View). names_at (start_of db c.args.n) c.args.from.now (own_fields v)) (c.item-view.ensures db reads item at)

pub returns-clause-clashes : goal.returns-clause-clashes
returns-clause-clashes g c db reads item at =
    c.in_ok-clashes.ensures.clashes ∙ ap (λ (v : View). fields_clash c.args.from.now c.args.to.now (own_fields v)) (c.item-view.ensures db reads item at)
