use Rattle.bib_store.proofs.Words.{◌≡◌, None, refl, subst, too_long_at, Tables, AreTables, OfJoined}
use Rattle.std.proofs.Common.{OnOk, IfErr}
use Rattle.bib_items.specs.declared.fault.StoreFault.TheVariants.{BadSplice}
use Rattle.bib_store.proofs.PlacedFiles.{placed_file}
use Rattle.bib_store.proofs.exchanging.exchange.Goals as goal

pub returns-in-Ok-clause-tables : goal.returns-in-Ok-clause-tables
returns-in-Ok-clause-tables g c =
    placed_file c.args.change (g.L.ItemList.items c.args.items.now) c.requires.window c.args.tables.now c.put_in_place.new.tables c.in-Some.ensures.placed c.args.front_len

pub returns-in-None-clause-tables : goal.returns-in-None-clause-tables
returns-in-None-clause-tables g c =
    subst (λ (t : Tables). OnOk c.exchange_all.result (OfJoined c.args.change c.args.front_len (g.L.ItemList.items c.args.items.now) t (λ db. AreTables db c.exchange_all.new.tables × (too_long_at db ≡ None))))
    (c.in-None.ensures.none refl) c.exchange_all.ensures.tables

pub returns-in-None-clause-refused : goal.returns-in-None-clause-refused
returns-in-None-clause-refused g c =
    subst (λ (t : Tables). IfErr c.exchange_all.result (λ fault. fault ≡ BadSplice → OfJoined c.args.change c.args.front_len (g.L.ItemList.items c.args.items.now) t (λ db. too_long_at db ≡ None → ⊥)))
    (c.in-None.ensures.none refl) c.exchange_all.ensures.refused
