use Rattle.bib_store.proofs.Words.{◌<◌, ℕ, ◌∙◌, List, length, sym, ap, subst}
use Rattle.std.proofs.Common.{slice_get}
use Rattle.bib_store.proofs.KeptItems.{kept_as, kept_reading}
use Rattle.bib_store.proofs.EntryItems.{number_of_entry}
use Rattle.bib_store.proofs.database.Database.entry_item.Goals as goal

pub get-requires : goal.get-requires
get-requires g c =
    let k = kept_reading c.self.inside.front (g.L.ItemList.items c.self.inside.items) c.self.inside.tables c.args.self.now c.self.invariant.0 c.self.view_is in
    subst (λ (ns : List ℕ). c.args.n < length ns) (sym k.2.tables.entries) (number_of_entry k.0 c.args.n (c.requires k.0 k.1))

pub returns : goal.returns
returns g c = λ db r.
    let k = kept_as c.self.inside.front (g.L.ItemList.items c.self.inside.items) c.self.inside.tables c.args.self.now c.self.invariant.0 c.self.view_is db r in
    ap (λ (ns : List ℕ). slice_get ns c.args.n) (sym k.tables.entries) ∙ c.get.ensures
