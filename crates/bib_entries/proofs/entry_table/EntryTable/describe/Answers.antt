use Rattle.std.proofs.Common.{◌∙◌, ℕ, List, sym, ap, subst}
use Rattle.bib_index.specs.KeyIndex.{IsIndexOf, ids_in}
use Rattle.bib_entries.specs.EntryTable.{Kept, name_of}
use Rattle.bib_entries.proofs.Tables.{taken_back}
use Rattle.bib_entries.proofs.entry_table.EntryTable.describe.Goals as goal
use Rattle.bib_entries.proofs.entry_table.EntryTable.describe.Goals.{in-Nothing-3, in-Long-3}

pub returns-in-Err-clause-keys_err : goal.returns-in-Err-clause-keys_err
returns-in-Err-clause-keys_err c names free is x =
    let v = c.self.view_is in
    let given = c.in_ok-add_key.ensures.ok names free (subst (λ (k : Kept). IsIndexOf names k.ids (ids_in k.keys)) (sym v) is) in
    let back = taken_back names c.args.id (name_of c.args.key.now) c.self.inside.order c.add_key.new.keys c.take_key.new.keys free given c.take_key.ensures in
    let out = subst (λ (l : List ℕ). IsIndexOf names l (ids_in c.take_key.new.keys)) (ap (λ (k : Kept). k.ids) v) back in
    elim c.match-crossref-3.branch [
      | in-Nothing-3 w ↦ ap (λ (k : Kept). ids_in k.keys x) w.self-is ∙ out x
      | in-Long-3 w ↦ ap (λ (k : Kept). ids_in k.keys x) w.self-is ∙ out x
    ]
