use Rattle.std.proofs.Common.{◌<◌, ◌∙◌, List, Option, sym, ap, length, subst, refl, arith}
use Rattle.bib_spec.specs.Text.{Text}
use Rattle.bib_entries.specs.EntryTable.{Kept, IsTableOf, named_by, crossref_of}
use Rattle.bib_entries.proofs.Tables.{removed_table, present}
use Rattle.bib_entries.proofs.entry_table.EntryTable.remove.Goals as goal

pub returns : goal.returns
returns c keys crossrefs at t =
    let inside = subst (IsTableOf keys crossrefs) (sym c.self.view_is) t in
    let old : Kept = record { ids = c.self.inside.order; keys = c.self.inside.keys; crossrefs = c.self.inside.crossrefs.items; referring = c.self.inside.referring } in
    let new : Kept = record { ids = c.remove.new.self; keys = c.take_key.new.keys; crossrefs = c.self.inside.crossrefs.items; referring = c.take_named.new.referring } in
    let within : c.args.n < length c.self.inside.order = omega (arith, c.if-n-count.false, c.count.ensures.count) in
    let stands = present c.self.inside.order c.args.n c.id_at-gone.result within c.id_at-gone.ensures in
    removed_table keys crossrefs old new c.args.n c.id_at-gone.result c.args.key.now inside c.count.ensures.distinct stands at c.remove.ensures
    (λ names its is. c.take_key.ensures names c.self.inside.order its is)
    (λ names its is. c.take_named.ensures names c.self.inside.order
    (its ∙ ap (λ (l : List (Option Text)). named_by (crossref_of l c.id_at-gone.result)) (sym c.deref.ensures.value)) is)
    refl within
