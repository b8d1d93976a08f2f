use Rattle.std.proofs.Common.{◌≡◌, ◌≤◌, ◌∙◌, ℕ, List, Option, sym, ap, length, subst, arith, insert}
use Rattle.bib_spec.specs.Text.{Text}
use Rattle.bib_index.specs.KeyIndex.{IsIndexOf, ids_in}
use Rattle.bib_entries.specs.EntryTable.{Kept, IsTableOf, IsIndexWith, StaysIndex, GivesCrossref, HaveTheSame, name_of, named_by}
use Rattle.bib_entries.proofs.Tables.{inserted_table, kept_table, same_count}
use Rattle.bib_entries.proofs.entry_table.EntryTable.insert.Goals as goal

pub returns-in-Ok-clause-ok : goal.returns-in-Ok-clause-ok
returns-in-Ok-clause-ok c keys crossrefs fits t =
    let inside = subst (IsTableOf keys crossrefs) (sym (c.self.view_is ∙ c.prepare_keys.ensures)) t in
    let old : Kept = record { ids = c.self.inside.order; keys = c.self.inside.keys; crossrefs = c.self.inside.crossrefs.items; referring = c.self.inside.referring } in
    let few : c.args.n ≤ length c.self.inside.order = omega (arith, fits, same_count keys crossrefs old inside) in
    let n : c.min-n.result ≡ c.args.n = omega (arith, few, c.min-n.ensures, c.count.ensures.count) in
    let came = c.in_ok-id.ensures.ok in
    let same : c.describe.new.self.ids ≡ c.insert.new.self = c.in-Ok.ensures.ids in
    let text = c.in_ok-crossref.ensures in
    inserted_table keys crossrefs old c.describe.new.self c.args.n c.in_ok-id.id c.args.key.now c.args.crossref inside came.1
    (same ∙ came.0 ∙ ap (λ (k : ℕ). insert c.self.inside.order k c.in_ok-id.id) n)
    (λ names none is.
    subst (λ (l : List ℕ). IsIndexWith names c.in_ok-id.id (name_of c.args.key.now) l c.describe.new.self.keys) (sym same)
    (c.in-Ok.ensures.key names none (subst (λ (l : List ℕ). IsIndexOf names l (ids_in c.self.inside.keys)) same is)))
    (λ names none is.
    subst (λ (said : Option Text). IsIndexWith names c.in_ok-id.id (named_by said) c.describe.new.self.ids c.describe.new.self.referring) text
    (subst (λ (l : List ℕ). IsIndexWith names c.in_ok-id.id (named_by c.in_ok-crossref.crossref) l c.describe.new.self.referring) (sym same)
    (c.in-Ok.ensures.named names none (subst (λ (l : List ℕ). IsIndexOf names l (ids_in c.self.inside.referring)) same is))))
    (subst (GivesCrossref c.self.inside.crossrefs.items c.describe.new.self.crossrefs c.in_ok-id.id) text c.in-Ok.ensures.crossref) few

pub returns-in-Err-clause-err : goal.returns-in-Err-clause-err
returns-in-Err-clause-err c keys crossrefs t =
    let inside = subst (IsTableOf keys crossrefs) (sym (c.self.view_is ∙ c.prepare_keys.ensures)) t in
    let old : Kept = record { ids = c.self.inside.order; keys = c.self.inside.keys; crossrefs = c.self.inside.crossrefs.items; referring = c.self.inside.referring } in
    let mid : Kept = record { ids = c.self-2.inside.order; keys = c.self-2.inside.keys; crossrefs = c.self-2.inside.crossrefs.items; referring = c.self-2.inside.referring } in
    let new : Kept = record { ids = c.remove.new.self; keys = c.self-2.inside.keys; crossrefs = c.self-2.inside.crossrefs.items; referring = c.self-2.inside.referring } in
    let few : c.min-n.result ≤ length c.self.inside.order = omega (arith, c.min-n.ensures, c.count.ensures.count) in
    let came = c.in_ok-id.ensures.ok in
    let v = c.self-2.view_is in
    let same : c.self-2.inside.order ≡ c.insert.new.self = ap (λ (k : Kept). k.ids) v ∙ c.in-Err.ensures.ids in
    kept_table keys crossrefs old mid new c.min-n.result c.in_ok-id.id inside came.1 few (same ∙ came.0) c.remove.ensures
    (subst (λ (l : List ℕ). StaysIndex c.in_ok-id.id l c.self.inside.keys c.self-2.inside.keys) (sym same)
    (subst (λ (k : Kept). StaysIndex c.in_ok-id.id c.insert.new.self c.self.inside.keys k.keys) (sym v) c.in-Err.ensures.keys_err))
    (subst (λ (l : List ℕ). StaysIndex c.in_ok-id.id l c.self.inside.referring c.self-2.inside.referring) (sym same)
    (subst (λ (k : Kept). StaysIndex c.in_ok-id.id c.insert.new.self c.self.inside.referring k.referring) (sym v) c.in-Err.ensures.named_err))
    (subst (λ (k : Kept). HaveTheSame c.self.inside.crossrefs.items k.crossrefs) (sym v) c.in-Err.ensures.crossrefs_err)
