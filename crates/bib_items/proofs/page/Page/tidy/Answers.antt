use Rattle.bib_items.proofs.Words.{◌≡◌, ◌≢◌, ℕ, List, [], ◌++◌, ◌∙◌, Option, length, ap, subst, subst₂, sym, arith, Text, items_in, LieInEither, AreLaid, AreCovered}
use Rattle.bib_items.proofs.ItemsIn.{same_weight}
use Rattle.bib_items.proofs.page.Page.tidy.Goals as goal

pub invariant_of-self : goal.invariant_of-self
invariant_of-self c =
    let shared : c.as_slice-shared.result.now ≡ c.self.inside.shared = c.as_slice-shared.ensures in
    let lie : LieInEither c.self.inside.shared c.in-Ok.own.items c.in-Ok.spans.items = subst (λ (t : Text). LieInEither t c.in-Ok.own.items c.in-Ok.spans.items) shared c.in-Ok.ensures.lie in
    let same : items_in (c.self.inside.shared ++ c.in-Ok.own.items) c.in-Ok.spans.items ≡ items_in (c.self.inside.shared ++ c.self.inside.later.own) c.self.inside.spans.items = rw (← shared, ← c.own-own.ensures, ← c.deref-2.ensures.value) c.in-Ok.ensures.items in
    let weight = same_weight c.self.inside.shared c.self.inside.later.own c.in-Ok.own.items c.self.inside.spans.items c.in-Ok.spans.items c.self.invariant.lie lie same in
    let some : c.self.inside.later.own ≢ [] = λ none. absurd (omega (arith, c.if-own-lt-LITTLE.false, ap (length {A = ℕ}) (c.own-own.ensures ∙ none))) in
    subst₂ (λ (own : Text) (marks : Option (List ℕ)). AreLaid c.self.inside.shared own c.in-Ok.spans.items c.self.inside.len marks) (sym (c.set_own.ensures.own some)) (sym c.set_own.ensures.marks)
    (record { lie = lie; len_is = omega (arith, weight, c.self.invariant.len_is); fits = c.self.invariant.fits; marked = subst (AreCovered c.self.inside.later.marks) (sym same) c.self.invariant.marked })
