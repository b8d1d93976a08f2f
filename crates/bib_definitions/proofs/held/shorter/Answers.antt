use Rattle.bib_definitions.proofs.Words.{◌≡◌, ◌<◌, nat_lt, true, false, List, length, get_or, sym, ◌∙◌, ap, subst, arith, IsPartitionPoint, Definition}
use Rattle.std.proofs.lemmas.List.{get_or_read}
use Rattle.bib_definitions.proofs.PlacedDefinitions.{without_at, without_none}
use Rattle.bib_definitions.proofs.held.shorter.Goals.{else-place-len-via-then-place-len+else-index-label, else-place-len-via-else-place-len}
use Rattle.bib_definitions.proofs.held.shorter.Goals as goal

pub returns-then-index-label : goal.returns-then-index-label
returns-then-index-label c =
    let items = c.args.all.items in
    let place = c.count_below-place.result in
    let point = subst (λ (ds : List Definition). IsPartitionPoint (λ d. nat_lt d.label c.args.label ≡ true) (λ d. nat_lt d.label c.args.label ≡ false) ds place) c.deref.ensures.value c.count_below-place.ensures.point in
    let inside : place < length items = omega (arith, c.if-place-len.true, c.len.ensures, c.deref.ensures.len, ap (length {A = Definition}) c.deref.ensures.value) in
    let seen = get_or_read items place c.index.result.now inside c.index.ensures c.index.result.now in
    c.remove.ensures.items ∙ without_at c.args.label items place c.index.result.now inside point (ap (λ (d : Definition). d.label) (sym seen) ∙ c.if-index-label.true)

pub returns-else-place-len : goal.returns-else-place-len
returns-else-place-len c =
    let items = c.args.all.items in
    let place = c.count_below-place.result in
    let point = subst (λ (ds : List Definition). IsPartitionPoint (λ d. nat_lt d.label c.args.label ≡ true) (λ d. nat_lt d.label c.args.label ≡ false) ds place) c.deref.ensures.value c.count_below-place.ensures.point in
    let other : (e : Definition) → place < length items → (get_or items place e).label ≡ c.args.label → ⊥
    = λ e inside is.
    elim c.else-place-len.branch [
      | else-place-len-via-then-place-len+else-index-label w ↦ w.if-index-label.false (ap (λ (d : Definition). d.label) (get_or_read items place w.index.result.now inside w.index.ensures e) ∙ is)
      | else-place-len-via-else-place-len w ↦ absurd (omega (arith, inside, w.if-place-len.false, c.len.ensures, c.deref.ensures.len, ap (length {A = Definition}) c.deref.ensures.value))
    ] in
    sym (without_none c.args.label items place c.requires point other)
