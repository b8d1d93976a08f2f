use Rattle.bib_keys.proofs.Words.{◌∙◌, ◌<◌, ℕ, List, length, ap, ap₂, sym, subst, get_or, entries_of, parts_of, no_parts, parts_with, kept_of, label_fields, with_parent}
use Rattle.std.proofs.lemmas.List.Sums.{fold_more}
use Rattle.bib_keys.proofs.KnownParents.{kept_told}
use Rattle.bib_keys.proofs.label_bases.Parents.inherited.Goals as goal

pub join-preserved : goal.join-preserved
join-preserved c file are r reads =
    let line : List ℕ = c.args.self.now.line.items in
    let i = c.join.n-index in
    let n = get_or c.deref-n-items.result.now i 0 in
    c.with-inherited.ensures
    ∙ ap₂ parts_with (c.join.invariant file are r reads)
    (kept_told (λ kept. kept.value) (kept_of c.args.self.now.known.items n) c.in-Some.parts.now (parts_of (label_fields (entries_of r) n)) c.in-Some.ensures (are r reads n)
    ∙ ap (λ (l : List ℕ). parts_of (label_fields (entries_of r) (get_or l i 0))) c.deref-n-items.ensures.value)
    ∙ sym (fold_more (with_parent (entries_of r)) no_parts line i 0 (subst (λ (l : List ℕ). i < length l) c.deref-n-items.ensures.value c.join-test.true))
