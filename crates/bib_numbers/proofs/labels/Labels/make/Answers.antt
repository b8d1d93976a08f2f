use Rattle.bib_numbers.proofs.Words.{◌≡◌, ◌≤◌, ◌<◌, ℕ, List, suc, length, get_or, sym, subst, arith, AreLabels}
use Rattle.bib_numbers.proofs.RisingLabels.{labels_put}
use Rattle.bib_numbers.proofs.labels.Labels.make.Goals as goal

labels : (c : goal.After-self-1) → AreLabels c.insert.new.self
labels c =
    let old = c.self.inside.list in
    let k = c.args.k in
    let label = c.between-label.result in
    let before : (j : ℕ) → suc j ≡ k → get_or old j 0 < label
    = λ j e.
    let above = subst (λ (l : List ℕ). get_or l j 0 < c.low-low.result) (sym c.self.view_is) (c.low-low.ensures j e) in
    omega (arith, above, c.between-label.ensures.low) in
    let after : k < length old → label < get_or old k 0
    = λ lt.
    let next = subst (λ (l : List ℕ). k < length l → c.high-high.result ≡ get_or l k 0) (sym c.self.view_is) c.high-high.ensures.next lt in
    omega (arith, next, c.between-label.ensures.high) in
    subst AreLabels (sym c.in_ok-insert.ensures.ok)
    (labels_put old k label (subst (λ (l : List ℕ). k ≤ length l) (sym c.self.view_is) c.requires) before after (omega (arith, c.between-label.ensures.high, c.high-high.ensures.limit)) c.self.invariant)

pub invariant_of-self-2 : goal.invariant_of-self-2
invariant_of-self-2 c = labels c

pub returns-clause-labels : goal.returns-clause-labels
returns-clause-labels c = labels c
