use Rattle.bib_numbers.proofs.Words.{◌-◌, ◌+◌, ◌%◌, ◌^◌, ◌∙◌, ℕ, List, insert, map, ap, ap₂, plus}
use Rattle.bib_numbers.proofs.Moves.{map-insert, plus-back}
use Rattle.bib_numbers.proofs.leaf.Leaf.insert.Goals as goal

pub returns-clause-ok : goal.returns-clause-ok
returns-clause-ok c =
    let base = c.self.inside.base in
    ap (map (plus base)) c.in_ok-insert.ensures.items
    ∙ map-insert (plus base) c.self.inside.list.items c.args.k ((c.args.n + (2 ^ 64 - base)) % 2 ^ 64)
    ∙ ap₂ (λ (l : List ℕ) (n : ℕ). insert l c.args.k n) c.self.view_is (plus-back base c.args.n c.self.invariant c.ranges.n.fits)
