use Rattle.bib_numbers.proofs.Words.{◌≡◌, ◌<◌, ◌+◌, ◌∙◌, ℕ, suc, List, [], length, map, set, ap, ap₂, arith, get_or_default, length-set, page_at, plus, moved_from}
use Rattle.bib_numbers.proofs.Moves.{moved_so_far, moved_read, moved_more, moved_all, shifted_by}
use Rattle.bib_numbers.proofs.leaves.shift_from.Goals as goal

pub pass-preserved : goal.pass-preserved
pass-preserved c =
    let move = map (plus c.args.step) in
    let q = c.pass.q in
    let start : List (List ℕ) = set c.args.leaves.now c.args.p (moved_from (plus c.args.step) c.args.k (page_at c.args.leaves.now c.args.p)) in
    let next : suc q ≡ q + 1 = omega arith in
    let test = c.pass-test.true in
    let now = length-set c.args.leaves.now c.args.p c.shift_from.new.self in
    let within : q < length c.pass.leaves = omega (arith, test, c.pass.auto.leaves) in
    let long : q < length start = omega (arith, test, now, length-set c.args.leaves.now c.args.p (moved_from (plus c.args.step) c.args.k (page_at c.args.leaves.now c.args.p))) in
    ap₂ (λ (l : List (List ℕ)) (page : List ℕ). set l q page) c.pass.invariant
    (c.shift.ensures ∙ ap move (get_or_default c.pass.leaves q c.index-leaves-q.result [] within ∙ ap (λ (l : List (List ℕ)). page_at l q) c.pass.invariant ∙ moved_read move q (c.args.p + 1) [] start))
    ∙ moved_more move q (c.args.p + 1) [] start c.pass.auto.q long
    ∙ ap (λ (i : ℕ). moved_so_far move i (c.args.p + 1) start) next

pub returns : goal.returns
returns c =
    let start : List (List ℕ) = set c.args.leaves.now c.args.p (moved_from (plus c.args.step) c.args.k (page_at c.args.leaves.now c.args.p)) in
    let now = length-set c.args.leaves.now c.args.p c.shift_from.new.self in
    let past = c.pass-test.false in
    c.pass.invariant
    ∙ moved_all (map (plus c.args.step)) c.pass.q (c.args.p + 1) start (omega (arith, past, now, length-set c.args.leaves.now c.args.p (moved_from (plus c.args.step) c.args.k (page_at c.args.leaves.now c.args.p))))
    ∙ shifted_by (plus c.args.step) c.args.leaves.now c.args.p c.args.k c.requires.page
