use Rattle.bib_numbers.proofs.Words.{◌≡◌, ◌≤◌, ◌<◌, ◌+◌, ◌-◌, ◌∙◌, ℕ, List, [], length, ap, subst, sym, arith, get_or_read, joined, page_at, IsGap, AreFilled}
use Rattle.bib_pages.proofs.Paging.{joined-parted, gap_before, gap_after}
use Rattle.bib_numbers.proofs.FilledPages.{filled_parted}
use Rattle.bib_numbers.proofs.leaves.room.Goals as goal

pub returns-then-k-le-HALF-clause-room : goal.returns-then-k-le-HALF-clause-room
returns-then-k-le-HALF-clause-room c = λ n gap.
    let pages : List (List ℕ) = c.args.leaves.now.items in
    let seen : c.index.result.now ≡ page_at pages c.args.p = get_or_read pages c.args.p c.index.result.now c.requires.page c.index.ensures [] in
    let long : 256 ≤ length (page_at pages c.args.p) = omega (arith, c.if-len-lt-LEAF_LIMIT.false, c.len.ensures, ap (length {A = ℕ}) seen) in
    subst (λ (l : List (List ℕ)). IsGap l n c.args.p c.args.k) (sym c.in_ok-part.ensures.ok) (gap_before pages n c.args.p c.args.k 256 long gap c.if-k-le-HALF.true)

pub returns-then-k-le-HALF-clause-same : goal.returns-then-k-le-HALF-clause-same
returns-then-k-le-HALF-clause-same c = ap joined c.in_ok-part.ensures.ok ∙ joined-parted c.args.leaves.now.items c.args.p 256 c.requires.page

pub returns-then-k-le-HALF-clause-filled : goal.returns-then-k-le-HALF-clause-filled
returns-then-k-le-HALF-clause-filled c =
    let pages : List (List ℕ) = c.args.leaves.now.items in
    let seen : c.index.result.now ≡ page_at pages c.args.p = get_or_read pages c.args.p c.index.result.now c.requires.page c.index.ensures [] in
    let long : 256 < length (page_at pages c.args.p) = omega (arith, c.if-len-lt-LEAF_LIMIT.false, c.len.ensures, ap (length {A = ℕ}) seen) in
    subst AreFilled (sym c.in_ok-part.ensures.ok) (filled_parted pages c.args.p 256 c.requires.filled c.requires.page (omega arith) long)

pub returns-else-k-le-HALF-clause-room : goal.returns-else-k-le-HALF-clause-room
returns-else-k-le-HALF-clause-room c = λ n gap.
    let pages : List (List ℕ) = c.args.leaves.now.items in
    let seen : c.index.result.now ≡ page_at pages c.args.p = get_or_read pages c.args.p c.index.result.now c.requires.page c.index.ensures [] in
    let long : 256 ≤ length (page_at pages c.args.p) = omega (arith, c.if-len-lt-LEAF_LIMIT.false, c.len.ensures, ap (length {A = ℕ}) seen) in
    subst (λ (l : List (List ℕ)). IsGap l n (c.args.p + 1) (c.args.k - 256)) (sym c.in_ok-part.ensures.ok) (gap_after pages n c.args.p c.args.k 256 long gap (omega (arith, c.if-k-le-HALF.false)))

pub returns-else-k-le-HALF-clause-same : goal.returns-else-k-le-HALF-clause-same
returns-else-k-le-HALF-clause-same c = ap joined c.in_ok-part.ensures.ok ∙ joined-parted c.args.leaves.now.items c.args.p 256 c.requires.page

pub returns-else-k-le-HALF-clause-filled : goal.returns-else-k-le-HALF-clause-filled
returns-else-k-le-HALF-clause-filled c =
    let pages : List (List ℕ) = c.args.leaves.now.items in
    let seen : c.index.result.now ≡ page_at pages c.args.p = get_or_read pages c.args.p c.index.result.now c.requires.page c.index.ensures [] in
    let long : 256 < length (page_at pages c.args.p) = omega (arith, c.if-len-lt-LEAF_LIMIT.false, c.len.ensures, ap (length {A = ℕ}) seen) in
    subst AreFilled (sym c.in_ok-part.ensures.ok) (filled_parted pages c.args.p 256 c.requires.filled c.requires.page (omega arith) long)
