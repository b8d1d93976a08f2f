use Rattle.bib_numbers.proofs.Words.{◌≡◌, ◌<◌, ◌+◌, ◌∙◌, ℕ, List, [], length, rules, sym, subst, ap, ap₂, arith, get_or_read, IsPartitionPoint-from_clause, page_at, Ascend, rank_in, ends_below}
use Rattle.bib_pages.proofs.Paging.{length-joined-split}
use Rattle.bib_numbers.proofs.FilledPages.{length-starts, start_read}
use Rattle.bib_numbers.proofs.SoughtPages.{pages_parted, rank_past, rank_at, page_ascends}
use Rattle.bib_numbers.proofs.leaves.count_searched.Goals as goal

pub returns-then-p-leaves-clause-counted : goal.returns-then-p-leaves-clause-counted
returns-then-p-leaves-clause-counted c ascend =
    let point = IsPartitionPoint-from_clause (ends_below c.args.n) _ _ c.partition_point-p.ensures.partitioned (pages_parted c.args.n c.args.leaves.now ascend c.requires.filled) (λ a r q k. search rules) in
    c.requires.count_is
    ∙ rank_past c.args.n c.args.leaves.now ascend c.requires.filled c.partition_point-p.result c.partition_point-p.ensures.bound point (omega (arith, c.if-p-leaves.true))

pub bounds-firsts-p : goal.bounds-firsts-p
bounds-firsts-p c = omega (arith, c.partition_point-p.ensures.bound, c.if-p-leaves.false, ap (length {A = ℕ}) c.requires.told, length-starts 0 c.args.leaves.now)

pub returns-clause-within : goal.returns-clause-within
returns-clause-within c =
    let p = c.partition_point-p.result in
    let pages : List (List ℕ) = c.args.leaves.now in
    let inside : p < length pages = omega (arith, c.partition_point-p.ensures.bound, c.if-p-leaves.false) in
    let seen : c.index-leaves-p.result ≡ page_at pages p = get_or_read pages p c.index-leaves-p.result inside c.index-leaves-p.is [] in
    let start = start_read pages c.args.firsts.now p c.requires.told inside in
    omega (arith, start, c.count_below.ensures.within, ap (length {A = ℕ}) seen, length-joined-split pages p inside)

pub overflow_add-result : goal.overflow_add-result
overflow_add-result c =
    let p = c.partition_point-p.result in
    let pages : List (List ℕ) = c.args.leaves.now in
    let inside : p < length pages = omega (arith, c.partition_point-p.ensures.bound, c.if-p-leaves.false) in
    let seen : c.index-leaves-p.result ≡ page_at pages p = get_or_read pages p c.index-leaves-p.result inside c.index-leaves-p.is [] in
    let start = start_read pages c.args.firsts.now p c.requires.told inside in
    omega (arith, start, c.count_below.ensures.within, ap (length {A = ℕ}) seen, length-joined-split pages p inside, c.requires.count_is, c.requires.fits)

pub returns-clause-counted : goal.returns-clause-counted
returns-clause-counted c ascend =
    let p = c.partition_point-p.result in
    let pages : List (List ℕ) = c.args.leaves.now in
    let inside : p < length pages = omega (arith, c.partition_point-p.ensures.bound, c.if-p-leaves.false) in
    let seen : c.index-leaves-p.result ≡ page_at pages p = get_or_read pages p c.index-leaves-p.result inside c.index-leaves-p.is [] in
    let point = IsPartitionPoint-from_clause (ends_below c.args.n) _ _ c.partition_point-p.ensures.partitioned (pages_parted c.args.n pages ascend c.requires.filled) (λ a r q k. search rules) in
    let up = page_ascends c.args.n pages ascend c.requires.filled p c.partition_point-p.ensures.bound point inside in
    ap₂ (λ (a b : ℕ). a + b) (start_read pages c.args.firsts.now p c.requires.told inside)
    (c.count_below.ensures.counted (subst Ascend (sym seen) up) ∙ ap (rank_in c.args.n) seen)
    ∙ rank_at c.args.n pages ascend c.requires.filled p c.partition_point-p.ensures.bound point inside
