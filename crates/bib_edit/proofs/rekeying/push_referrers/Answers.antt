use Rattle.bib_edit.proofs.Words.{ℕ, ◌≤◌, length, sym, subst, arith, entries_of, HavePieces}
use Rattle.bib_edit.proofs.EntryPieces.{reached-more, reached-end, reached-all}
use Rattle.bib_edit.proofs.rekeying.push_referrers.Goals as goal

pub referrers-init : goal.referrers-init
referrers-init g c db reads a le quiet have = record { at = a; within = le; quiet = quiet; have = have }

pub push_entry-requires : goal.push_entry-requires
push_entry-requires g c db reads =
    let lt = c.in-Some.ensures.some.0 in
    let high = c.requires.end db reads in
    omega (arith, lt, high)

pub referrers-preserved : goal.referrers-preserved
referrers-preserved g c db reads a le quiet have =
    let some = c.in-Some.ensures.some in
    reached-more c.args.new.now db c.args.some.key.now c.referrers.k c.args.some.end c.in-Some.n c.referrers.pieces.items c.push_entry.new.pieces.items (c.referrers.invariant db reads a le quiet have)
    (c.requires.end db reads) some.0 (some.1 db reads) (c.in_ok-push_entry.ensures.pieces db reads)

pub returns-in_default-clause-pieces : goal.returns-in_default-clause-pieces
returns-in_default-clause-pieces g c db reads a le quiet have =
    reached-end c.args.new.now db c.args.some.key.now c.referrers.k c.args.some.end c.referrers.pieces.items (c.referrers.invariant db reads a le quiet have) (c.requires.end db reads) (c.in_default.ensures.none db reads)

pub returns-clause-pieces : goal.returns-clause-pieces
returns-clause-pieces g c db reads a le quiet have =
    let count = c.entry_count-count.ensures db reads in
    let test = c.referrers-test.false in
    let past : length (entries_of db) ≤ c.referrers.k = omega (arith, count, test) in
    subst (λ (k : ℕ). HavePieces c.args.new.now db c.args.some.key.now k c.args.some.end c.referrers.pieces.items) (sym count)
    (reached-all c.args.new.now db c.args.some.key.now c.referrers.k c.args.some.end c.referrers.pieces.items (c.referrers.invariant db reads a le quiet have) (c.requires.end db reads) past)
