use Rattle.bib_edit.proofs.Words.{◌≡◌, ℕ, ◌≤◌, ◌<◌, ◌+◌, ◌∙◌, length, sym, subst, arith, entries_of, named_within, AreQuiet, HavePieces}
use Rattle.bib_edit.proofs.EntryPieces.{first-pieces, next-pieces, all-pieces, none-passed, quiet-before, quiet-after}
use Rattle.bib_edit.proofs.Referrers.{key-short}
use Rattle.bib_edit.proofs.rekeying.renaming.Goals as goal

pub push_referrers-requires-clause-short : goal.push_referrers-requires-clause-short
push_referrers-requires-clause-short g c =
    key-short c.args.db.now c.opens.ensures.0 c.opens.ensures.1.reads c.args.key.now c.args.n (c.requires.named c.opens.ensures.0 c.opens.ensures.1.reads)

pub push_referrers-requires-clause-end : goal.push_referrers-requires-clause-end
push_referrers-requires-clause-end g c db reads =
    let low = named_within (entries_of db) c.args.key.now c.args.n (c.requires.named db reads) in
    omega (arith, low)

pub push_entry-requires : goal.push_entry-requires
push_entry-requires g c db reads = named_within (entries_of db) c.args.key.now c.args.n (c.requires.named db reads)

pub skip_self-requires : goal.skip_self-requires
skip_self-requires g c =
    key-short c.args.db.now c.opens.ensures.0 c.opens.ensures.1.reads c.args.key.now c.args.n (c.requires.named c.opens.ensures.0 c.opens.ensures.1.reads)

pub push_referrers-requires-2-clause-short : goal.push_referrers-requires-2-clause-short
push_referrers-requires-2-clause-short g c =
    key-short c.args.db.now c.opens.ensures.0 c.opens.ensures.1.reads c.args.key.now c.args.n (c.requires.named c.opens.ensures.0 c.opens.ensures.1.reads)

pub returns-clause-pieces : goal.returns-clause-pieces
returns-clause-pieces g c db reads =
    let new = c.args.new.now in
    let key = c.args.key.now in
    let named = c.requires.named db reads in
    let low : c.args.n < length (entries_of db) = named_within (entries_of db) key c.args.n named in
    let none : HavePieces new db key 0 0 c.new-pieces.result.items = record { pieces = first-pieces new db c.new-pieces.result.items c.new-pieces.ensures.items; passed = none-passed db key } in
    let before : HavePieces new db key c.in_ok-before.before c.args.n c.push_referrers.new.pieces.items
    = c.in_ok-before.ensures.pieces db reads 0 (omega arith) (quiet-before new db key c.args.n named c.requires.alone) none in
    let its : HavePieces new db key c.skip_self.result (c.args.n + 1) c.push_entry.new.pieces.items = record {
      pieces = next-pieces new db c.args.n c.push_referrers.new.pieces.items c.push_entry.new.pieces.items low before.pieces (c.in_ok-push_entry.ensures.pieces db reads);
      passed = c.skip_self.ensures db reads before.passed;
    } in
    let count : c.entry_count.result ≡ length (entries_of db) = c.entry_count.ensures db reads in
    let high : c.args.n + 1 ≤ c.entry_count.result = omega (arith, low, count) in
    let all : HavePieces new db key c.in_ok-push_referrers.field-0 c.entry_count.result c.push_referrers-2.new.pieces.items
    = c.in_ok-push_referrers.ensures.pieces db reads (c.args.n + 1) high
    (subst (λ (k : ℕ). AreQuiet new db key (c.args.n + 1) k) (sym count) (quiet-after new db key c.args.n named c.requires.alone)) its in
    let past : length (entries_of db) ≤ c.entry_count.result = omega (arith, count) in
    c.from_vec.ensures ∙ all-pieces new db c.entry_count.result c.push_referrers-2.new.pieces.items past all.pieces
