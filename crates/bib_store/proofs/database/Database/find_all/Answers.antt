use Rattle.bib_store.proofs.Words.{ℕ, ◌≡◌, ◌<◌, List, get_or, length, sym, subst, arith, Text, entries_of}
use Rattle.bib_store.proofs.Citations.{found_more, unknown_more, found_all}
use Rattle.bib_store.proofs.database.Database.find_all.Goals as goal
use Rattle.bib_store.proofs.database.Database.find_all.Goals.{in-Ok+in_ok-push-in-Ok, in-Err+in_ok-push-in-Err}

pub loop-place-preserved : goal.loop-place-preserved
loop-place-preserved g c = λ db reads.
    let entries = entries_of db in
    let keys : List Text = c.args.keys.now in
    let i : ℕ = c.loop-place.place in
    let key : Text = c.as_slice.result.now in
    let lt : i < length keys = omega arith in
    let is : key ≡ get_or keys i key = subst (λ (k : Text). k ≡ get_or keys i k) (sym c.as_slice.ensures) c.index-keys-place.is in
    let before = c.loop-place.invariant db reads in
    elim c.match-find.branch [
      | in-Ok+in_ok-push-in-Ok w ↦
          rw (w.numbers-is, w.unknown-is, w.in_ok-push-in-Ok.ensures.items)
          (found_more entries keys c.loop-place.numbers.items c.loop-place.unknown.items i key w.in-Ok.n before lt is (w.in-Ok.ensures.found db reads))
      | in-Err+in_ok-push-in-Err w ↦
          rw (w.numbers-is, w.unknown-is, w.in_ok-push-in-Err.ensures.items)
          (unknown_more entries keys c.loop-place.numbers.items c.loop-place.unknown.items i key before lt is (w.in-Err.ensures.none.1 db reads))
    ]

pub returns-clause-unknown : goal.returns-clause-unknown
returns-clause-unknown g c = λ db reads.
    found_all (entries_of db) c.args.keys.now c.loop-place.numbers.items c.loop-place.unknown.items c.loop-place.place (c.loop-place.invariant db reads) (omega arith)
