use Rattle.bib_store.proofs.Words.{ℕ, ◌≡◌, List, Bool, true, false, not, nat_le, get_or, ap, arith, is_added}
use Rattle.std.proofs.lemmas.Bool.{and_from, and_left, and_right, le-leb, lt-leb}
use Rattle.bib_store.proofs.Citations.{added_more, added_same}
use Rattle.bib_store.proofs.citing.with_added.Goals as goal
use Rattle.bib_store.proofs.citing.with_added.Goals.{then-not-marks-n+then-counts-n+in_ok-push, else-not-marks-n, else-not-marks-n-via-then-not-marks-n+else-counts-n, else-not-marks-n-via-else-not-marks-n}

pub loop-n-preserved : goal.loop-n-preserved
loop-n-preserved c =
    let listed : List ℕ = c.args.listed.items in
    let n : ℕ = c.loop-n.n in
    let p : ℕ → Bool = is_added c.args.marks.now c.args.counts.now c.args.min in
    let mark : Bool = get_or c.args.marks.now n false in
    let count : ℕ = get_or c.args.counts.now n 0 in
    elim c.if-not-marks-n.branch [
      | then-not-marks-n+then-counts-n+in_ok-push w ↦
          let added : p n ≡ true = and_from (not mark) (nat_le c.args.min count) (ap not w.if-not-marks-n.true) (le-leb c.args.min count (omega (arith, w.if-counts-n.true))) in
          rw (w.all-is, w.in_ok-push.ensures.items) (added_more p listed c.loop-n.all.items n c.loop-n.invariant added)
      | else-not-marks-n w ↦ elim w.else-not-marks-n.branch [
        | else-not-marks-n-via-then-not-marks-n+else-counts-n v ↦
            let left : p n ≡ false = and_right (not mark) (nat_le c.args.min count) (lt-leb c.args.min count v.if-counts-n.false) in
            rw w.all-is (added_same p listed c.loop-n.all.items n c.loop-n.invariant left)
        | else-not-marks-n-via-else-not-marks-n v ↦
            let left : p n ≡ false = and_left (not mark) (nat_le c.args.min count) (ap not v.if-not-marks-n.false) in
            rw w.all-is (added_same p listed c.loop-n.all.items n c.loop-n.invariant left)
      ]
    ]
