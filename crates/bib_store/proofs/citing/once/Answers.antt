use Rattle.bib_store.proofs.Words.{ℕ, ◌≡◌, ◌<◌, List, get_or, length, sym, subst, arith, get_or_default}
use Rattle.bib_store.proofs.Citations.{IsListing, listing_none, listing_new, listing_old}
use Rattle.bib_store.proofs.citing.once.Goals as goal
use Rattle.bib_store.proofs.citing.once.Goals.{then-not-marks-n+in_ok-push, else-not-marks-n}

pub loop-n-init : goal.loop-n-init
loop-n-init c = subst (λ (l : List ℕ). IsListing c.args.numbers.now l c.args.marks.now 0) (sym c.new-listed.ensures.items) (listing_none c.args.numbers.now c.args.marks.now c.requires.unmarked)

pub loop-n-preserved : goal.loop-n-preserved
loop-n-preserved c =
    let numbers : List ℕ = c.args.numbers.now in
    let i : ℕ = c.loop-n.n-index in
    let x : ℕ = get_or numbers i 0 in
    let lt : i < length numbers = c.loop-n-test.true in
    let is : x ≡ get_or numbers i x = get_or_default numbers i 0 x lt in
    let below : x < length c.args.marks.now = c.requires.numbers i 0 lt in
    let within : x < length c.loop-n.marks = omega (arith, below, c.loop-n.auto.marks) in
    elim c.if-not-marks-n.branch [
      | then-not-marks-n+in_ok-push w ↦
          rw (w.marks-is, w.listed-is, w.in_ok-push.ensures.items)
          (listing_new numbers c.loop-n.listed.items c.loop-n.marks i x c.loop-n.invariant lt is within w.if-not-marks-n.true)
      | else-not-marks-n w ↦
          rw (w.marks-is, w.listed-is) (listing_old numbers c.loop-n.listed.items c.loop-n.marks i x c.loop-n.invariant lt is within w.if-not-marks-n.false)
    ]
