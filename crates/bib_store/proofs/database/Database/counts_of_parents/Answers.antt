use Rattle.bib_store.proofs.Words.{ℕ, ◌≡◌, ◌<◌, ◌+◌, List, get_or, set, length, take, sym, ap, ◌∙◌, subst, arith, get_or_default, length-set, entries_of, AreCounts}
use Rattle.std.proofs.Common.{Vec, Global}
use Rattle.bib_store.proofs.Citations.{counts_more, counts_same, count_small}
use Rattle.bib_store.proofs.database.Database.counts_of_parents.Goals as goal
use Rattle.bib_store.proofs.database.Database.counts_of_parents.Goals.{in-Some, in_default}

pub overflow_add-index_mut : goal.overflow_add-index_mut
overflow_add-index_mut g c =
    let db = c.opens.ensures.0 in
    let reads = c.opens.ensures.1.reads in
    let counts : List ℕ = c.loop-n.counts.items in
    let p : ℕ = c.in-Some.parent in
    let below : p < length (entries_of db) = c.in-Some.ensures.number db reads in
    let long : length counts ≡ length (entries_of db) = c.loop-n.invariant.count db reads in
    let within : p < length counts = omega (arith, below, long) in
    let small = count_small (entries_of db) c.args.listed.now counts c.loop-n.n-index p (c.loop-n.invariant.counts db reads) (omega arith) within in
    let value = c.index_mut.ensures.value ∙ get_or_default counts p c.index_mut.result.now 0 within in
    omega (arith, small, value)

pub loop-n-preserved : goal.loop-n-preserved
loop-n-preserved g c =
    let listed : List ℕ = c.args.listed.now in
    let i : ℕ = c.loop-n.n-index in
    let n : ℕ = get_or listed i 0 in
    let lt : i < length listed = c.loop-n-test.true in
    let is : n ≡ get_or listed i n = get_or_default listed i 0 n lt in
    let counts : List ℕ = c.loop-n.counts.items in
    elim c.match-parent.branch [
      | in-Some w ↦
          let p : ℕ = w.in-Some.parent in
          let made : c.match-parent.counts.items ≡ set counts p (w.index_mut.result.now + 1) = ap (λ (v : Vec ℕ Global). v.items) w.counts-is in
          record {
            counts = λ db reads.
                let below : p < length (entries_of db) = w.in-Some.ensures.number db reads in
                let long : length counts ≡ length (entries_of db) = c.loop-n.invariant.count db reads in
                let within : p < length counts = omega (arith, below, long) in
                let value : w.index_mut.result.now ≡ get_or counts p 0 = w.index_mut.ensures.value ∙ get_or_default counts p w.index_mut.result.now 0 within in
                subst (λ (l : List ℕ). AreCounts (entries_of db) (take (i + 1) listed) l) (sym (made ∙ ap (λ v. set counts p (v + 1)) value))
                (counts_more (entries_of db) listed counts i n (c.loop-n.invariant.counts db reads) lt is p (sym (c.parent.ensures.parent db reads) ∙ w.in-Some.is) within);
            count = λ db reads. ap (length {A = ℕ}) made ∙ length-set counts p (w.index_mut.result.now + 1) ∙ c.loop-n.invariant.count db reads;
          }
      | in_default w ↦
          let kept : c.match-parent.counts.items ≡ counts = ap (λ (v : Vec ℕ Global). v.items) w.counts-is in
          record {
            counts = λ db reads.
                subst (λ (l : List ℕ). AreCounts (entries_of db) (take (i + 1) listed) l) (sym kept)
                (counts_same (entries_of db) listed counts i n (c.loop-n.invariant.counts db reads) lt is (sym (c.parent.ensures.parent db reads) ∙ w.in_default.is));
            count = λ db reads. ap (length {A = ℕ}) kept ∙ c.loop-n.invariant.count db reads;
          }
    ]
