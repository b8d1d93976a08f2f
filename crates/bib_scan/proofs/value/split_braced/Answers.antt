use Rattle.bib_scan.proofs.Words.{◌≡◌, [], length, drop, arith, drop_all, is_byte2, Unended, read_braced, stop}
use Rattle.bib_scan.proofs.BraceLemmas.{found_from, not_found_from, braced_takes, braced_nil, braced_opens, braced_closes, braced_done, past, second}
use Rattle.bib_scan.proofs.value.split_braced.Goals as goal
use Rattle.bib_scan.proofs.value.split_braced.Goals.{then-text-place-eq123, else-text-place-eq123+else-depth-eq0}

pub returns-then-depth-eq0-clause-read : goal.returns-then-depth-eq0-clause-read
returns-then-depth-eq0-clause-read c =
    let t = c.args.text.now in
    let d = c.loop-brace.depth in
    let next = c.in-Some.ensures in
    let here = found_from (is_byte2 123 125) (read_braced d) (braced_takes d) t c.loop-brace.at c.in-Some.brace.place (read_braced 0 t) next.first next.brace c.loop-brace.invariant.scanned.read in
    rw (c.split_at.ensures.front, c.text_from.ensures)
    (braced_done _ _ d _ _ here.read c.if-depth-eq0.true (second _ here.passes c.if-text-place-eq123.false))

pub returns-clause-read : goal.returns-clause-read
returns-clause-read c =
    let t = c.args.text.now in
    let d = c.loop-brace.depth in
    let gone : drop (length t) t ≡ [] = drop_all _ t (omega arith) in
    rw (c.text_from-2.ensures, gone)
    (not_found_from (is_byte2 123 125) (read_braced d) (braced_takes d) (stop Unended []) (braced_nil d) t c.loop-brace.at (read_braced 0 t) c.in_default.ensures c.loop-brace.invariant.scanned.read)

pub loop-brace-preserved : goal.loop-brace-preserved
loop-brace-preserved c =
    let t = c.args.text.now in
    let d = c.loop-brace.depth in
    let place = c.in-Some.brace.place in
    let next = c.in-Some.ensures in
    let old = c.loop-brace.invariant.scanned in
    let here = found_from (is_byte2 123 125) (read_braced d) (braced_takes d) t c.loop-brace.at place (read_braced 0 t) next.first next.brace old.read in
    record {
      scanned = elim c.if-text-place-eq123.branch [
        | then-text-place-eq123 w ↦ record {
          within = omega (arith, here.within);
          shallow = omega (arith, w.depth-is, next.first.low, old.shallow);
          read = rw w.depth-is (past (read_braced d) t place _ _ here.within here.read (braced_opens d _ _ w.if-text-place-eq123.true));
        }
        | else-text-place-eq123+else-depth-eq0 w ↦ record {
          within = omega (arith, here.within);
          shallow = omega (arith, w.depth-is, next.first.low, old.shallow);
          read = rw w.depth-is (past (read_braced d) t place _ _ here.within here.read (braced_closes d _ _ w.if-depth-eq0.false (second _ here.passes w.if-text-place-eq123.false)));
        }
      ];
      known = next.later;
    }
