use Rattle.bib_scan.proofs.Words.{◌≡◌, ◌+◌, [], length, drop, arith, drop_all, drop_more, is_byte3, Unended, read_quoted, stop}
use Rattle.bib_scan.proofs.BraceLemmas.{found_at, not_found, quoted_takes, quoted_nil, quoted_opens, quoted_closes, quoted_inside, quoted_done, quoted_refused, past, third}
use Rattle.bib_scan.proofs.value.split_quoted.Goals as goal
use Rattle.bib_scan.proofs.value.split_quoted.Goals.{in-123, in-125+else-depth-eq0, in_default-text+else-depth-eq0-2}

pub returns-then-depth-eq0-clause-read : goal.returns-then-depth-eq0-clause-read
returns-then-depth-eq0-clause-read c =
    let t = c.args.text.now in
    let d = c.loop-found.depth in
    let at = c.loop-found.at in
    let here = found_at (is_byte3 123 125 34) (read_quoted d) (quoted_takes d) t c.text_from.result.now at c.in-Some.found (read_quoted 0 t) c.text_from.ensures c.in-Some.ensures c.loop-found.invariant.read in
    rw (c.text_from-then-depth-eq0.ensures, drop_more t (at + c.in-Some.found) 0 here.within)
    (quoted_refused _ _ d _ _ here.read c.if-depth-eq0.true c.in-125.is)

pub returns-then-depth-eq0-2-clause-read : goal.returns-then-depth-eq0-2-clause-read
returns-then-depth-eq0-2-clause-read c =
    let t = c.args.text.now in
    let d = c.loop-found.depth in
    let at = c.loop-found.at in
    let here = found_at (is_byte3 123 125 34) (read_quoted d) (quoted_takes d) t c.text_from.result.now at c.in-Some.found (read_quoted 0 t) c.text_from.ensures c.in-Some.ensures c.loop-found.invariant.read in
    rw (c.split_at.ensures.front, c.text_from-then-depth-eq0-2.ensures)
    (quoted_done _ _ d _ _ here.read c.if-depth-eq0-2.true (third _ here.passes (λ e. omega arith) (λ e. omega arith)))

pub returns-clause-read : goal.returns-clause-read
returns-clause-read c =
    let t = c.args.text.now in
    let d = c.loop-found.depth in
    let gone : drop (length t) t ≡ [] = drop_all _ t (omega arith) in
    rw (c.text_from-2.ensures, gone)
    (not_found (is_byte3 123 125 34) (read_quoted d) (quoted_takes d) (stop Unended []) (quoted_nil d) t c.text_from.result.now c.loop-found.at (read_quoted 0 t) c.text_from.ensures c.in_default.ensures c.loop-found.invariant.read)

pub loop-found-preserved : goal.loop-found-preserved
loop-found-preserved c =
    let t = c.args.text.now in
    let d = c.loop-found.depth in
    let at = c.loop-found.at in
    let place = c.loop-found.at + c.in-Some.found in
    let here = found_at (is_byte3 123 125 34) (read_quoted d) (quoted_takes d) t c.text_from.result.now at c.in-Some.found (read_quoted 0 t) c.text_from.ensures c.in-Some.ensures c.loop-found.invariant.read in
    elim c.match-text-place.branch [
      | in-123 w ↦ record {
        within = omega (arith, here.within);
        shallow = omega (arith, w.depth-is);
        read = rw w.depth-is (past (read_quoted d) t place _ _ here.within here.read (quoted_opens d _ _ w.in-123.is));
      }
      | in-125+else-depth-eq0 w ↦ record {
        within = omega (arith, here.within);
        shallow = omega (arith, w.depth-is);
        read = rw w.depth-is (past (read_quoted d) t place _ _ here.within here.read (quoted_closes d _ _ w.if-depth-eq0.false w.in-125.is));
      }
      | in_default-text+else-depth-eq0-2 w ↦ record {
        within = omega (arith, here.within);
        shallow = omega (arith, w.depth-is);
        read = rw w.depth-is (past (read_quoted d) t place _ _ here.within here.read (quoted_inside d _ _ w.if-depth-eq0-2.false (third _ here.passes (λ e. omega arith) (λ e. omega arith))));
      }
    ]
