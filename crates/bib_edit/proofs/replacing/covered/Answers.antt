use Rattle.bib_edit.proofs.Words.{ap, arith, [], drop_more, drop_all, tokens_seen, covered}
use Rattle.bib_edit.proofs.replacing.covered.Goals as goal

pub overflow_add-len : goal.overflow_add-len
overflow_add-len c =
    let more = ap (λ ts. covered (tokens_seen ts)) (drop_more c.args.tokens.now c.loop-token.token-index (record { place = 0; bytes = record { ref_ptr = (0, 0); now = [] } }) c.loop-token-test.true) in
    let so_far = c.loop-token.invariant in
    let all = c.requires in omega (arith, more, so_far, all)

pub loop-token-preserved : goal.loop-token-preserved
loop-token-preserved c =
    let more = ap (λ ts. covered (tokens_seen ts)) (drop_more c.args.tokens.now c.loop-token.token-index (record { place = 0; bytes = record { ref_ptr = (0, 0); now = [] } }) c.loop-token-test.true) in
    let so_far = c.loop-token.invariant in omega (arith, more, so_far)

pub returns : goal.returns
returns c =
    let none = ap (λ ts. covered (tokens_seen ts)) (drop_all c.loop-token.token-index c.args.tokens.now c.loop-token-test.false) in
    let so_far = c.loop-token.invariant in omega (arith, none, so_far)
