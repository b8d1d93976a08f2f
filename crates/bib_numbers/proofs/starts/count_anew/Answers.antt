use Rattle.bib_numbers.proofs.Words.{◌≡◌, ◌<◌, ◌∙◌, ℕ, [], length, ap, arith, get_or_read, page_at}
use Rattle.bib_numbers.proofs.FilledPages.{counted_start, counted_more, counted_all, count_fits}
use Rattle.bib_numbers.proofs.starts.count_anew.Goals as goal

pub pass-init : goal.pass-init
pass-init c = counted_start c.args.leaves.now c.args.firsts.now c.requires.each

pub overflow_add-first : goal.overflow_add-first
overflow_add-first c =
    let inside : c.pass.p < length c.args.leaves.now = omega (arith, c.pass-test.true) in
    let len : c.len-first.result ≡ length (page_at c.args.leaves.now c.pass.p) = c.len-first.ensures ∙ ap (length {A = ℕ}) (get_or_read c.args.leaves.now c.pass.p c.index-leaves-p.result inside c.index-leaves-p.is []) in
    omega (arith, count_fits c.args.leaves.now c.args.firsts.now c.requires.each c.pass.firsts c.pass.p c.pass.first c.len-first.result inside len c.pass.invariant, c.requires.fits)

pub pass-preserved : goal.pass-preserved
pass-preserved c =
    let inside : c.pass.p < length c.args.leaves.now = omega (arith, c.pass-test.true) in
    let len : c.len-first.result ≡ length (page_at c.args.leaves.now c.pass.p) = c.len-first.ensures ∙ ap (length {A = ℕ}) (get_or_read c.args.leaves.now c.pass.p c.index-leaves-p.result inside c.index-leaves-p.is []) in
    counted_more c.args.leaves.now c.args.firsts.now c.requires.each c.pass.firsts c.pass.p c.pass.first c.len-first.result inside len c.pass.invariant

pub returns : goal.returns
returns c = counted_all c.args.leaves.now c.args.firsts.now c.requires.each c.pass.firsts c.pass.p c.pass.first (omega (arith, c.pass-test.false)) c.pass.invariant
