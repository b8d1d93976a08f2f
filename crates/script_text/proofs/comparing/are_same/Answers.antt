use Rattle.std.proofs.Common.{arith}
use Rattle.script_text.proofs.SameLists.{same_more, same_all}
use Rattle.script_text.proofs.comparing.are_same.Goals as goal

pub requests-preserved : goal.requests-preserved
requests-preserved c =
    let in_a = c.requests-test.true in
    let count = c.if-a-b.false in
    same_more c.args.a.now c.args.b.now c.requests.n c.index-a-n.result c.index-b-n.result c.requests.invariant in_a (omega (arith, in_a, count))
    c.index-a-n.is c.index-b-n.is (c.is_same.ensures c.if-not-is_same.false)

pub returns : goal.returns
returns c = λ _. same_all c.args.a.now c.args.b.now c.requests.n c.if-a-b.false c.requests-test.false c.requests.invariant
