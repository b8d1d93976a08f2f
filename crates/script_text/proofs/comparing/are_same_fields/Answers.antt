use Rattle.std.proofs.Common.{arith}
use Rattle.script_text.proofs.SameLists.{same_more, same_all}
use Rattle.script_text.proofs.comparing.are_same_fields.Goals as goal

pub fields-preserved : goal.fields-preserved
fields-preserved c =
    let in_a = c.fields-test.true in
    let count = c.if-a-b.false in
    same_more c.args.a.now c.args.b.now c.fields.n c.index-a-n.result c.index-b-n.result c.fields.invariant in_a (omega (arith, in_a, count))
    c.index-a-n.is c.index-b-n.is (c.is_same_field.ensures c.if-not-is_same_field.false)

pub returns : goal.returns
returns c = λ _. same_all c.args.a.now c.args.b.now c.fields.n c.if-a-b.false c.fields-test.false c.fields.invariant
