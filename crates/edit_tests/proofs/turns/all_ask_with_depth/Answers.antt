use Rattle.std.proofs.Common.{rules, sym, subst}
use Rattle.std.proofs.lemmas.List.{take_all}
use Rattle.std.proofs.lemmas.List.Elements.{All-more, All-same}
use Rattle.bib_data.specs.Depths.{AsksWithDepth}
use Rattle.edit_tests.proofs.turns.all_ask_with_depth.Goals as goal

pub loop-request-preserved : goal.loop-request-preserved
loop-request-preserved c =
    All-more AsksWithDepth c.args.requests.now c.loop-request.request-index c.request-item.result c.loop-request-test.true c.loop-request.invariant
    (subst AsksWithDepth c.request-item.is (c.asks_with_depth.ensures (search rules)))

pub returns : goal.returns
returns c = λ _.
    All-same AsksWithDepth c.args.requests.now _ (sym (take_all c.loop-request.request-index c.args.requests.now c.loop-request-test.false)) c.loop-request.invariant
