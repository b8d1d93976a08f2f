use Rattle.ris_format.proofs.Words.{Bor, refl, flat_map, Text, line, made_more, made_all}
use Rattle.std.proofs.Common.{map, List}
use Rattle.ris_format.proofs.keywords.push_keywords.Goals as goal

pub loop-word-preserved : goal.loop-word-preserved
loop-word-preserved g c =
    rw c.in_ok-push_word.ensures
    (made_more (λ (words : List (Bor Text)). flat_map g.T.Kept.kept (map (line c.args.tag) (map (λ (w : Bor Text). w.now) words)))
    (λ (w : Bor Text). g.T.Kept.kept (line c.args.tag w.now)) _ c.loop-word.word-index _ c.loop-word.lines.items _ (λ x rest. refl) c.loop-word-test.true c.loop-word.invariant)

pub returns : goal.returns
returns g c =
    made_all (λ (words : List (Bor Text)). flat_map g.T.Kept.kept (map (line c.args.tag) (map (λ (w : Bor Text). w.now) words)))
    _ c.loop-word.word-index c.loop-word.lines.items _ refl c.loop-word-test.false c.loop-word.invariant
