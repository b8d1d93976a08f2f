use Rattle.ris_format.proofs.Words.{◌∙◌, ◌++◌, Bor, refl, flat_map, Text, read_name, made_more, made_all}
use Rattle.std.proofs.Common.{map, List}
use Rattle.std.specs.Prelude.{codes}
use Rattle.ris_format.proofs.people.read_people.Goals as goal

abbrev on : List (Bor Text) → Text
on values = flat_map (λ y. codes " and " ++ y) (map read_name (map (λ (v : Bor Text). v.now) values))

pub loop-value-preserved : goal.loop-value-preserved
loop-value-preserved c =
    rw c.in_ok-push_read.ensures
    (made_more on (λ (v : Bor Text). codes " and " ++ read_name v.now) _ c.loop-value.value-index _ c.loop-value.list.items _ (λ x rest. refl) c.loop-value-test.true c.loop-value.invariant)

pub returns : goal.returns
returns c = c.from_vec.ensures ∙ made_all on _ c.loop-value.value-index c.loop-value.list.items _ refl c.loop-value-test.false c.loop-value.invariant
