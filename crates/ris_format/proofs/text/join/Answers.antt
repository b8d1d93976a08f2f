use Rattle.ris_format.proofs.Words.{◌∙◌, ◌++◌, Bor, refl, flat_map, Text, made_more, made_all}
use Rattle.std.proofs.Common.{map, List}
use Rattle.std.proofs.lemmas.List.{append_assoc}
use Rattle.ris_format.proofs.LoopSteps.{joined_first}
use Rattle.ris_format.proofs.text.join.Goals as goal

abbrev on : Text → List (Bor Text) → Text
on between texts = flat_map (λ y. between ++ y) (map (λ (x : Bor Text). x.now) texts)

pub loop-text-init : goal.loop-text-init
loop-text-init c = rw c.in_ok-out.ensures.items (joined_first c.args.between.now c.args.texts.now _ c.in-len1-up.len_at_least)

pub loop-text-preserved : goal.loop-text-preserved
loop-text-preserved c =
    let between = c.args.between.now in
    rw (c.in_ok-extend_from_slice-2.ensures.items, c.in_ok-extend_from_slice.ensures.items, append_assoc c.loop-text.out.items between _)
    (made_more (on between) (λ (x : Bor Text). between ++ x.now) _ c.loop-text.text-index _ c.loop-text.out.items _ (λ x rest. refl) c.loop-text-test.true c.loop-text.invariant)

pub returns : goal.returns
returns c = c.from_vec.ensures ∙ made_all (on c.args.between.now) _ c.loop-text.text-index c.loop-text.out.items _ refl c.loop-text-test.false c.loop-text.invariant
