use Rattle.ris_format.proofs.Words.{◌∙◌, ◌&&◌, Bor, Bool, refl, sym, ap, list_all, Text, is_plain_name}
use Rattle.std.proofs.Common.{map, List}
use Rattle.ris_format.proofs.LoopSteps.{passed, decided, none_left}
use Rattle.ris_format.proofs.people.are_all_plain.Goals as goal

abbrev on : List (Bor Text) → Bool
on names = list_all is_plain_name (map (λ (n : Bor Text). n.now) names)

pub loop-name-preserved : goal.loop-name-preserved
loop-name-preserved c =
    passed on c.args.names.now c.loop-name.name-index _ _ (λ rest. ap (λ b. b && on rest) (sym c.in_ok-is_plain_name.ensures ∙ c.if-not-branch.false)) c.loop-name-test.true c.loop-name.invariant

pub returns-then-not-branch : goal.returns-then-not-branch
returns-then-not-branch c =
    decided on c.args.names.now c.loop-name.name-index _ _ _ (λ rest. ap (λ b. b && on rest) (sym c.in_ok-is_plain_name.ensures ∙ c.if-not-branch.true)) c.loop-name-test.true c.loop-name.invariant

pub returns : goal.returns
returns c = none_left on c.args.names.now c.loop-name.name-index _ _ refl c.loop-name-test.false c.loop-name.invariant
