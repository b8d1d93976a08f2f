use Rattle.bib_names.proofs.Words.{map, Bor, List, refl, flat_map, Text, initials_template, print_of}
use Rattle.bib_names.proofs.LoopSteps.{made_more, made_all}
use Rattle.bib_names.proofs.label.initials_of.Goals as goal

abbrev on : List (Bor Text) → Text
on names = flat_map (print_of initials_template) (map (λ (n : Bor Text). n.now) names)

pub loop-name-preserved : goal.loop-name-preserved
loop-name-preserved c =
    rw c.in_ok-push_initials.ensures
    (made_more on (λ (n : Bor Text). print_of initials_template n.now) c.args.names.now c.loop-name.name-index _ c.loop-name.out.items _ (λ x rest. refl) c.loop-name-test.true c.loop-name.invariant)

pub returns : goal.returns
returns c = made_all on c.args.names.now c.loop-name.name-index c.loop-name.out.items _ refl c.loop-name-test.false c.loop-name.invariant
