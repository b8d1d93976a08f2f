use Rattle.bib_keys.proofs.Words.{◌+◌, ◌++◌, List, ◌∷◌, drop, subst, arith, Text, AreTaken}
use Rattle.bib_keys.proofs.TakenLists.{AreTakenBut, but-all, but-one_less, but-past}
use Rattle.bib_keys.proofs.Walks.{next-read}
use Rattle.bib_keys.proofs.taken_keys.TakenKeys.add_all.Goals as goal

pub loop-key-init : goal.loop-key-init
loop-key-init c = (λ others are. but-all others c.args.keys.now c.args.self.now are, omega arith)

pub loop-key-preserved : goal.loop-key-preserved
loop-key-preserved c =
    let count = c.loop-key.invariant.1 in
    let more = c.in_ok-add.ensures.count in (
      λ others are.
          but-one_less c.key-item.result (drop (c.loop-key.key-index + 1) c.args.keys.now) (c.args.keys.now ++ others) c.loop-key.self c.add.new.self
          (subst (λ (rest : List Text). AreTakenBut rest (c.args.keys.now ++ others) c.loop-key.self) (next-read c.args.keys.now c.loop-key.key-index c.key-item.result c.loop-key-test.true c.key-item.is)
          (c.loop-key.invariant.0 others are))
          (λ some them. subst (λ (key : Text). AreTaken (key ∷ some) c.add.new.self) c.as_slice.ensures (c.in_ok-add.ensures.taken some them)),
      omega (arith, count, more),
    )

pub returns-clause-taken : goal.returns-clause-taken
returns-clause-taken c others are =
    but-past c.args.keys.now (c.args.keys.now ++ others) c.loop-key.key-index c.loop-key.self c.loop-key-test.false (c.loop-key.invariant.0 others are)
