use Rattle.bib_keys.proofs.Words.{IfOk-weaker, taken_in}
use Rattle.bib_keys.proofs.making.free_key.Goals as goal

pub returns : goal.returns
returns g c = IfOk-weaker c.take_free.result _ _ (λ key h db reads. h (taken_in db c.args.taken.now) (c.in_ok-known.ensures.taken db reads)) c.take_free.ensures.key
