use Rattle.bib_edit.proofs.Words.{◌≡◌, Some, sym, ◌∙◌, ap, refl, arith, false≢true, entries_of}
use Rattle.bib_edit.proofs.Referrers.{other-iff, other-first, none-refers}
use Rattle.bib_edit.proofs.referring.is_parent.Goals as goal

pub returns-in-Some : goal.returns-in-Some
returns-in-Some g c db reads named =
    let same : c.in-Some.n ≡ c.args.m = omega (arith, c.if-n-m.true) in
    other-iff (entries_of db) c.args.key.now c.args.m named c.referrer-in-Some.result c.is_some.result (sym (c.referrer.ensures db reads) ∙ c.in-Some.is ∙ ap Some same)
    (c.referrer-in-Some.ensures db reads) c.is_some.ensures

pub returns-in-Some-2 : goal.returns-in-Some-2
returns-in-Some-2 g c db reads named = (
  λ t. other-first (entries_of db) c.args.key.now c.args.m named c.in-Some.n (sym (c.referrer.ensures db reads) ∙ c.in-Some.is) (λ same. omega (arith, c.if-n-m.false, same)),
  λ p. refl,
)

pub returns-in-None : goal.returns-in-None
returns-in-None g c db reads named = (
  λ t. absurd (false≢true t),
  λ p. absurd (none-refers (entries_of db) c.args.key.now c.args.m named (sym (c.referrer.ensures db reads) ∙ c.in-None.is) p),
)
