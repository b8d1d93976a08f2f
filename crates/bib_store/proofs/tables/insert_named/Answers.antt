use Rattle.bib_store.proofs.Words.{◌≡◌, ◌≤◌, ℕ, insert, length, refl, subst, arith, IsTableOf, err_always}
use Rattle.bib_entries.proofs.Tables.{put_back}
use Rattle.bib_store.proofs.tables.insert_named.Goals as goal

pub returns-in_err-insert-clause-err : goal.returns-in_err-insert-clause-err
returns-in_err-insert-clause-err c = err_always c.from_residual.result (refl, λ keys crossrefs count t. c.in_err-insert.ensures.err keys crossrefs t)

pub returns-in-Ok-clause-named : goal.returns-in-Ok-clause-named
returns-in-Ok-clause-named c front rest keys crossrefs parts low t =
    let at : c.rank-k.result ≡ length front = c.rank-k.ensures.below front rest parts in
    subst (λ (k : ℕ). IsTableOf (insert keys k c.args.key.now) (insert crossrefs k c.args.crossref) c.insert.new.self) at
    (c.in_ok-insert.ensures.ok keys crossrefs (omega (arith, at, low)) t)

pub returns-in-Err-clause-err : goal.returns-in-Err-clause-err
returns-in-Err-clause-err c = (
  c.in-Err.ensures.err,
  λ keys crossrefs count t.
      let low : c.rank-k.result ≤ length keys = omega (arith, c.rank-k.ensures.within, count) in
      put_back keys crossrefs c.args.named.now c.insert.new.self c.remove.new.self c.rank-k.result c.args.key.now c.args.crossref low t (c.in_ok-insert.ensures.ok keys crossrefs low t) c.remove.ensures,
)
