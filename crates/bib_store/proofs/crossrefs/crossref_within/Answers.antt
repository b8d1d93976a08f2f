use Rattle.bib_store.proofs.Words.{◌*◌, ◌≤◌, length, max, subst, arith, Text, raw_limit, ok_always}
use Rattle.bib_store.proofs.ShortEntries.{entry_is_short}
use Rattle.bib_store.proofs.crossrefs.crossref_within.Goals as goal

pub returns-then-are_short-clause-short : goal.returns-then-are_short-clause-short
returns-then-are_short-clause-short g c =
    let k = max c.args.longest 1 in
    ok_always c.short_crossref.result
    (entry_is_short (g.M.MacroTable.macros c.args.macros.now) k (λ name text is. let low = c.requires.longest name text is in omega (arith, low)) (omega arith) c.args.entry.now
    (subst (λ (t : Text). length t * k ≤ raw_limit) c.body.ensures (c.are_short.ensures.short c.if-are_short.true)))
