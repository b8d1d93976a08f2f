use Rattle.bib_store.proofs.Words.{map, sym, subst, ◌∙◌, ap, Macros, entry_in, crossref_text, AreAtMost, first_too_long, placed_texts}
use Rattle.bib_store.proofs.in_place.crossref_at.Goals as goal

pub crossref_within-requires-clause-longest : goal.crossref_within-requires-clause-longest
crossref_within-requires-clause-longest c = subst (AreAtMost c.longest.result) (sym c.at.ensures) (c.longest.ensures.most c.args.n)

pub returns-in-Ok-clause-text : goal.returns-in-Ok-clause-text
returns-in-Ok-clause-text c = λ i tree entry seen.
    ap (λ (m : Macros). map crossref_text (entry_in m i.tree)) (sym c.at.ensures) ∙ c.in-Ok.ensures.text i tree entry seen

pub returns-in-Ok-clause-short : goal.returns-in-Ok-clause-short
returns-in-Ok-clause-short c = λ i tree entry seen.
    ap (λ (m : Macros). first_too_long (placed_texts m i.tree)) (sym c.at.ensures) ∙ c.in-Ok.ensures.short i tree entry seen
