use Rattle.bib_store.proofs.Words.{ℕ, ◌<◌, List, length, sym, ◌∙◌, subst, entries_of}
use Rattle.std.proofs.Common.{All}
use Rattle.bib_store.proofs.Citations.{found_within}
use Rattle.bib_store.proofs.database.Database.cited.Goals as goal

pub with_parents-requires : goal.with_parents-requires
with_parents-requires g c = λ db reads.
    subst (λ (l : List ℕ). All (λ n. n < length (entries_of db)) l) (sym (c.as_slice.ensures.value ∙ c.in_ok-found.ensures.numbers db reads)) (found_within (entries_of db) c.args.keys.now)
