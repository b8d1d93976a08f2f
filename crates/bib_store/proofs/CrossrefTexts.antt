-- What the crossrefs of entries say, by the numbers of the entries.
use Rattle.bib_store.proofs.Words.{◌≡◌, ℕ, zero, suc, List, [], ◌∷◌, map, refl, EntryTexts, crossref_text}
use Rattle.std.proofs.Common.{slice_get}
use Rattle.std.specs.Option.{option_flatten}
use Rattle.std.specs.Prelude.{option_and_then}

pub crossref_is : (entries : List EntryTexts) (n : ℕ) → option_flatten (slice_get (map crossref_text entries) n) ≡ option_and_then crossref_text (slice_get entries n)
crossref_is [] n = refl
crossref_is (entry ∷ entries) zero = refl
crossref_is (entry ∷ entries) (suc n) = crossref_is entries n
