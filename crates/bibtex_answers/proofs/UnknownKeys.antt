-- Unknown keys are keys of the list.
use Rattle.std.proofs.Common.{ℕ, suc, ◌+◌, ◌<◌, List, [], ◌∷◌, length, All, arith}
use Rattle.std.specs.List.{enumerate_from}
use Rattle.std.proofs.lemmas.List.Elements.{All-nil, All-cons, All-filter, All-map}
use Rattle.bib_spec.specs.Text.{Text}
use Rattle.bib_spec.specs.Records.{EntryTexts}
use Rattle.bibtex_places.specs.Lists.{is_unknown, unknown_places}

places_within : (keys : List Text) (count n : ℕ) → n + length keys < suc count → All (λ p. p.0 < count) (enumerate_from n keys)
places_within [] count n le = All-nil (λ p. p.0 < count)
places_within (key ∷ keys) count n le =
    All-cons (λ p. p.0 < count) (n, key) (enumerate_from (n + 1) keys) (omega (arith, le)) (places_within keys count (n + 1) (omega (arith, le)))

pub unknown_within : (entries : List EntryTexts) (keys : List Text) → All (λ place. place < length keys) (unknown_places entries keys)
unknown_within entries keys =
    All-map (λ n. n < length keys) (λ p. p.0) _
    (All-filter (λ p. is_unknown entries p.1) (λ p. p.0 < length keys) (enumerate_from 0 keys) (places_within keys (length keys) 0 (omega arith)))
