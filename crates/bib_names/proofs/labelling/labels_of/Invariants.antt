use Rattle.bib_names.proofs.Words.{◌≡◌, ℕ, List, map, take, range_with_len, count_of, label_at, times}
use Rattle.bib_names.proofs.labelling.labels_of.Given as goal

abbrev pub invariant-loop-base : goal.invariant-loop-base
invariant-loop-base l = record {
  earlier : (text : List ℕ) → times l.earlier.counts text ≡ count_of text (take l.base-index l.bases);
  told : l.labels.items ≡ map (label_at l.bases) (range_with_len 0 l.base-index);
}
