use Rattle.bib_names.proofs.Words.{◌≡◌, ◌-◌, ◌+◌, ◌≤◌, length, text_chars}
use Rattle.bib_names.proofs.special.char_count.Given as goal

abbrev pub decreases-loop-count : goal.decreases-loop-count
decreases-loop-count l = l.limit - l.count

abbrev pub invariant-loop-count : goal.invariant-loop-count
invariant-loop-count l = record {
  within : l.count ≤ l.limit;
  left : l.count + length l.chars ≡ length (text_chars l.text);
}
