use Rattle.bib_names.proofs.Words.{◌≡◌, ◌-◌, length, chars_from}
use Rattle.bib_names.specs.Scanning.{IsCharPlace}
use Rattle.bib_names.proofs.special.Chars.next.Given as goal

abbrev pub decreases-loop-place : goal.decreases-loop-place
decreases-loop-place l = length l.text - l.place

abbrev pub invariant-loop-place : goal.invariant-loop-place
invariant-loop-place l = record {
  here : IsCharPlace l.text l.place l.braces.opened l.braces.closed;
  told : chars_from l.text l.place ≡ chars_from l.text l.initial.place;
}
