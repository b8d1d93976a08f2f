use Rattle.std.proofs.Common.{◌≡◌, ◌<◌, ◌^◌, true, take, fold}
use Rattle.std.specs.List.{list_all}
use Rattle.std.specs.Char.{is_ascii_digit}
use Rattle.bib_edit.specs.Numbers.{with_digit}
use Rattle.bib_edit.proofs.numbers.number_said.Given as goal

abbrev pub invariant-read : goal.invariant-read
invariant-read l = record {
  digits : list_all is_ascii_digit (take l.digit-index l.digits) ≡ true;
  value : l.number ≡ fold with_digit 0 (take l.digit-index l.digits);
  small : l.number < 10 ^ l.digit-index;
}
