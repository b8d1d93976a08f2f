use Rattle.std.proofs.Common.{[], drop, codes, refl}
use Rattle.bib_spec.specs.Text.{Text, is_space, is_name_byte, is_name_within}
use Rattle.bib_spec.specs.Clean.{begins_command}
use Rattle.bib_spec.specs.Fault.{ExpectedCommaOrClose, ExpectedValue, Unended}
use Rattle.bib_scan.specs.LeftToRight.{stop, read_braced, read_quoted, read_part, read_links, read_assignment, read_row, read_rows, read_entry, read_body, read_command, next_command, read_commands}
use Rattle.bib_faults.proofs.FaultRows.{stops, reads}
use Rattle.bib_faults.proofs.laws.faults_are_listed.Goals as goal

abbrev same_line : Text
same_line = codes "@misc{a b} @misc{c d}"

abbrev each_entry : Text
each_entry = codes "@misc{a, t = 1 u = 2, v = 3}\n@misc{b, w = x y}\n"

abbrev definition : Text
definition = codes "@string{m = }\n@misc{a, t = m # n}"

abbrev at_sign : Text
at_sign = codes "@misc{a @misc{b}"

abbrev unended : Text
unended = codes "@misc{a, t = {x}\n@misc{b, t = {y}"

pub returns : goal.returns
unfolding is_space is_name_byte is_name_within begins_command read_braced read_quoted read_part read_links read_assignment read_row read_rows read_entry read_body read_command next_command read_commands
returns c = record {
  same_line = (stops 0 same_line (stop ExpectedCommaOrClose (drop 8 same_line)) refl, (stops 8 (drop 8 same_line) (stop ExpectedCommaOrClose (drop 19 same_line)) refl, reads (drop 19 same_line) refl));
  each_entry = (stops 0 each_entry (stop ExpectedCommaOrClose (drop 15 each_entry)) refl, (stops 15 (drop 15 each_entry) (stop ExpectedCommaOrClose (drop 44 each_entry)) refl, reads (drop 44 each_entry) refl));
  definition = (stops 0 definition (stop ExpectedValue (drop 12 definition)) refl, reads (drop 12 definition) refl);
  at_sign = (stops 0 at_sign (stop ExpectedCommaOrClose (drop 8 at_sign)) refl, reads (drop 8 at_sign) refl);
  unended = (stops 0 unended (stop ExpectedCommaOrClose (drop 17 unended)) refl, (stops 17 (drop 17 unended) (stop Unended []) refl, reads [] refl));
}
