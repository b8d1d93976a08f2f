-- No promise rests on this page: it retraces how a value is taken apart, from left to right, so that lemmas can lead from
-- the code to `ValueParts`.
use Rattle.std.specs.Prelude.{ℕ, zero, suc, ◌+◌, ◌-◌, List, [], ◌∷◌, length, Result, Ok, Err}
use Rattle.bib_spec.specs.Text.{Text, is_space, after_run}
use Rattle.bib_spec.specs.Tree as tree
use Rattle.bib_spec.specs.Fault.{ExpectedCommaOrClose}
use Rattle.bib_scan.specs.LeftToRight.{Halt, expected, read_part, past_hash, go_on, ◌>>=◌}
use Rattle.bib_scan.specs.ValueParts.{part_kind}
use Rattle.bib_scan.specs.declared.parts.PartSpan.{PartSpan}

-- the text after a `#` and white space
abbrev pub read_link : Text → Result Text Halt
read_link t = go_on (Err (expected ExpectedCommaOrClose (after_run is_space t))) Ok (past_hash (after_run is_space t))

-- no parts if the text ends, and else the parts that `more` gives
abbrev pub unless_end : Result (List PartSpan) Halt → Text → Result (List PartSpan) Halt
unless_end more [] = Ok []
unless_end more (b ∷ t) = more

-- where this part lies, from its first byte to the first byte after it
abbrev pub part_span : tree.Part → ℕ → ℕ → PartSpan
part_span p start end = record { kind = part_kind p; start = start; end = end }

-- Where each part of `t` begins and ends in a text of `total` bytes that ends with `t`. The text `t` begins with a part,
-- and has fewer than `n` parts.
unfoldable pub read_parts : ℕ → ℕ → ℕ → Text → Result (List PartSpan) Halt
read_parts limit total zero t = Err (expected ExpectedCommaOrClose t)
read_parts limit total (suc n) t = do
  first ← read_part limit t
  later ← unless_end (read_link first.1 >>= read_parts limit total n) first.1
  Ok (part_span first.0 (total - length t) (total - length first.1) ∷ later)

-- where each part of a whole text begins and ends
abbrev pub read_all_parts : ℕ → Text → Result (List PartSpan) Halt
read_all_parts limit t = read_parts limit (length t) (length t + 1) t
