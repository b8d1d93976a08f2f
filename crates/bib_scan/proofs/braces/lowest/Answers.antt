use Rattle.bib_scan.proofs.Words.{arith, inl, inr, cases_lt}
use Rattle.std.proofs.Common.{w64}
use Rattle.std.specs.Int.{trailing_zeros}
use Rattle.std.proofs.lemmas.Nat.Bits.{bit_at-trailing_zeros}
use Rattle.bib_scan.proofs.braces.lowest.Goals as goal

pub returns-clause-set : goal.returns-clause-set
returns-clause-set c = (bit_at-trailing_zeros w64 c.args.bits (omega (arith, c.requires)) c.ranges.bits.fits).1

pub returns-clause-below : goal.returns-clause-below
returns-clause-below c k set =
    let first = bit_at-trailing_zeros w64 c.args.bits (omega (arith, c.requires)) c.ranges.bits.fits in
    elim (cases_lt k (trailing_zeros w64 c.args.bits)) [ inl low ↦ absurd (omega (arith, first.2 k low)) | inr high ↦ high ]
