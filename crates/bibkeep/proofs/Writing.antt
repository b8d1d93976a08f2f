-- Two texts, written one after the other.
use Rattle.std.proofs.Common.{◌≡◌, ◌∙◌, ℕ, ◌+◌, ◌++◌, length, take, Bool, true, false, Option, refl, sym, ap, ap₂, subst, arith, length-append}
use Rattle.std.proofs.Math.Seq.{take-add}
use Rattle.std.proofs.lemmas.Bool.{false≢true}
use Rattle.std.proofs.lemmas.List.{take_at, drop_at, take-append-le}
use Rattle.std.proofs.KnownBytes.{Appends-trans}
use Rattle.std.specs.Io.KnownBytes.{Appends}
use Rattle.bib_spec.specs.Text.{Text}
use Rattle.bib_run.specs.Transfers.{WritesPrefix}
use Rattle.bib_run.proofs.Endings.{Appends-whole}

-- all of the first text was written, and a prefix of the second: a prefix of both
pub wrote_both : (a b c : Option Text) (first second : Text) (done : Bool) → WritesPrefix a b first true → WritesPrefix b c second done
    → WritesPrefix a c (first ++ second) done
wrote_both a b c first second done one two =
    let front : take (length first + two.count) (first ++ second) ≡ first ++ take two.count second =
    take-add (length first) two.count (first ++ second)
    ∙ ap₂ (λ (l r : Text). l ++ take two.count r) (take_at first second (length first) refl) (drop_at first second (length first) refl) in
    record {
      count = length first + two.count;
      within = omega (arith, two.within, length-append first second);
      given = subst (Appends a c) (sym front) (Appends-trans a b c first (take two.count second) (Appends-whole a b first one) two.given);
      whole = λ is. ap (λ (n : ℕ). length first + n) (two.whole is) ∙ sym (length-append first second);
    }

-- a prefix of the first text was written, and nothing of the second: a prefix of both
pub wrote_first : (a b : Option Text) (first second : Text) → WritesPrefix a b first false → WritesPrefix a b (first ++ second) false
wrote_first a b first second one = record {
  count = one.count;
  within = omega (arith, one.within, length-append first second);
  given = subst (Appends a b) (sym (take-append-le one.count first second one.within)) one.given;
  whole = λ is. absurd (false≢true is);
}
