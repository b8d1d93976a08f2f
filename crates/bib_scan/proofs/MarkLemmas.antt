-- Braces that were found ahead.
use Rattle.bib_scan.proofs.Words.{◌≡◌, ◌↔◌, ℕ, ◌+◌, ◌-◌, ◌<◌, ◌≤◌, length, sym, subst, arith, inl, inr, bit_at, cases_lt, Nowhere, Text, IsBraceAt, IsMarked}
use Rattle.std.proofs.lemmas.Nat.Bits.{bit_at-zero}
use Rattle.bib_scan.specs.declared.braces.Marked.{Marked}

module _ (t : Text) (at : ℕ) where
  -- if all braces found ahead were passed
  pub none_marked : (m : Marked) → IsMarked t at m → m.bits ≡ 0 → Nowhere (IsBraceAt t) at m.end
  none_marked m known none place low high brace =
      let k = place + 32 - m.end in
      let set : bit_at 0 k ≡ 1 = subst (λ bits. bit_at bits k ≡ 1) none (known.each place low high brace).1 in
      omega (arith, bit_at-zero k)

  -- the next 32 bytes
  pub next_marked : (m : Marked) (bits : ℕ) → IsMarked t at m → m.bits ≡ 0 → m.end + 32 ≤ length t → ((k : ℕ) → (bit_at bits k ≡ 1) ↔ ((k < 32) × IsBraceAt t (m.end + k)))
      → IsMarked t at (record { end = m.end + 32; bits = bits })
  next_marked m bits known none within among = record {
    ordered = omega (arith, known.ordered);
    within = within;
    each = λ place low high brace. elim (cases_lt place m.end) [
      | inl before ↦ absurd (none_marked m known none place low before brace)
      | inr after ↦
          let k = place - m.end in
          let same : m.end + k ≡ place = omega arith in
          let there : k ≡ place + 32 - (m.end + 32) = omega arith in
          (omega arith, subst (λ j. bit_at bits j ≡ 1) there ((among k).1 (omega arith, subst (IsBraceAt t) (sym same) brace)))
    ];
    only = λ k set.
        let w = (among k).0 set in
        let same : m.end + k ≡ m.end + 32 + k - 32 = omega arith in
        (w.0, omega (arith, known.ordered), subst (IsBraceAt t) same w.1);
  }
