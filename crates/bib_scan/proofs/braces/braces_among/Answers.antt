use Rattle.bib_scan.proofs.Words.{◌≡◌, ◌↔◌, ◌+◌, ◌<◌, true, length, sym, subst, arith, bit_at, is_byte2, IsBraceAt}
use Rattle.std.specs.Simd.Lanes.{chunk}
use Rattle.std.proofs.lemmas.Simd.{length-chunk, get_or-chunk}
use Rattle.bib_scan.proofs.MaskLemmas.{bit_at-lanes, mask-of_two}
use Rattle.bib_scan.proofs.braces.braces_among.Goals as goal

pub returns : goal.returns
returns c k =
    let t = c.args.text.now in
    let at = c.args.at in
    let v = chunk at 32 t in
    let long : length v ≡ 32 = length-chunk at 32 t c.requires in
    let lane = bit_at-lanes (is_byte2 123 125) v 32 k long in
    subst (λ m. (bit_at m k ≡ 1) ↔ ((k < 32) × IsBraceAt t (at + k))) (sym (mask-of_two 123 125 32 v long (omega arith))) (
      λ h. let w = lane.0 h in (w.0, subst (λ b. is_byte2 123 125 b ≡ true) (get_or-chunk at 32 t k 0 w.0) w.1),
      λ h. lane.1 (h.0, subst (λ b. is_byte2 123 125 b ≡ true) (sym (get_or-chunk at 32 t k 0 h.0)) h.1),
    )
