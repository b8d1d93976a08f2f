use Rattle.std.proofs.Common.{◌≡◌, ◌∙◌, ℕ, ◌++◌, drop, ap, arith}
use Rattle.bibtex_spec.specs.Plain.{is_in_last_line}
use Rattle.bibtex_plain.proofs.lines.chunk_line.Goals as goal

pub returns-clause-line : goal.returns-clause-line
returns-clause-line c more over is =
    ap (λ (n : ℕ). is_in_last_line (drop n c.args.chunk.now ++ more)) (let none = c.bytes-test.false in let it : 0 ≡ c.bytes.k = omega (arith, none) in it) ∙ c.bytes.invariant.line more over is
