-- No promise rests on this page: it says which braces of a text are known before they are read.
use Rattle.std.specs.Prelude.{ℕ, ◌≡◌, ◌+◌, ◌-◌, ◌<◌, ◌≤◌, length}
use Rattle.std.specs.Int.{bit_at}
use Rattle.memchr.specs.Find.{NoneBefore, Passes, is_byte2}
use Rattle.bib_spec.specs.Bytes.{open_brace, close_brace}
use Rattle.bib_spec.specs.Text.{Text}
use Rattle.bib_scan.specs.declared.braces.Brace.{Brace}
use Rattle.bib_scan.specs.declared.braces.Marked.{Marked}

-- the byte at the place is a brace
abbrev pub IsBraceAt : Text → ℕ → Type 0
IsBraceAt t = Passes (is_byte2 open_brace close_brace) t

-- the bits of `m` are exactly the braces from `at` on before the end of `m`
pub record IsMarked (t : Text) (at : ℕ) (m : Marked) : Type 0 where
  pub ordered : at ≤ m.end
  pub within : m.end ≤ length t
  pub each : (place : ℕ) → at ≤ place → place < m.end → IsBraceAt t place → (m.end ≤ place + 32) × (bit_at m.bits (place + 32 - m.end) ≡ 1)
  pub only : (k : ℕ) → bit_at m.bits k ≡ 1 → (k < 32) × (at + 32 ≤ m.end + k) × IsBraceAt t (m.end + k - 32)

-- `b` is the first brace from `at` on, with the braces that are known after it
pub record IsNextBrace (t : Text) (at : ℕ) (b : Brace) : Type 0 where
  pub first : NoneBefore (IsBraceAt t) at (length t) b.place
  pub brace : IsBraceAt t b.place
  pub later : IsMarked t (b.place + 1) b.later
