-- The contents of a journal. (dialect)
use Rattle.std.specs.Prelude.{ℕ, ◌≡◌, Bool, true, ◌||◌, ◌&&◌, nat_le, List, length}
use Rattle.std.specs.List.{list_all}
use Rattle.std.specs.Char.{is_ascii_digit}
use Rattle.hex.specs.Hex.{encode_lower}
use Rattle.sha2.specs.Sha256.{sha256}
use Rattle.bib_spec.specs.Text.{Text}
use Rattle.history_spec.specs.Steps.{Step, AreSteps}

-- the digest of the present file, the past steps from the oldest, and the future steps from the next to be redone
pub record Contents : Type 0 where
  pub digest : Text
  pub past : List Step
  pub future : List Step

-- ---- digests

-- the digest of a file: its SHA-256 (FIPS 180-4), in lower-case hex digits
unfoldable pub digest_of : Text → Text
digest_of file = encode_lower (sha256 file)

-- a lower-case hex digit
abbrev pub is_hex_digit : ℕ → Bool
is_hex_digit b = is_ascii_digit b || (nat_le 97 b && nat_le b 102)

-- 64 lower-case hex digits
pub record IsDigest (digest : Text) : Type 0 where
  pub long : length digest ≡ 64
  pub digits : list_all is_hex_digit digest ≡ true

-- ---- contents

-- contents that can be written: a digest, and steps within the limits
pub record AreContents (c : Contents) : Type 0 where
  pub digest : IsDigest c.digest
  pub steps : AreSteps c.past c.future
