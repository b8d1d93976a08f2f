-- What the way back is computed for.
use Rattle.std.specs.Prelude.{ℕ}

-- the new bytes of all pieces together are fewer (dialect)
abbrev pub new_bytes_limit : ℕ
new_bytes_limit = 4294967296
