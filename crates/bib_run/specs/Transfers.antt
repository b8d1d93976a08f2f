-- What was read of a source, and what was written to a sink.
use Rattle.std.specs.Prelude.{◌≡◌, ℕ, ◌<◌, ◌≤◌, ◌≢◌, Bool, true, false, length, take, Option, IfSome}
use Rattle.std.specs.Io.KnownBytes.{Appends, Consumes, IsAtEnd}
use Rattle.bib_spec.specs.Text.{Text}

-- the bytes that a source gave: all that it still had, or the first `most`
pub record ReadsUpTo (most : ℕ) (before after : Option Text) (bytes : Text) : Type 0 where
  pub given : Consumes before after bytes
  pub within : length bytes ≤ most
  pub whole : length bytes ≢ most → IsAtEnd after

-- The bytes are all that a source still had, if it tells them, and it was read to its end or up to its first `most` bytes.
pub record HasBytes (most : ℕ) (before after : Option Text) (bytes : Text) : Type 0 where
  pub all : IfSome before (λ told. bytes ≡ told)
  pub taken : Consumes before after (take most bytes)
  pub ended : length bytes < most → IsAtEnd after

-- a prefix of the bytes was written: all of them if `done`
pub record WritesPrefix (before after : Option Text) (bytes : Text) (done : Bool) : Type 0 where
  pub count : ℕ
  pub within : count ≤ length bytes
  pub given : Appends before after (take count bytes)
  pub whole : done ≡ true → count ≡ length bytes

-- the text was written, or a prefix of it if a call failed
pub record Tells (before after : Option Text) (text : Text) (failed : Bool) : Type 0 where
  pub done : Bool
  pub written : WritesPrefix before after text done
  pub fault : done ≡ false → failed ≡ true
