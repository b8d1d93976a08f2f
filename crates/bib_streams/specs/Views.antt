-- What a clause reads of a writer that shows control bytes, and what a call on it leaves.
use Rattle.std.specs.Prelude.{◌≡◌, ℕ, Bool, true, false, List, Option, None, if◌then◌else◌}
use Rattle.std.specs.declared.result.Result.{Result}
use Rattle.std.specs.Io.KnownBytes.{WriteAppends}
use Rattle.bib_streams.specs.Shown.{WritesShown}
use Rattle.bib_streams.specs.declared.shown.Shown.{Shown}

-- the writer below
abbrev pub shown_inner : {W : Type 0} → Shown W → W
shown_inner s = s.inner

-- whether it shows control bytes
abbrev pub shows_controls : {W : Type 0} → Shown W → Bool
shows_controls s = s.shows_controls

-- The bytes that were written to it, if they are known. Where control bytes are shown, none are known.
abbrev pub contents_of : {W : Type 0} → (W → Option (List ℕ)) → Shown W → Option (List ℕ)
contents_of contents s = if s.shows_controls then None else contents s.inner

-- a write passes the bytes on as they are; if it shows control bytes, it passes on what shows them
pub record PassesOn {W E : Type 0} (contents : W → Option (List ℕ)) (old new : Shown W) (text : List ℕ) (r : Result ℕ E) : Type 0 where
  pub same : shows_controls new ≡ shows_controls old
  pub plain : shows_controls old ≡ false → WriteAppends (contents (shown_inner old)) (contents (shown_inner new)) r text
  pub shows : shows_controls old ≡ true → WritesShown (contents (shown_inner old)) (contents (shown_inner new)) text r
