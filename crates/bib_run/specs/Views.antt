-- What a clause sees of a tap at one moment.
use Rattle.std.specs.Prelude.{Bool, true, false, Option, Some, None}
use Rattle.bib_spec.specs.Text.{Text}
use Rattle.bib_taps.specs.declared.taps.Tap.{Tap}
use Rattle.bib_taps.specs.Taps.{tap_inner, has_failed}

-- A tap at one moment: the bytes that its reader still has or that its writer holds, if it tells them, and whether a call on it
-- failed.
pub record TapView : Type 0 where
  pub bytes : Option Text
  pub failed : Bool

-- a tap as it is now, if `bytes` gives the bytes of its reader or writer
abbrev pub view_of : {T : Type 0} → (T → Option Text) → Tap T → TapView
view_of bytes t = record { bytes = bytes (tap_inner t); failed = has_failed t }

-- the tap of the journal, if there is a journal
abbrev pub held : Bool → TapView → Option TapView
held true tap = Some tap
held false tap = None

-- there is a tap, and a call on it failed
abbrev pub has_any_failed : Option TapView → Bool
has_any_failed None = false
has_any_failed (Some tap) = tap.failed

-- a tap on which no call was made yet, of a reader or a writer that tells these bytes
abbrev pub fresh : Option Text → TapView
fresh bytes = record { bytes = bytes; failed = false }
