-- What a clause reads of a tap, and what a call on one leaves of it.
use Rattle.std.specs.Prelude.{◌≡◌, ℕ, ◌+◌, Bool, ◌||◌, ◌==◌, ◌&&◌, not, min, nat_le, nat_lt, if◌then◌else◌, List, length, Result, MatchResult}
use Rattle.std.specs.IoError.{error_kind}
use Rattle.std.specs.declared.io.Error.{Error}
use Rattle.bib_taps.specs.Interruptions.{is_interruption}
use Rattle.bib_taps.specs.declared.taps.Tap.{Tap}

-- calls may be interrupted this often; the next interruption is a fault (dialect)
abbrev pub interruption_limit : ℕ
interruption_limit = 100

-- the reader or writer of the tap
abbrev pub tap_inner : {T : Type 0} → Tap T → T
tap_inner t = t.inner

-- how often calls on the tap were interrupted, up to 255
abbrev pub interruptions : {T : Type 0} → Tap T → ℕ
interruptions t = t.interruptions

-- a call on the tap failed
abbrev pub has_failed : {T : Type 0} → Tap T → Bool
has_failed t = t.failed

-- the call changed neither count nor fault
pub record IsQuiet {T : Type 0} (old new : Tap T) : Type 0 where
  pub count : interruptions new ≡ interruptions old
  pub fault : has_failed new ≡ has_failed old

-- the call gave this error: an interruption is counted, and one past the limit is a fault as any other error is
pub record NotesError {T : Type 0} (old new : Tap T) (e : Error) : Type 0 where
  pub count : interruptions new ≡ (if is_interruption (error_kind e) then min (interruptions old + 1) 255 else interruptions old)
  pub fault : has_failed new ≡ (has_failed old || (not (is_interruption (error_kind e)) || nat_le interruption_limit (interruptions old)))

-- a read or a flush leaves the tap as its result says
abbrev pub Notes : {T X : Type 0} → Tap T → Tap T → Result X Error → Type 0
Notes old new r = MatchResult r (λ _. IsQuiet old new) (NotesError old new)

-- a write took `taken` of `offered` bytes: it is a fault if it was offered some and took none
pub record NotesTaken {T : Type 0} (old new : Tap T) (offered taken : ℕ) : Type 0 where
  pub count : interruptions new ≡ interruptions old
  pub fault : has_failed new ≡ (has_failed old || (taken == 0 && nat_lt 0 offered))

-- a write of these bytes leaves the tap as its result says
abbrev pub NotesWrite : {T : Type 0} → Tap T → Tap T → List ℕ → Result ℕ Error → Type 0
NotesWrite old new buf r = MatchResult r (NotesTaken old new (length buf)) (NotesError old new)
