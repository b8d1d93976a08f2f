-- Each text has a list of faults: behind each fault fewer bytes are left.
use Rattle.std.proofs.Common.{◌≡◌, ℕ, zero, suc, ◌+◌, ◌<◌, ◌≤◌, List, [], ◌∷◌, ◌⊎◌, inl, inr, ⊎_elim, length, drop, refl, arith}
use Rattle.std.proofs.lemmas.List.{length-drop}
use Rattle.bib_spec.specs.Text.{Text}
use Rattle.bib_spec.specs.Reading.{HasReading, FailsAt}
use Rattle.bib_scan.proofs.PlaceOfFault.{file_or_failing, fault_of_file}
use Rattle.bib_faults.specs.GoingOn.{Fault, IsFirstFault, FaultsFrom}
use Rattle.bib_faults.specs.FaultLaws.{each_has_faults}
use Rattle.bib_faults.proofs.GoingOnLaws.{some_before}

-- a text that goes wrong has a first fault, and after it fewer bytes
first_fault : (at : ℕ) (t : Text) (place : ℕ) → FailsAt HasReading t place → (fault : Fault) × (first : IsFirstFault at t fault) × (first.within ≡ place)
first_fault at t place failing =
    let what = fault_of_file t place failing in
    (record { kind = what.0; place = at + place }, record { within = place; fails = failing; kind = what.1; place = refl }, refl)

-- the faults of a text of at most `most` bytes
faults_of : (most at : ℕ) (t : Text) → length t ≤ most → (faults : List Fault) × FaultsFrom at t faults
faults_of zero at [] short = ([], nothing (file_or_failing []))
  where
    nothing : HasReading [] ⊎ ((place : ℕ) × FailsAt HasReading [] place) → HasReading []
    nothing (inl reads) = reads
    nothing (inr failing) = let some : 0 < failing.0 = some_before [] failing.0 failing.1 in let within : failing.0 ≤ 0 = failing.1.within in absurd (omega (arith, some, within))
faults_of zero at (b ∷ t) short = absurd (omega (arith, short))
faults_of (suc most) at t short = ⊎_elim
    (λ reads. ([], reads))
    (λ failing.
    let first = first_fault at t failing.0 failing.1 in
    let some : 0 < first.1.within = some_before t first.1.within first.1.fails in
    let rest = faults_of most first.0.place (drop first.1.within t) (omega (arith, some, short, first.1.fails.within, length-drop first.1.within t)) in
    (first.0 ∷ rest.0, (first.1, rest.1)))
    (file_or_failing t)

pub each-has-faults : each_has_faults
each-has-faults t = faults_of (length t) 0 t (omega arith)
