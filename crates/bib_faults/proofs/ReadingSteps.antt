-- The faults that were met so far, and the text from the last of them on.
use Rattle.std.proofs.Common.{◌≡◌, ◌==◌, false, ℕ, ◌+◌, ◌-◌, ◌<◌, ◌≤◌, List, [], ◌∷◌, ◌++◌, length, drop, map, refl, sym, ap, ap₂, subst, ◌∙◌, arith, append_assoc, append-nil}
use Rattle.std.proofs.lemmas.List.{length-drop, map-append}
use Rattle.bib_spec.specs.Bytes.{file_limit}
use Rattle.bib_spec.specs.Text.{Text}
use Rattle.bib_spec.specs.Reading.{HasReading}
use Rattle.std.proofs.lemmas.Bool.{false≢true}
use Rattle.bib_spec.specs.Fault.{fault_number, IsReadFault, too_long, no_reading, no_memory}
use Rattle.bib_scan.specs.declared.fault.ReadFault.{ReadFault}
use Rattle.bib_faults.specs.GoingOn.{Fault, IsFirstFault, FaultsFrom, Faults}
use Rattle.bib_faults.specs.Told.{told, IsUnlisted}
use Rattle.bib_faults.specs.Told as unlisted
use Rattle.bib_faults.proofs.GoingOnLaws.{some_before}

-- a fault by its number and its place
abbrev pub reported : ℕ → ℕ → ReadFault
reported kind place = record { kind = kind; place = place }

-- the faults of the rest, after those that were met, are the faults of the file
pub record IsReadSoFar (bytes rest : Text) (list : List ReadFault) : Type 0 where
  pub seen : List Fault
  pub listed : list ≡ map told seen
  pub within : length rest ≤ length bytes
  pub short : length rest ≤ file_limit
  pub goes_on : (later : List Fault) → FaultsFrom (length bytes - length rest) rest later → Faults bytes (seen ++ later)

-- nothing is read
pub read_start : (bytes : Text) → length bytes ≤ file_limit → IsReadSoFar bytes bytes []
read_start bytes short = record {
  seen = [];
  listed = refl;
  within = omega arith;
  short = short;
  goes_on = λ later is. let none : length bytes - length bytes ≡ 0 = omega arith in subst (λ (at : ℕ). FaultsFrom at bytes later) none is;
}

-- a fault that reading reports, other than want of memory, is the first fault of a text that is not too long
pub first_of : (text : Text) (fault : ReadFault) → length text ≤ file_limit → (fault.kind == 10) ≡ false → IsReadFault text fault.kind fault.place
    → (first : Fault) × IsFirstFault 0 text first × (fault ≡ told first)
first_of text fault short is_not is = go fault.kind fault.place is is_not
  where
    go : (kind place : ℕ) → IsReadFault text kind place → (kind == 10) ≡ false → (first : Fault) × IsFirstFault 0 text first × (reported kind place ≡ told first)
    go kind place (too_long long) is_not = absurd (omega (arith, long, short))
    go kind place (no_reading what at within failing kind_is) is_not =
        (record { kind = what; place = at }, record { within = at; fails = failing; kind = kind_is; place = omega arith }, refl)
    go kind place (no_memory within) is_not = absurd (false≢true (sym is_not))

-- the first fault of the rest, as it is reported
abbrev pub IsNext : Text → ReadFault → Type 0
IsNext rest fault = (first : Fault) × IsFirstFault 0 rest first × (fault ≡ told first)

pub next_place : (rest : Text) (fault : ReadFault) → IsNext rest fault → fault.place ≤ length rest
next_place rest fault (first, is, same) =
    let place : fault.place ≡ first.place = ap (λ (f : ReadFault). f.place) same in
    omega (arith, place, is.place, is.fails.within)

-- fewer bytes are left
pub next_less : (rest : Text) (fault : ReadFault) → IsNext rest fault → length (drop fault.place rest) < length rest
next_less rest fault (first, is, same) =
    let place : fault.place ≡ first.place = ap (λ (f : ReadFault). f.place) same in
    omega (arith, place, is.place, is.fails.within, some_before rest is.within is.fails, length-drop fault.place rest)

-- one fault more
pub read_more : (bytes rest : Text) (list : List ReadFault) (fault : ReadFault) → IsReadSoFar bytes rest list → IsNext rest fault
    → IsReadSoFar bytes (drop fault.place rest) (list ++ reported fault.kind ((length bytes - length rest) + fault.place) ∷ [])
read_more bytes rest list fault so (first, is, same) =
    let kind : fault.kind ≡ fault_number first.kind = ap (λ (f : ReadFault). f.kind) same in
    let from : fault.place ≡ first.place = ap (λ (f : ReadFault). f.place) same in
    let place : fault.place ≡ is.within = omega (arith, from, is.place) in
    let at : ℕ = length bytes - length rest in
    let there : Fault = record { kind = first.kind; place = at + is.within } in
    let left : length (drop fault.place rest) ≡ length rest - fault.place = length-drop fault.place rest in
    let begins : length bytes - length (drop fault.place rest) ≡ at + is.within = omega (arith, left, place, is.fails.within, so.within) in
    let same_told : reported fault.kind (at + fault.place) ≡ told there = ap₂ (λ (k p : ℕ). reported k (at + p)) kind place in
    record {
      seen = so.seen ++ there ∷ [];
      listed = ap₂ (λ (l m : List ReadFault). l ++ m) so.listed (ap (λ (f : ReadFault). f ∷ []) same_told) ∙ sym (map-append told so.seen (there ∷ []));
      within = omega (arith, left, so.within);
      short = omega (arith, left, so.short);
      goes_on = λ later more.
          let on : FaultsFrom (at + is.within) (drop is.within rest) later =
          subst (λ (p : ℕ). FaultsFrom (at + is.within) (drop p rest) later) place (subst (λ (p : ℕ). FaultsFrom p (drop fault.place rest) later) begins more) in
          let here : IsFirstFault at rest there = record { within = is.within; fails = is.fails; kind = is.kind; place = refl } in
          subst (Faults bytes) (sym (append_assoc so.seen (there ∷ []) later)) (so.goes_on (there ∷ later) (here, on));
    }

-- the rest is read
pub read_done : (bytes rest : Text) (list : List ReadFault) → IsReadSoFar bytes rest list → HasReading rest → (faults : List Fault) × Faults bytes faults × (list ≡ map told faults)
read_done bytes rest list so reads = (so.seen, subst (Faults bytes) (append-nil so.seen) (so.goes_on [] reads), so.listed)

-- want of memory
pub unlisted_memory : (bytes : Text) (fault : ReadFault) → length bytes ≤ file_limit → (fault.kind ≡ 10) × (fault.place ≡ 0) → IsUnlisted bytes fault.kind fault.place
unlisted_memory bytes fault short (kind, place) =
    subst (λ (k : ℕ). IsUnlisted bytes k fault.place) (sym kind) (subst (λ (p : ℕ). IsUnlisted bytes 10 p) (sym place) (unlisted.no_memory short))
