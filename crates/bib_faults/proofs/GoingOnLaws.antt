-- Reading that goes on after a fault: the first fault, rising places, one list, and no byte lost.
use Rattle.std.proofs.Common.{◌≡◌, ℕ, zero, suc, ◌+◌, ◌<◌, ◌≤◌, false, ◌&&◌, ◌==◌, List, [], ◌∷◌, ◌++◌, length, drop, refl, sym, ap, ap₂, subst, ◌∙◌, arith, append_assoc, append-nil, All, zero-lt-suc}
use Rattle.std.specs.List.{flat_map}
use Rattle.std.proofs.lemmas.List.{take-append-drop, length-drop}
use Rattle.std.proofs.lemmas.List.Elements.{All-nil, All-cons}
use Rattle.std.proofs.Math.Seq.{drop-nil}
use Rattle.std.proofs.Math.Bool.{and-false}
use Rattle.bib_spec.specs.Bytes.{name_limit, at_sign}
use Rattle.bib_spec.specs.Text.{Text, is_name}
use Rattle.bib_spec.specs.Tree.{tree_bytes}
use Rattle.bib_spec.specs.Clean.{begins_command, IsClean}
use Rattle.bib_spec.specs.Reading.{Item, Reading, IsItem, bytes_of, HasReading, HasReadingWithin, FailsAt}
use Rattle.bib_spec.specs.Fault.{ReadingFault, IsFaultAt}
use Rattle.bib_faults.specs.GoingOn.{Fault, FaultsFrom, Stretch, stretch_bytes, ReadsOn, faults_from}
use Rattle.bib_faults.specs.FaultLaws.{NoFaultsWhereRead, first_is_reported, RiseFrom, places_rise, one_list_of_faults, stretches_end_at_faults, nothing_is_lost, whole_items_are_read}
use Rattle.bib_scan.proofs.PlaceLaws.{one_place, one_fault}

-- ---- where there is no fault

none_from : (at : ℕ) (t : Text) (faults : List Fault) → HasReading t → FaultsFrom at t faults → faults ≡ []
none_from at t [] reads is = refl
none_from at t (fault ∷ faults) reads is = absurd (is.0.fails.fails reads)

pub no-faults-where-read : NoFaultsWhereRead
no-faults-where-read = record { none = none_from 0; read = λ t is. is }

-- ---- the first fault

pub first-is-reported : first_is_reported
first-is-reported t fault faults is =
    let at : is.0.within ≡ fault.place = omega (arith, is.0.place) in
    (subst (λ (p : ℕ). FailsAt HasReading t p) at is.0.fails, subst (λ (p : ℕ). IsFaultAt HasReadingWithin t p fault.kind) at is.0.kind)

-- ---- a fault has bytes before it

-- no command begins in one byte
one_byte_clean : (b p : ℕ) → begins_command (drop p (b ∷ [])) ≡ false
unfolding begins_command
one_byte_clean b zero = and-false (b == at_sign && is_name [])
one_byte_clean b (suc p) = ap begins_command (drop-nil p)

nothing_clean : IsClean []
unfolding begins_command
nothing_clean p = ap begins_command (drop-nil p)

-- one byte is a file
one_byte_read : (b : ℕ) → HasReading (b ∷ [])
one_byte_read b = (record { front = b ∷ []; items = [] }, record { bytes = refl; front = one_byte_clean b; items = All-nil (IsItem name_limit) })

-- the empty text is a file
nothing_read : HasReading []
nothing_read = (record { front = []; items = [] }, record { bytes = refl; front = nothing_clean; items = All-nil (IsItem name_limit) })

not_at_zero : (t : Text) → FailsAt HasReading t 0 → ⊥
not_at_zero [] failing = failing.fails nothing_read
not_at_zero (b ∷ t) failing = failing.stuck (zero-lt-suc (length t)) ([], one_byte_read b)

-- the place of a fault is after the first byte
pub some_before : (t : Text) (place : ℕ) → FailsAt HasReading t place → 0 < place
some_before t zero failing = absurd (not_at_zero t failing)
some_before t (suc place) failing = zero-lt-suc place

-- ---- places rise

rise_from : (at : ℕ) (t : Text) (faults : List Fault) → FaultsFrom at t faults → RiseFrom at faults
rise_from at t [] is = tt
rise_from at t (fault ∷ faults) is =
    (omega (arith, is.0.place, some_before t is.0.within is.0.fails), rise_from fault.place (drop is.0.within t) faults is.1)

-- the places are within a file of this length
within_from : (end at : ℕ) (t : Text) (faults : List Fault) → at + length t ≡ end → FaultsFrom at t faults → All (λ fault. fault.place ≤ end) faults
within_from end at t [] ends is = All-nil (λ fault. fault.place ≤ end)
within_from end at t (fault ∷ faults) ends is =
    let here : fault.place ≤ end = omega (arith, is.0.place, is.0.fails.within, ends) in
    let rest : fault.place + length (drop is.0.within t) ≡ end = omega (arith, is.0.place, is.0.fails.within, ends, length-drop is.0.within t) in
    All-cons (λ fault. fault.place ≤ end) fault faults here (within_from end fault.place (drop is.0.within t) faults rest is.1)

pub places-rise : places_rise
places-rise t faults is = record { rise = rise_from 0 t faults is; within = within_from (length t) 0 t faults (omega arith) is }

-- ---- one list

one_from : (at : ℕ) (t : Text) (faults others : List Fault) → FaultsFrom at t faults → FaultsFrom at t others → faults ≡ others
one_from at t [] others reads is = sym (none_from at t others reads is)
one_from at t (fault ∷ faults) [] is reads = none_from at t (fault ∷ faults) reads is
one_from at t (fault ∷ faults) (other ∷ others) is also =
    let within : is.0.within ≡ also.0.within = one_place HasReading t is.0.within also.0.within is.0.fails also.0.fails in
    let place : fault.place ≡ other.place = omega (arith, is.0.place, also.0.place, within) in
    let kind : fault.kind ≡ other.kind = one_fault HasReadingWithin t is.0.within fault.kind other.kind is.0.kind
    (subst (λ (p : ℕ). IsFaultAt HasReadingWithin t p other.kind) (sym within) also.0.kind) in
    let rest : FaultsFrom fault.place (drop is.0.within t) others =
    subst (λ (p : ℕ). FaultsFrom p (drop is.0.within t) others) (sym place) (subst (λ (p : ℕ). FaultsFrom other.place (drop p t) others) (sym within) also.1) in
    ap₂ (λ (k : ReadingFault) (p : ℕ). let one : Fault = record { kind = k; place = p } in one ∷ faults) kind place
    ∙ ap (λ (fs : List Fault). other ∷ fs) (one_from fault.place (drop is.0.within t) faults others is.1 rest)

pub one-list-of-faults : one_list_of_faults
one-list-of-faults t faults others is also = one_from 0 t faults others is also

-- ---- stretches

ends_from : (at : ℕ) (t : Text) (stretches : List Stretch) (last : Reading) → ReadsOn t stretches last → FaultsFrom at t (faults_from at stretches)
ends_from at t [] last is = (last, is)
ends_from at t (s ∷ stretches) last is = (
  record { within = length (stretch_bytes s); fails = is.0.fails; kind = is.0.kind; place = refl },
  ends_from (at + length (stretch_bytes s)) (drop (length (stretch_bytes s)) t) stretches last is.1,
)

pub stretches-end-at-faults : stretches_end_at_faults
stretches-end-at-faults t stretches last is = ends_from 0 t stretches last is

pub nothing-is-lost : nothing_is_lost
nothing-is-lost t [] last is = is.bytes
nothing-is-lost t (s ∷ stretches) last is =
    let n : ℕ = length (stretch_bytes s) in
    append_assoc (stretch_bytes s) (flat_map stretch_bytes stretches) (bytes_of last)
    ∙ ap₂ (λ (u v : Text). u ++ v) (sym is.0.bytes) (nothing-is-lost (drop n t) stretches last is.1)
    ∙ take-append-drop n t

-- ---- items cut out

pub whole-items-are-read : whole_items_are_read
whole-items-are-read item is =
    let alone : Item = record { tree = item.tree; trail = [] } in (
      record { front = []; items = alone ∷ [] },
      record {
        bytes = append-nil (tree_bytes item.tree ++ []) ∙ append-nil (tree_bytes item.tree);
        front = nothing_clean;
        items = All-cons (IsItem name_limit) alone [] (record { tree = is.tree; trail = record { clean = nothing_clean; ends_name = λ c. refl } }) (All-nil (IsItem name_limit));
      },
    )
