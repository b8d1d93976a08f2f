-- Why a file is not opened is determined.
use Rattle.bib_journal.proofs.Words.{◌≡◌, ◌≢◌, ◌≤◌, ℕ, length, None, Some, inl, inr, refl, sym, ◌∙◌, ap, subst, arith, rules, Text, file_limit, name_limit, IsOpenable, Reading, Reads, one_reading}
use Rattle.std.proofs.lemmas.Option.{same_Some}
use Rattle.bib_spec.specs.Reading.{HasReading, HasReadingWithin}
use Rattle.bib_spec.specs.Fault.{IsReadFault, IsFaultAt, fault_number, too_long, no_reading, no_memory}
use Rattle.bib_spec.specs.Texts.{too_long_at}
use Rattle.bib_scan.proofs.PlaceLaws.{one_place, one_fault}
use Rattle.bib_store.specs.Readings.{IsOpenFault}

-- a file that opens is not opened only where memory is refused
read_fault : (file : Text) (kind place : ℕ) → IsOpenable file → IsReadFault file kind place → kind ≡ 10
read_fault file kind place opens (too_long over) = absurd (let short = opens.1.short in omega (arith, over, short))
read_fault file kind place opens (no_reading fault at within failing wrong) = absurd (failing.fails (opens.0, opens.1.reads))
read_fault file kind place opens (no_memory within) = refl

some_is_none : (place : ℕ) → Some place ≡ None → ⊥
some_is_none place is = search rules

pub open_fault : (file : Text) (kind place : ℕ) → IsOpenable file → IsOpenFault file kind place → kind ≡ 10
open_fault file kind place opens (inl fault) = read_fault file kind place opens fault
open_fault file kind place opens (inr fault) =
    absurd (some_is_none place (sym fault.first ∙ ap too_long_at (one_reading name_limit file fault.db opens.0 fault.reads opens.1.reads) ∙ opens.1.texts))

pub not_read : (file : Text) (kind place : ℕ) (db : Reading) → kind ≢ 10 → length file ≤ file_limit → Reads file db → IsReadFault file kind place → ⊥
not_read file kind place db told short reads (too_long over) = omega (arith, over, short)
not_read file kind place db told short reads (no_reading fault at within failing wrong) = failing.fails (db, reads)
not_read file kind place db told short reads (no_memory within) = told refl

abbrev pub SamePlace : ℕ → ℕ → ℕ → ℕ → Type 0
SamePlace kind place kind' place' = (kind ≡ kind') × (place ≡ place')

pub one_read_fault : (file : Text) (kind place kind' place' : ℕ) → kind ≢ 10 → kind' ≢ 10 → IsReadFault file kind place → IsReadFault file kind' place' → SamePlace kind place kind' place'
one_read_fault file kind place kind' place' told told' (too_long over) (too_long over') = (refl, refl)
one_read_fault file kind place kind' place' told told' (too_long over) (no_reading fault at within failing wrong) = absurd (omega (arith, over, within))
one_read_fault file kind place kind' place' told told' (too_long over) (no_memory within) = absurd (told' refl)
one_read_fault file kind place kind' place' told told' (no_reading fault at within failing wrong) (too_long over) = absurd (omega (arith, over, within))
one_read_fault file kind place kind' place' told told' (no_reading fault at within failing wrong) (no_reading fault' at' within' failing' wrong') =
    let same : at ≡ at' = one_place HasReading file at at' failing failing' in
    (ap fault_number (one_fault HasReadingWithin file at fault fault' wrong (subst (λ (p : ℕ). IsFaultAt HasReadingWithin file p fault') (sym same) wrong')), same)
one_read_fault file kind place kind' place' told told' (no_reading fault at within failing wrong) (no_memory within') = absurd (told' refl)
one_read_fault file kind place kind' place' told told' (no_memory within) other = absurd (told refl)

pub one_open_fault : (file : Text) (kind place kind' place' : ℕ) → kind ≢ 10 → kind' ≢ 10 → IsOpenFault file kind place → IsOpenFault file kind' place' → SamePlace kind place kind' place'
one_open_fault file kind place kind' place' told told' (inl fault) (inl fault') = one_read_fault file kind place kind' place' told told' fault fault'
one_open_fault file kind place kind' place' told told' (inl fault) (inr text) = absurd (not_read file kind place text.db told text.short text.reads fault)
one_open_fault file kind place kind' place' told told' (inr text) (inl fault) = absurd (not_read file kind' place' text.db told' text.short text.reads fault)
one_open_fault file kind place kind' place' told told' (inr text) (inr text') = (
  text.number ∙ sym text'.number,
  same_Some place place' (sym text.first ∙ ap too_long_at (one_reading name_limit file text.db text'.db text.reads text'.reads) ∙ text'.first),
)
