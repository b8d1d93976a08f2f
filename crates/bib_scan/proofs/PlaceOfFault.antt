-- For files and values: a text of another kind goes wrong at one place, with exactly one fault; and a text of this kind
-- that is cut either is of this kind or has ended too early.
use Rattle.bib_scan.proofs.Words.{◌≡◌, ℕ, ◌+◌, ◌-◌, ◌<◌, List, ◌++◌, length, take, drop, refl, sym, subst, arith, inl, inr, ◌⊎◌, Result, Ok, Err, take-append-drop, name_limit, Text, HasReadingWithin, IsValueWithin, IsViable, FailsAt, TextKind, IsFaultAt, Span, Halt}
use Rattle.bib_scan.proofs.Words.{read_all_commands, read_whole_value}
use Rattle.bib_spec.specs.Fault as fault
use Rattle.bib_scan.specs.Laws.{IsSuchOrFails, OneFault, CutEnds}
use Rattle.bib_scan.proofs.ReadingLaws.{reading_of}
use Rattle.bib_scan.proofs.FailsAtLaws.{failing}
use Rattle.bib_scan.proofs.PlaceLaws.{one_place, one_fault, viable_front}
use Rattle.bib_scan.proofs.KindLaws.{file_fault}
use Rattle.bib_scan.proofs.WholeValueLaws.{whole_value, failing_value, value_fault}

-- a reader of this kind of text: a text that it reads is such a text, and a text that it refuses goes wrong where it stops,
-- with that fault
module _ {A : Type 0} (IsSuch : TextKind) (read : Text → Result A Halt) (sound : (t : Text) (x : A) → read t ≡ Ok x → IsSuch name_limit t) (wrong : (t : Text) (h : Halt) → read t ≡ Err h → FailsAt (IsSuch name_limit) t (length t - length h.rest)) (kind : (t : Text) (h : Halt) → read t ≡ Err h → IsFaultAt IsSuch t (length t - length h.rest) h.fault) where
  such_or : (t : Text) (m : Result A Halt) → read t ≡ m → IsSuch name_limit t ⊎ ((h : Halt) × (read t ≡ Err h))
  such_or t (Ok x) is = inl (sound t x is)
  such_or t (Err h) is = inr (h, is)

  pub such_or_failing : IsSuchOrFails (IsSuch name_limit)
  such_or_failing t = elim (such_or t (read t) refl) [ inl such ↦ inl such | inr r ↦ inr (length t - length r.0.rest, wrong t r.0 r.1) ]

  pub fault_of_place : OneFault IsSuch
  fault_of_place t place at =
      elim (such_or t (read t) refl) [
        | inl such ↦ absurd (at.fails such)
        | inr r ↦
            let same = one_place (IsSuch name_limit) t (length t - length r.0.rest) place (wrong t r.0 r.1) at in
            let is : IsFaultAt IsSuch t place r.0.fault = subst (λ (p : ℕ). IsFaultAt IsSuch t p r.0.fault) same (kind t r.0 r.1) in
            (r.0.fault, is, λ other also. one_fault IsSuch t place other r.0.fault also is)
      ]

  pub cut_ends : CutEnds IsSuch
  cut_ends t n such =
      let u = take n t in
      elim (such_or u (read u) refl) [
        | inl it ↦ inl it
        | inr r ↦
            let viable : IsViable (IsSuch name_limit) u = (drop n t, subst (IsSuch name_limit) (sym (take-append-drop n t)) such) in
            let end : length u - length r.0.rest ≡ length u = at_end u (length u - length r.0.rest) (wrong u r.0 r.1) viable in
            inr (subst (FailsAt (IsSuch name_limit) u) end (wrong u r.0 r.1), fault.unended refl)
      ]
    where
      -- a front of such a text goes wrong at its end
      at_end : (u : Text) (p : ℕ) → FailsAt (IsSuch name_limit) u p → IsViable (IsSuch name_limit) u → p ≡ length u
      at_end u p at viable =
          let whole : u ≡ take (p + 1) u ++ drop (p + 1) u = sym (take-append-drop (p + 1) u) in
          let not_before : p < length u → ⊥ = λ low. at.stuck low (viable_front (IsSuch name_limit) (take (p + 1) u) (drop (p + 1) u) (subst (IsViable (IsSuch name_limit)) whole viable)) in
          omega (arith, at.within, not_before)

file_is_read : (t : Text) (x : List Span) → read_all_commands name_limit t ≡ Ok x → HasReadingWithin name_limit t
file_is_read t x is = let r = reading_of name_limit t x is in (r.0, r.1)

pub file_or_failing : IsSuchOrFails (HasReadingWithin name_limit)
file_or_failing = such_or_failing HasReadingWithin (read_all_commands name_limit) file_is_read (failing name_limit (omega arith)) file_fault

pub fault_of_file : OneFault HasReadingWithin
fault_of_file = fault_of_place HasReadingWithin (read_all_commands name_limit) file_is_read (failing name_limit (omega arith)) file_fault

pub file_cut : CutEnds HasReadingWithin
file_cut = cut_ends HasReadingWithin (read_all_commands name_limit) file_is_read (failing name_limit (omega arith)) file_fault

pub value_or_failing : IsSuchOrFails (IsValueWithin name_limit)
value_or_failing = such_or_failing IsValueWithin (read_whole_value name_limit) (whole_value name_limit) (failing_value name_limit (omega arith)) value_fault

pub fault_of_value : OneFault IsValueWithin
fault_of_value = fault_of_place IsValueWithin (read_whole_value name_limit) (whole_value name_limit) (failing_value name_limit (omega arith)) value_fault

pub value_cut : CutEnds IsValueWithin
value_cut = cut_ends IsValueWithin (read_whole_value name_limit) (whole_value name_limit) (failing_value name_limit (omega arith)) value_fault
