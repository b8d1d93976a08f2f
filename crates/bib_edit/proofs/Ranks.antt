-- The reasons in their order: an edit that the first n of them do not refuse.
use Rattle.bib_edit.proofs.Words.{◌≡◌, ℕ, zero, suc, ◌<◌, ◌==◌, ⊎_elim, refl, sym, ◌∙◌, ap, subst, arith, not-suc-le-zero, cases_Bool, eqb-true, eqb-false, Reading, Record, Text, Edit, EditFault, BadKey, BadName, BadValue, BadPosition, NotFound, Ambiguous, KeyInUse, NameInUse, Referred, WouldMerge}
use Rattle.bib_edit.proofs.Words.{FileTooLong, TextTooLong, rank, Refuses, IsFirstRefusal}

fault_at : ℕ → EditFault
fault_at zero = BadKey
fault_at (suc zero) = BadName
fault_at (suc (suc zero)) = BadValue
fault_at (suc (suc (suc zero))) = BadPosition
fault_at (suc (suc (suc (suc zero)))) = NotFound
fault_at (suc (suc (suc (suc (suc zero))))) = Ambiguous
fault_at (suc (suc (suc (suc (suc (suc zero)))))) = KeyInUse
fault_at (suc (suc (suc (suc (suc (suc (suc zero))))))) = NameInUse
fault_at (suc (suc (suc (suc (suc (suc (suc (suc zero)))))))) = Referred
fault_at (suc (suc (suc (suc (suc (suc (suc (suc (suc zero))))))))) = WouldMerge
fault_at (suc (suc (suc (suc (suc (suc (suc (suc (suc (suc zero)))))))))) = FileTooLong
fault_at (suc (suc (suc (suc (suc (suc (suc (suc (suc (suc (suc n))))))))))) = TextTooLong

fault_at-rank : (fault : EditFault) → fault_at (rank fault) ≡ fault
unfolding fault_at
fault_at-rank BadKey = refl
fault_at-rank BadName = refl
fault_at-rank BadValue = refl
fault_at-rank BadPosition = refl
fault_at-rank NotFound = refl
fault_at-rank Ambiguous = refl
fault_at-rank KeyInUse = refl
fault_at-rank NameInUse = refl
fault_at-rank Referred = refl
fault_at-rank WouldMerge = refl
fault_at-rank FileTooLong = refl
fault_at-rank TextTooLong = refl

rank_below : (fault : EditFault) → rank fault < 12
rank_below BadKey = omega arith
rank_below BadName = omega arith
rank_below BadValue = omega arith
rank_below BadPosition = omega arith
rank_below NotFound = omega arith
rank_below Ambiguous = omega arith
rank_below KeyInUse = omega arith
rank_below NameInUse = omega arith
rank_below Referred = omega arith
rank_below WouldMerge = omega arith
rank_below FileTooLong = omega arith
rank_below TextTooLong = omega arith

-- none of the first n reasons applies
pub record Clears (Applies : EditFault → Type 0) (n : ℕ) : Type 0 where
  pub of : (other : EditFault) → rank other < n → Applies other → ⊥

pub no_reason : {Applies : EditFault → Type 0} → Clears Applies 0
no_reason = record { of = λ other lt h. absurd (not-suc-le-zero lt) }

pub more : {Applies : EditFault → Type 0} (fault : EditFault) → (Applies fault → ⊥) → Clears Applies (rank fault) → Clears Applies (suc (rank fault))
more {Applies} fault not passes = record { of = of }
  where
    of : (other : EditFault) → rank other < suc (rank fault) → Applies other → ⊥
    of other lt h = ⊎_elim
        (λ t. not (subst Applies (sym (fault_at-rank other) ∙ ap fault_at (eqb-true (rank other) (rank fault) t) ∙ fault_at-rank fault) h))
        (λ t. let ne = eqb-false (rank other) (rank fault) t in passes.of other (omega (arith, ne, lt)) h)
        (cases_Bool (rank other == rank fault))

pub all_clear : {Applies : EditFault → Type 0} → Clears Applies 12 → (fault : EditFault) → Applies fault → ⊥
all_clear passes fault h = passes.of fault (rank_below fault) h

-- none of the first n reasons refuses the edit
abbrev pub Passes : (Record → Text) → Reading → Edit → ℕ → Type 0
Passes base db e n = Clears (λ fault. Refuses base fault db e) n

pub is_first : {base : Record → Text} {db : Reading} {e : Edit} (fault : EditFault) → Refuses base fault db e → Passes base db e (rank fault) → IsFirstRefusal base db e fault
is_first fault h passes = record { holds = h; first = passes.of }
