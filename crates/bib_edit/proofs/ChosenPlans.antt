-- What is answered for a text with a number, from what is answered for the edit that it means.
use Rattle.bib_edit.proofs.Words.{◌≡◌, List, Text, Value, Spells, Piece, Result, IfOk, IfErr, OnOk, subst, ArePiecesOf, IsAllowedEdit, IsRefusal, OfEdit}
use Rattle.edit_spec.specs.Edits as edits
use Rattle.bib_data.specs.declared.edit.Edit.{Edit}
use Rattle.bib_edit.specs.declared.fault.EditFault.{EditFault}
use Rattle.bib_edit.specs.OneOfSeveral.{ArePiecesFor, IsAllowedFor, IsRefusalFor, OfSpelled}
use Rattle.bib_edit.proofs.Results.{if_ok-as, on_ok-as, if_err-as}
use Rattle.bib_edit.proofs.ChosenEdits.{pieces-chosen, allowed-chosen, refused-chosen, pieces-spelled, allowed-spelled, refused-spelled}

-- the planned edit is the one that is asked for
module _ (asked : Edit) (planned e : edits.Edit) (is : planned ≡ e) (only : (P : edits.Edit → Type 0) → P e → OfEdit asked P) (file : Text) (result : Result (List Piece) EditFault) where
  pub ok-chosen : IfOk result (ArePiecesFor planned file) → IfOk result (ArePiecesOf file asked)
  ok-chosen h = if_ok-as (ArePiecesFor planned file) (ArePiecesOf file asked) (λ ps are. pieces-chosen asked e only file ps (subst (λ e. ArePiecesFor e file ps) is are)) result h

  pub free-chosen : OnOk result (IsAllowedFor planned file) → OnOk result (IsAllowedEdit file asked)
  free-chosen h = on_ok-as (IsAllowedFor planned file) (IsAllowedEdit file asked) (λ free. allowed-chosen asked e only file (subst (λ e. IsAllowedFor e file) is free)) result h

  pub err-chosen : IfErr result (IsRefusalFor planned file) → IfErr result (IsRefusal file asked)
  err-chosen h = if_err-as (IsRefusalFor planned file) (IsRefusal file asked) (λ fault why. refused-chosen asked e only file fault (subst (λ e. IsRefusalFor e file fault) is why)) result h

-- the planned edits are those that are asked for
module _ (asked : Edit) (value : Text) (planned e : Value → edits.Edit) (is : (v : Value) → planned v ≡ e v) (each : (P : edits.Edit → Type 0) → ((v : Value) → Spells value v → P (e v)) → OfEdit asked P)
    (file : Text) (result : Result (List Piece) EditFault)
  where
    pub ok-spelled : IfOk result (λ ps. OfSpelled value (λ v. ArePiecesFor (planned v) file ps)) → IfOk result (ArePiecesOf file asked)
    ok-spelled h = if_ok-as (λ ps. OfSpelled value (λ v. ArePiecesFor (planned v) file ps)) (ArePiecesOf file asked)
        (λ ps are. pieces-spelled asked value e each file ps (λ v s. subst (λ e. ArePiecesFor e file ps) (is v) (are v s))) result h

    pub free-spelled : OnOk result (OfSpelled value (λ v. IsAllowedFor (planned v) file)) → OnOk result (IsAllowedEdit file asked)
    free-spelled h = on_ok-as (OfSpelled value (λ v. IsAllowedFor (planned v) file)) (IsAllowedEdit file asked)
        (λ free. allowed-spelled asked value e each file (λ v s. subst (λ e. IsAllowedFor e file) (is v) (free v s))) result h

    pub err-spelled : IfErr result (λ fault. OfSpelled value (λ v. IsRefusalFor (planned v) file fault)) → IfErr result (IsRefusal file asked)
    err-spelled h = if_err-as (λ fault. OfSpelled value (λ v. IsRefusalFor (planned v) file fault)) (IsRefusal file asked)
        (λ fault why. refused-spelled asked value e each file fault (λ v s. subst (λ e. IsRefusalFor e file fault) (is v) (why v s))) result h
