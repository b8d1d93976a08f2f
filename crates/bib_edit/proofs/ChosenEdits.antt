-- The edit that a text asks for, where one edit alone is asked for, or one for each value that the bytes are.
use Rattle.bib_edit.proofs.Words.{◌≡◌, List, Option, Some, None, Text, Value, Spells, Piece, made_base, pieces_of, IsAccepted, IsFirstRefusal, IsAllowedEdit, ArePiecesOf, IsRefusal, OfEdit}
use Rattle.std.proofs.Common.{IfSome}
use Rattle.edit_spec.specs.Edits as edits
use Rattle.bib_data.specs.declared.edit.Edit.{Edit}
use Rattle.bib_edit.specs.declared.fault.EditFault.{EditFault}
use Rattle.bib_edit.specs.Faults.{reason_of}
use Rattle.bib_edit.specs.OneOfSeveral.{ArePiecesFor, IsAllowedFor, IsRefusalFor, OfSpelled}

some-as : {X : Type 0} (P Q : X → Type 0) → ((x : X) → P x → Q x) → (o : Option X) → IfSome o P → IfSome o Q
some-as P Q f None h = tt
some-as P Q f (Some x) h = f x h

-- this edit alone is asked for
module _ (asked : Edit) (e : edits.Edit) (only : (P : edits.Edit → Type 0) → P e → OfEdit asked P) (file : Text) where
  pub pieces-chosen : (ps : List Piece) → ArePiecesFor e file ps → ArePiecesOf file asked ps
  pieces-chosen ps h db reads = only (λ e. ps ≡ pieces_of made_base db e) (h db reads)

  pub allowed-chosen : IsAllowedFor e file → IsAllowedEdit file asked
  allowed-chosen h db reads = only (λ e. IsAccepted made_base db e) (h db reads)

  pub refused-chosen : (fault : EditFault) → IsRefusalFor e file fault → IsRefusal file asked fault
  refused-chosen fault h = some-as _ _ (λ reason first db reads. only (λ e. IsFirstRefusal made_base db e reason) (first db reads)) (reason_of fault) h

some-spelled : {X : Type 0} (value : Text) (P : X → Value → Type 0) (Q : X → Type 0) → ((x : X) → ((v : Value) → Spells value v → P x v) → Q x) → (o : Option X) →
    ((v : Value) → Spells value v → IfSome o (λ x. P x v)) → IfSome o Q
some-spelled value P Q f None h = tt
some-spelled value P Q f (Some x) h = f x h

-- an edit is asked for each value that the bytes are
module _ (asked : Edit) (value : Text) (e : Value → edits.Edit) (each : (P : edits.Edit → Type 0) → ((v : Value) → Spells value v → P (e v)) → OfEdit asked P) (file : Text) where
  pub pieces-spelled : (ps : List Piece) → OfSpelled value (λ v. ArePiecesFor (e v) file ps) → ArePiecesOf file asked ps
  pieces-spelled ps h db reads = each (λ e. ps ≡ pieces_of made_base db e) (λ v s. h v s db reads)

  pub allowed-spelled : OfSpelled value (λ v. IsAllowedFor (e v) file) → IsAllowedEdit file asked
  allowed-spelled h db reads = each (λ e. IsAccepted made_base db e) (λ v s. h v s db reads)

  pub refused-spelled : (fault : EditFault) → OfSpelled value (λ v. IsRefusalFor (e v) file fault) → IsRefusal file asked fault
  refused-spelled fault h = some-spelled value _ _ (λ reason first db reads. each (λ e. IsFirstRefusal made_base db e reason) (λ v s. first v s db reads)) (reason_of fault) h
