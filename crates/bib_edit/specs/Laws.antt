-- Laws of edits.
use Rattle.std.specs.Prelude.{ℕ, ◌≡◌, ◌+◌}
use Rattle.bib_spec.specs.Text.{Text}
use Rattle.bib_spec.specs.Reading.{Reading}
use Rattle.edit_spec.specs.Edits as edits
use Rattle.edit_spec.specs.OtherLaws.{new_number}
use Rattle.bib_data.specs.declared.position.Position.TheVariants.{Before, After}
use Rattle.bib_data.specs.declared.edit.Edit.{Edit}
use Rattle.bib_data.specs.declared.edit.Edit.TheVariants.{MoveEntry}
use Rattle.bib_edit.specs.Asking.{AsksFor, asked_move}
use Rattle.bib_edit.specs.Positions.{items_before_meant, place_for}

-- whatever the bytes are, some edit is asked for
abbrev pub EditsAreAskedFor : Type 0
EditsAreAskedFor = (asked : Edit) → (e : edits.Edit) × AsksFor asked e

-- An entry that moves after another one gets the place directly after it, and one that moves before another one the place
-- directly before it: `new_number` is the number that the other one has then.
pub record MovedEntriesAreNeighbours : Type 0 where
  pub after : (db : Reading) (key other : Text) (own place : ℕ) → (items_before_meant key db.items ≡ items_before_meant other db.items → ⊥)
      → place ≡ place_for (After other) (MoveEntry key own) db → new_number db (asked_move key place) (items_before_meant other db.items) + 1 ≡ place
  pub before : (db : Reading) (key other : Text) (own place : ℕ) → (items_before_meant key db.items ≡ items_before_meant other db.items → ⊥)
      → place ≡ place_for (Before other) (MoveEntry key own) db → new_number db (asked_move key place) (items_before_meant other db.items) ≡ place + 1
