-- Laws of reading that goes on after a fault.
use Rattle.std.specs.Prelude.{ℕ, ◌≡◌, ◌<◌, ◌≤◌, List, [], ◌∷◌, ⊤, length, All}
use Rattle.bib_spec.specs.Bytes.{name_limit}
use Rattle.bib_spec.specs.Text.{Text}
use Rattle.bib_spec.specs.Tree.{tree_bytes}
use Rattle.bib_spec.specs.Reading.{Item, Reading, IsItem, HasReading, HasReadingWithin, FailsAt}
use Rattle.bib_spec.specs.Fault.{IsFaultAt}
use Rattle.bib_faults.specs.GoingOn.{Fault, Faults, Stretch, ReadsOn, faults_from, read_bytes}

-- A text with a reading has no faults; a text without faults has a reading.
pub record NoFaultsWhereRead : Type 0 where
  pub none : (t : Text) (faults : List Fault) → HasReading t → Faults t faults → faults ≡ []
  pub read : (t : Text) → Faults t [] → HasReading t

-- The first of the faults is the fault that reading a file reports today.
abbrev pub first_is_reported : Type 0
first_is_reported = (t : Text) (fault : Fault) (faults : List Fault) → Faults t (fault ∷ faults) →
    FailsAt HasReading t fault.place × IsFaultAt HasReadingWithin t fault.place fault.kind

-- each fault has a place after the place before it
abbrev pub RiseFrom : ℕ → List Fault → Type 0
RiseFrom at [] = ⊤
RiseFrom at (fault ∷ faults) = (at < fault.place) × RiseFrom fault.place faults

-- The places of the faults rise, and none is after the end of the text.
pub record PlacesRise (t : Text) (faults : List Fault) : Type 0 where
  pub rise : RiseFrom 0 faults
  pub within : All (λ fault. fault.place ≤ length t) faults

-- the places of all faults of a text rise
abbrev pub places_rise : Type 0
places_rise = (t : Text) (faults : List Fault) → Faults t faults → PlacesRise t faults

-- A text has one list of faults.
abbrev pub one_list_of_faults : Type 0
one_list_of_faults = (t : Text) (faults others : List Fault) → Faults t faults → Faults t others → faults ≡ others

-- Each text has a list of faults.
abbrev pub each_has_faults : Type 0
each_has_faults = (t : Text) → (faults : List Fault) × Faults t faults

-- The stretches of a text end at its faults.
abbrev pub stretches_end_at_faults : Type 0
stretches_end_at_faults = (t : Text) (stretches : List Stretch) (last : Reading) → ReadsOn t stretches last → Faults t (faults_from 0 stretches)

-- The stretches and what is read after the last fault are the text: no byte is lost.
abbrev pub nothing_is_lost : Type 0
nothing_is_lost = (t : Text) (stretches : List Stretch) (last : Reading) → ReadsOn t stretches last → read_bytes stretches last ≡ t

-- A whole item, cut out, is a file that is read.
abbrev pub whole_items_are_read : Type 0
whole_items_are_read = (item : Item) → IsItem name_limit item → HasReading (tree_bytes item.tree)
