-- Files in which names of entries and macros are followed. (dialect)
use Rattle.std.specs.Prelude.{◌≡◌, Bool, true, false, List}
use Rattle.std.specs.List.{list_all, AllByRecursion}
use Rattle.bib_spec.specs.Text.{Text, same}
use Rattle.bib_spec.specs.Reading.{Reading}
use Rattle.edit_spec.specs.Edits.{holders}
use Rattle.bib_definitions.specs.Definitions.{definition_count}
use Rattle.bib_store.specs.Readings.{OfReading}
use Rattle.bib_data.specs.declared.edit.Edit.TheVariants.{RenameKey, RenameMacro}
use Rattle.bib_data.specs.declared.request.Request.{Request}
use Rattle.bib_data.specs.declared.request.Request.TheVariants as request
use Rattle.bib_journal.specs.OpenSteps.{SessionState, idle}
use Rattle.bib_journal.specs.Session.{started, DoesAll}
use Rattle.bib_journal.specs.Renaming.{OfReadings, KeepsTexts}
use Rattle.bib_renames.specs.declared.conflict.KeyConflict.{KeyConflict}
use Rattle.bib_renames.specs.declared.given.GivenName.{GivenName}
use Rattle.bib_renames.specs.declared.following.Followed.{Followed}
use Rattle.bib_renames.specs.Changes.{count_named}

-- ---- renamings

-- the request gives an entry another key, with the crossrefs that name it, or a macro another name, with its uses
abbrev pub is_rename : Request → Bool
is_rename (request.Edit (RenameKey from to)) = true
is_rename (request.Edit (RenameMacro from to)) = true
is_rename other = false

-- exactly one entry of the file has this key
abbrev pub HasEntry : Text → Reading → Type 0
HasEntry key db = holders key db ≡ 1

-- no entry of the file has this key
abbrev pub LacksEntry : Text → Reading → Type 0
LacksEntry key db = holders key db ≡ 0

-- exactly one item of the file defines this macro
abbrev pub HasMacro : Text → Reading → Type 0
HasMacro name db = definition_count name db.items ≡ 1

-- no item of the file defines this macro
abbrev pub LacksMacro : Text → Reading → Type 0
LacksMacro name db = definition_count name db.items ≡ 0

-- the renaming gives a name that this side has, once, and the common file lacks
abbrev pub IsNameOf : Reading → Reading → Request → Type 0
IsNameOf side base (request.Edit (RenameKey from to)) = HasEntry to side × LacksEntry to base
IsNameOf side base (request.Edit (RenameMacro from to)) = HasMacro to side × LacksMacro to base
IsNameOf side base other = ⊥

-- the same by the bytes of the side and of the common file
abbrev pub AreNamesOf : Text → Text → List Request → Type 0
AreNamesOf side base renames = OfReading side (λ rs. OfReading base (λ rb. AllByRecursion (IsNameOf rs rb) renames))

-- a session of the file has accepted renamings to names of this side, one after another, and is now in this state
pub record HasRenamed (side base file : Text) (state : SessionState) : Type 0 where
  pub renames : List Request
  pub are : list_all is_rename renames ≡ true
  pub given : AreNamesOf side base renames
  pub did : DoesAll renames (idle (started file)) state

-- the new file is what renamings to names of this side, each of which a session accepts, make of the old file, one after another
pub record IsRenamed (side base old new : Text) : Type 0 where
  pub state : SessionState
  pub renamed : HasRenamed side base old state
  pub text : state.steps.present ≡ new

-- ---- three files

-- Each of the three files is what renamings make of a common file, of ours and of theirs: ours gets names of theirs, theirs gets names
-- of ours, and the common file gets names of ours and then of theirs.
pub record FollowNames (base ours theirs base_file ours_file theirs_file : Text) : Type 0 where
  pub between : Text
  pub ours_in_base : IsRenamed ours base base between
  pub theirs_in_base : IsRenamed theirs base between base_file
  pub theirs_in_ours : IsRenamed theirs base ours ours_file
  pub ours_in_theirs : IsRenamed ours base theirs theirs_file

-- One entry of the common file has the key, and no entry of the two sides has it. Each side has an entry with another key in its place,
-- which the common file lacks, and these two keys differ.
pub record IsKeyConflict (base ours theirs : Reading) (conflict : KeyConflict) : Type 0 where
  pub old : HasEntry conflict.key base
  pub gone_from_ours : LacksEntry conflict.key ours
  pub gone_from_theirs : LacksEntry conflict.key theirs
  pub new_in_ours : HasEntry conflict.ours ours
  pub new_in_theirs : HasEntry conflict.theirs theirs
  pub none_in_base : LacksEntry conflict.ours base × LacksEntry conflict.theirs base
  pub differ : same conflict.ours conflict.theirs ≡ false

-- the same of each of these, by the bytes of the three files
abbrev pub AreKeyConflicts : Text → Text → Text → List KeyConflict → Type 0
AreKeyConflicts base ours theirs keys = OfReading base (λ rb. OfReading ours (λ ro. OfReading theirs (λ rt. AllByRecursion (IsKeyConflict rb ro rt) keys)))

-- the side has one entry or macro with this name, and neither the common file nor the other side has one
pub record IsGivenBy (side other base : Reading) (given : GivenName) : Type 0 where
  pub here : count_named given.what given.name side ≡ 1
  pub none_in_base : count_named given.what given.name base ≡ 0
  pub none_in_other : count_named given.what given.name other ≡ 0

-- one of the sides gave the name
pub data IsGiven (base ours theirs : Reading) (given : GivenName) : Type 0 where
  by_ours : IsGivenBy ours theirs base given → IsGiven base ours theirs given
  by_theirs : IsGivenBy theirs ours base given → IsGiven base ours theirs given

-- the same of each of these, by the bytes of the three files
abbrev pub AreGiven : Text → Text → Text → List GivenName → Type 0
AreGiven base ours theirs given = OfReading base (λ rb. OfReading ours (λ ro. OfReading theirs (λ rt. AllByRecursion (IsGiven rb ro rt) given)))

-- The three files follow the names of the sides. These are keys over which the sides are in conflict, and names that one side gave to
-- what the other took away.
pub record IsFollowed (base ours theirs : Text) (files : Followed) : Type 0 where
  pub names : FollowNames base ours theirs files.base files.ours files.theirs
  pub keys : AreKeyConflicts base ours theirs files.keys.items
  pub given : AreGiven base ours theirs files.given.items

-- ---- laws

-- Renamings keep each entry's type, fields and parent, and each preamble, however many there are.
abbrev pub renamed_files_keep : Type 0
renamed_files_keep = (side base old new : Text) → IsRenamed side base old new → OfReadings old new KeepsTexts
