-- Where a file and its journal are stored, and what storing leaves at each path.
use Rattle.std.specs.Prelude.{◌≡◌, ◌≢◌, ◌++◌, ◌⊎◌, codes, Option, Some, None, IfSome}
use Rattle.bib_spec.specs.Text.{Text}
use Rattle.bib_files.specs.Folders.{Held, Files, Puts, Moves, kind_of}
use Rattle.bib_files.specs.declared.folder.Kind.TheVariants as kind

-- the path of a file, that of its journal, and the paths beside them where their new bytes are written first (dialect)
pub record Paths : Type 0 where
  pub file : Text
  pub journal : Text
  pub new_file : Text
  pub new_journal : Text

-- the paths for the file at this path (dialect)
abbrev pub paths_for : Text → Paths
paths_for file = record {
  file = file;
  journal = file ++ codes ".bibkeep";
  new_file = file ++ codes ".bibkeep-new";
  new_journal = file ++ codes ".bibkeep.bibkeep-new";
}

-- no two of the paths are one
pub record AreApart (p : Paths) : Type 0 where
  pub file_journal : p.file ≢ p.journal
  pub file_new_file : p.file ≢ p.new_file
  pub file_new_journal : p.file ≢ p.new_journal
  pub journal_new_file : p.journal ≢ p.new_file
  pub journal_new_journal : p.journal ≢ p.new_journal
  pub new_file_new_journal : p.new_file ≢ p.new_journal

-- ---- calls for bytes that may be missing

-- the bytes are put at the path; or there are none, and nothing is changed
abbrev pub PutsIf : Text → Option Text → Files → Files → Type 0
PutsIf path (Some bytes) old new = Puts path bytes old new
PutsIf path None old new = new ≡ old

-- what is at one path is moved to another; or there are no bytes to move, and nothing is changed
abbrev pub MovesIf : Option Text → Text → Text → Files → Files → Type 0
MovesIf (Some bytes) from to old new = Moves from to old new
MovesIf None from to old new = new ≡ old

-- ---- what is left

-- a file is there to be replaced, and the journal's path has no folder, device, pipe or socket; each where it is to be replaced
pub record CanStore (paths : Paths) (file journal : Option Text) (held : Files) : Type 0 where
  pub file_is : IfSome file (λ _. kind_of (held paths.file) ≡ kind.File)
  pub journal_is : IfSome journal (λ _. kind_of (held paths.journal) ≢ kind.Other)

-- at the path is a file with these bytes; or if there are none, what was there
abbrev pub HasNew : Text → Option Text → Files → Files → Type 0
HasNew path (Some bytes) old new = new path ≡ Held.file bytes
HasNew path None old new = new path ≡ old path

-- The new file and the new journal, if there are any, are at their paths. At each other path is what was there, but at those where
-- new bytes are written first.
pub record AreStored (paths : Paths) (file journal : Option Text) (old new : Files) : Type 0 where
  pub could : CanStore paths file journal old
  pub file_there : HasNew paths.file file old new
  pub journal_there : HasNew paths.journal journal old new
  pub others : (p : Text) → p ≢ paths.file → p ≢ paths.journal → p ≢ paths.new_file → p ≢ paths.new_journal → new p ≡ old p

-- A call failed. At the path of the file is what was there, or the new file, and at each other path what was there, but at those where
-- new bytes are written first.
pub record AreUnstored (paths : Paths) (file : Option Text) (old new : Files) : Type 0 where
  pub file_there : (new paths.file ≡ old paths.file) ⊎ HasNew paths.file file old new
  pub others : (p : Text) → p ≢ paths.file → p ≢ paths.new_file → p ≢ paths.new_journal → new p ≡ old p
