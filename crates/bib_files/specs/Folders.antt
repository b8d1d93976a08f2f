-- What the paths of a folder hold, before a call on it and after it.
use Rattle.std.specs.Prelude.{◌≡◌, ◌≢◌, Option, Some, None}
use Rattle.bib_spec.specs.Text.{Text}
use Rattle.bib_files.specs.declared.folder.Kind.{Kind}
use Rattle.bib_files.specs.declared.folder.Kind.TheVariants as kind

-- what is at a path: nothing; a regular file with these bytes; a symbolic link; or a folder, a device, a pipe or a socket
pub data Held : Type 0 where
  nothing : Held
  file : Text → Held
  link : Held
  other : Held

-- which kind of thing that is
abbrev pub kind_of : Held → Kind
kind_of Held.nothing = kind.Nothing
kind_of (Held.file bytes) = kind.File
kind_of Held.link = kind.Link
kind_of Held.other = kind.Other

-- what is at each path
abbrev pub Files : Type 0
Files = Text → Held

-- it is so of what was at the paths and what is there now, if the folder tells that
abbrev pub Told : (Files → Files → Type 0) → Option Files → Option Files → Type 0
Told P None new = Unit {0}
Told P (Some old) None = ⊥
Told P (Some old) (Some new) = P old new

-- ---- calls

-- at each path but this one is what was there
abbrev pub Keeps : Text → Files → Files → Type 0
Keeps path old new = (p : Text) → p ≢ path → new p ≡ old p

-- at the path is a file with these bytes, and at each other path what was there
pub record Puts (path bytes : Text) (old new : Files) : Type 0 where
  pub there : new path ≡ Held.file bytes
  pub others : Keeps path old new

-- what was at one path is at another, and at each path but these two what was there
pub record Moves (from to : Text) (old new : Files) : Type 0 where
  pub there : new to ≡ old from
  pub others : (p : Text) → p ≢ from → p ≢ to → new p ≡ old p
