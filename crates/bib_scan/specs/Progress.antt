-- How far a file has been read, and what was read last.
use Rattle.std.specs.Prelude.{ℕ, ◌≡◌, length, slice_get, Some}
use Rattle.bib_spec.specs.Text.{Text}
use Rattle.bib_spec.specs.Tree.{tree_bytes}
use Rattle.bib_spec.specs.Reading.{Item, Reading, Reads}
use Rattle.bib_scan.specs.Layout.{start_of}

-- the file, the number of items read, and the number of bytes left: 0, or the bytes from the next item on
pub record Progress : Type 0 where
  pub file : Text
  pub count : ℕ
  pub left : ℕ

-- item `n` of the reading has this body, and begins at `start`
pub record IsItemAt (db : Reading) (n : ℕ) (body : Text) (start : ℕ) : Type 0 where
  pub it : Item
  pub at : slice_get db.items n ≡ Some it
  pub bytes : tree_bytes it.tree ≡ body
  pub place : start ≡ start_of db n

-- item `n` of the file's reading has this body, and begins at `start`
abbrev pub IsItemOf : Text → ℕ → Text → ℕ → Type 0
IsItemOf file n body start = (db : Reading) → Reads file db → IsItemAt db n body start

-- the file's reading has `count` items
abbrev pub AreAllOf : Text → ℕ → Type 0
AreAllOf file count = (db : Reading) → Reads file db → length db.items ≡ count
