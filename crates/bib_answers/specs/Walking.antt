-- No promise rests on this page: it says how the code counts lines item by item.
use Rattle.std.specs.Prelude.{ℕ, ◌≡◌, ◌-◌, ◌≤◌, length, take, drop, min}
use Rattle.bib_spec.specs.Text.{Text}
use Rattle.bib_spec.specs.Reading.{Reading}
use Rattle.bib_scan.specs.Layout.{start_of}
use Rattle.bib_answers.specs.declared.walking.Spot.{Spot}

-- the bytes of a text from one place up to another
abbrev pub stretch : ℕ → ℕ → Text → Text
stretch start end text = take (end - start) (drop start text)

-- the same, as far as the text has such places
abbrev pub clip : ℕ → ℕ → Text → Text
clip start end text = stretch (min start (length text)) (min end (length text)) text

-- the spot is that of an item, or of the end
pub record IsSpot (db : Reading) (spot : Spot) : Type 0 where
  pub within : spot.n ≤ length db.items
  pub place : spot.place ≡ start_of db spot.n
