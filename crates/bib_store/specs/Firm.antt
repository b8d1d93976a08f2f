-- Tables of items in which nothing depends on macros but the texts of fields and preambles.
use Rattle.std.specs.Prelude.{◌≡◌, ◌≤◌, ◌*◌, ℕ, true, max}
use Rattle.bib_spec.specs.Texts.{raw_limit}
use Rattle.bib_store.specs.declared.bounds.Bounds.{Bounds}
use Rattle.bib_store.specs.declared.tables.Tables.{Tables}

-- all items within the bounds are settled, and none says a text that is too long if no macro stands for a longer text than
-- this
pub record AreFirm (longest : ℕ) (bounds : Bounds) : Type 0 where
  pub settled : bounds.settled ≡ true
  pub short : bounds.longest_body * max longest 1 ≤ raw_limit

-- the tables say so of their items, so that definitions may come and go among these
abbrev pub IsFirm : Tables → Type 0
IsFirm t = AreFirm t.definitions.longest t.bounds
