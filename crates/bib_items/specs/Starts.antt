-- Where the pages of a list of items begin.
use Rattle.std.specs.Prelude.{ℕ, ◌≡◌, ◌≤◌, ◌<◌, List, length, take, slice_index_or}
use Rattle.std.specs.List.{flat_map}
use Rattle.bib_pages.specs.Pages.{joined}
use Rattle.bib_items.specs.declared.list.Item.{Item}
use Rattle.bib_items.specs.declared.starts.PageStart.{PageStart}
use Rattle.bib_items.specs.Items.{kept_bytes}
use Rattle.bib_items.specs.Pages.{IsPaged}

-- how many bytes the items have together
abbrev pub weight : List Item → ℕ
weight items = length (flat_map kept_bytes items)

-- where page p begins: how many items the pages before it have, and how many bytes
pub record BeginsWith (pages : List (List Item)) (p : ℕ) (start : PageStart) : Type 0 where
  pub item : start.item ≡ length (joined (take p pages))
  pub byte : start.byte ≡ weight (joined (take p pages))

-- where the first page begins
abbrev pub first_start : PageStart
first_start = record { item = 0; byte = 0 }

-- where the first pages begin, for as many pages as it is known
pub record AreStarts (pages : List (List Item)) (starts : List PageStart) : Type 0 where
  pub within : length starts ≤ length pages
  pub each : (p : ℕ) → p < length starts → BeginsWith pages p (slice_index_or starts p first_start)

-- the pages of a list, how many items it has, and where pages begin
pub record IsIndexed (pages : List (List Item)) (count : ℕ) (starts : List PageStart) : Type 0 where
  pub paged : IsPaged pages count
  pub told : AreStarts pages starts

-- both have the same pages before page p
pub record HaveSameBefore (p : ℕ) (old new : List (List Item)) : Type 0 where
  pub within : p ≤ length new
  pub same : take p new ≡ take p old
