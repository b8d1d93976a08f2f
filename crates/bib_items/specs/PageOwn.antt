-- What a page has besides the text that it shares and the places of its items.
use Rattle.std.specs.Prelude.{ℕ, List, [], Option, None}
use Rattle.bib_spec.specs.Text.{Text}
use Rattle.bib_items.specs.declared.later.Held.{Held}
use Rattle.bib_items.specs.declared.later.Held.TheVariants.{Nothing, Boxed}

-- the page's own bytes, and the marks of its items' parts, if they were made
pub record PageOwn : Type 0 where
  pub own : Text
  pub marks : Option (List ℕ)

-- neither own bytes nor marks
abbrev pub nothing_own : PageOwn
nothing_own = record { own = []; marks = None }

-- these bytes, and no marks
abbrev pub only_bytes : Text → PageOwn
only_bytes own = record { own = own; marks = None }

-- the bytes and the marks, however they are kept
abbrev pub own_of : Held → PageOwn
own_of Nothing = nothing_own
own_of (Boxed kept) = record { own = kept.value.own.items; marks = kept.value.marks }
