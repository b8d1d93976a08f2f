-- What an item's bytes tell before the item is taken apart.
use Rattle.std.specs.Prelude.{ℕ, ◌≡◌, ◌<◌, ◌++◌, [], false, length, take, Option}
use Rattle.bib_spec.specs.Text.{Text, same}
use Rattle.bib_items.specs.declared.seeking.Sought.{Sought}
use Rattle.bib_items.specs.declared.seeking.Sought.TheVariants as sought
use Rattle.bib_items.specs.PartMarks.{mark_len, sought_mark}

-- the word is nowhere in the text, in any case
abbrev pub LacksWord : Text → Text → Type 0
LacksWord text word = (front name rest : Text) → text ≡ front ++ (name ++ rest) → same name word ≡ false

-- the first bytes of the name or of the text that is sought
abbrev pub head_of : Sought → Text
head_of sought.Nothing = []
head_of (sought.Uses name) = take mark_len name.now
head_of (sought.Holds text) = take mark_len text.now

-- what a search looks for: its mark, its first bytes, and the number of one of these, if there is one
pub record IsSearch (s : Sought) (mark : Option ℕ) (head : Text) (rare : ℕ) : Type 0 where
  pub mark_is : mark ≡ sought_mark s
  pub head_is : head ≡ head_of s
  pub rare_in : 0 < length head → rare < length head
