-- No promise rests on this page: it says in which bytes the code knows that nothing can be found.
use Rattle.std.specs.Prelude.{ℕ, ◌≡◌, Bool, not, ◌||◌, List, bytes_eq, codes}
use Rattle.std.specs.Char.{is_ascii}
use Rattle.std.specs.List.{AllByRecursion, count_by}
use Rattle.bib_spec.specs.Text.{Text}
use Rattle.bib_scan.specs.View.{Field, View}

-- the byte is not ASCII
abbrev pub is_other : ℕ → Bool
is_other b = not (is_ascii b)

-- the name of the field and the bytes of its value are ASCII
pub record IsPlain (field : Field) : Type 0 where
  pub name : count_by is_other field.name ≡ 0
  pub value : count_by is_other field.value ≡ 0

-- each of the fields is so
abbrev pub ArePlain : List Field → Type 0
ArePlain = AllByRecursion IsPlain

-- the type name and the key of the item are ASCII
pub record IsPlainHead (view : View) : Type 0 where
  pub type_name : count_by is_other view.type_name ≡ 0
  pub key : count_by is_other view.key ≡ 0

-- the text is one line feed or two
abbrev pub is_line_feeds : Text → Bool
is_line_feeds t = bytes_eq t (codes "\n") || bytes_eq t (codes "\n\n")
