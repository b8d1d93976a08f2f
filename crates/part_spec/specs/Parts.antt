-- The parts of values that an edit of macros looks for.
use Rattle.std.specs.Prelude.{Bool, false, List, bytes_eq}
use Rattle.std.specs.List.{list_any}
use Rattle.bib_spec.specs.Text.{Text, same}
use Rattle.bib_spec.specs.Tree.{Part, Braced, Quoted, Digits, Macro, Tree}
use Rattle.bib_spec.specs.Reading.{Item}
use Rattle.bib_spec.specs.Texts.{parts_of, values_of}

-- the part is the macro's name
abbrev pub uses : Text → Part → Bool
uses name (Macro used) = same used name
uses name (Braced t) = false
uses name (Quoted t) = false
uses name (Digits t) = false

-- the part is `{text}` or `"text"`
abbrev pub holds : Text → Part → Bool
holds text (Braced t) = bytes_eq t text
holds text (Quoted t) = bytes_eq t text
holds text (Digits t) = false
holds text (Macro name) = false

-- some part of the item passes the test
abbrev pub any_part : (Part → Bool) → Tree → Bool
any_part test tree = list_any (λ v. list_any test (parts_of v)) (values_of tree)

-- some part of one of these items passes the test
abbrev pub have_part : (Part → Bool) → List Item → Bool
have_part test items = list_any (λ item. any_part test item.tree) items
