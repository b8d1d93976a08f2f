-- No promise rests on this page: it says where the walk over the items of a file is.
use Rattle.std.specs.Prelude.{ℕ, ◌≡◌, List, length, take, drop}
use Rattle.std.specs.List.{list_any}
use Rattle.bib_spec.specs.Text.{Text}
use Rattle.bib_spec.specs.Texts.{is_empty}
use Rattle.bib_spec.specs.Reading.{Reading}
use Rattle.bib_scan.specs.Layout.{start_of}
use Rattle.bibtex_spec.specs.Plain.{AtSign, at_signs_from, first_breach, not_plain}
use Rattle.bibtex_plain.specs.Walking.{keys_in}
use Rattle.bibtex_plain.specs.declared.plain.Count.{Count}
use Rattle.bibtex_plain.specs.declared.plain.Walk.{Walk}

-- the at-signs from item n on
abbrev pub signs_from : Reading → ℕ → List AtSign
signs_from r n = at_signs_from (keys_in (take n r.items)) (start_of r n) (drop n r.items)

-- this is counted of entries with these keys
pub record IsCountOf (keys : List Text) (count : Count) : Type 0 where
  pub entries : count.entries ≡ length keys
  pub empty : count.has_empty ≡ list_any is_empty keys

-- the walk is at item n, and whether the file is plain depends on the at-signs from there on
pub record IsWalk (r : Reading) (n : ℕ) (walk : Walk) : Type 0 where
  pub place : walk.place ≡ start_of r n
  pub count : IsCountOf (keys_in (take n r.items)) walk.count
  pub rest : not_plain r ≡ first_breach walk.is_over (signs_from r n)
