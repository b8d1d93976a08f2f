-- Edits of macros leave the texts of all entries unchanged, and so each list.
use Rattle.std.proofs.Common.{◌≡◌, false, not, ◌||◌, ◌&&◌, count_by, is_some, ap, refl}
use Rattle.std.specs.List.{list_any}
use Rattle.std.proofs.lemmas.Bool.{false_from_ne_true, or_parts}
use Rattle.bib_spec.specs.Text.{Text, folded, same}
use Rattle.bib_spec.specs.Texts.{months}
use Rattle.bib_spec.specs.Reading.{Reading}
use Rattle.bib_spec.specs.Records.{Record, entries_of}
use Rattle.bib_spec.proofs.Accepted.{there_once}
use Rattle.part_spec.specs.Parts.{uses, any_part}
use Rattle.edit_spec.specs.Edits.{RenameMacro, InlineMacro, IntroduceMacro, NotFound, Ambiguous, NameInUse, defines, is_in_use, text_of_macro, edited}
use Rattle.edit_spec.proofs.Simulation.{InItems}
use Rattle.edit_spec.proofs.InUse.{InItems_none}
use Rattle.edit_spec.proofs.RenameMacro.{entries_renamed}
use Rattle.edit_spec.proofs.InlineMacro.{entries_inlined}
use Rattle.edit_spec.proofs.IntroduceMacro.{IsUnused, IsOther, entries_introduced}
use Rattle.edit_spec.proofs.MacroLaws.{all_free}
use Rattle.bibtex_spec.specs.Listed.{listed_as_bibtex, unknown_as_bibtex}
use Rattle.bibtex_laws.specs.RenamingLists.{KeepsEachList, MacroEditsKeepLists}

-- what has the same entries has the same lists
keeps_each : (old new : Reading) → entries_of new ≡ entries_of old → KeepsEachList old new
keeps_each old new is = record {
  listed = λ keys least. ap (λ entries. listed_as_bibtex entries keys least) is;
  unknown = λ keys. ap (λ entries. unknown_as_bibtex entries keys) is;
}

pub macro-edits-keep-lists : (key_base : Record → Text) (db : Reading) → MacroEditsKeepLists key_base db
macro-edits-keep-lists key_base db = record {
  renamed = λ from to accepted.
      keeps_each db (edited key_base db (RenameMacro from to))
      (entries_renamed from to months db.items (all_free from to db (false_from_ne_true (not (same to from) && is_in_use to db.items) (accepted NameInUse))));
  inlined = λ name accepted.
      keeps_each db (edited key_base db (InlineMacro name))
      (entries_inlined name (text_of_macro name db) months db.front db.items (there_once (count_by (λ item. defines name item.tree) db.items) (accepted NotFound) (accepted Ambiguous)) refl);
  introduced = λ name text accepted.
      let unused : is_in_use name db.items ≡ false = false_from_ne_true (is_in_use name db.items) (accepted NameInUse) in
      let fine : InItems (IsUnused name text) (IsOther name text) db.items =
      InItems_none (IsUnused name text) (IsOther name text) (uses name) (λ _ h. h) name (λ _ h. h) db.items
      (or_parts (is_some (months (folded name))) (list_any (λ item. defines name item.tree || any_part (uses name) item.tree) db.items) unused).1 in
      keeps_each db (edited key_base db (IntroduceMacro name text)) (entries_introduced name text months db.items fine);
}
