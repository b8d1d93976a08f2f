-- Whether the entry that a key names is a parent.
use Rattle.bib_edit.proofs.Words.{◌≡◌, ◌↔◌, ℕ, Bool, false, IsTrue, List, Some, None, sym, ◌∙◌, ap, false≢true, none-some, same_Some, Text, EntryTexts, entry_named, IsReferred, IsParent}

-- the entry that the key names is a parent
pub referred-iff : (key : Text) (entries : List EntryTexts) (m : ℕ) (b : Bool) → entry_named entries key ≡ Some m → (IsTrue b ↔ IsParent entries m) → IsTrue b ↔ IsReferred key entries
referred-iff key entries m b named is = (
  λ t. let found = is.0 t in (found.0, m, named, found.1),
  λ refers. is.1 (refers.0, refers.3 ∙ ap Some (same_Some refers.1 m (sym refers.2 ∙ named))),
)

pub unnamed-iff : (key : Text) (entries : List EntryTexts) → entry_named entries key ≡ None → IsTrue false ↔ IsReferred key entries
unnamed-iff key entries none = (
  λ t. absurd (false≢true t),
  λ refers. absurd (none-some refers.1 (sym none ∙ refers.2)),
)
