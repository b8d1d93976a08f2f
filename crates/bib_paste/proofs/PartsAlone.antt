-- The text of a part that stands alone.
use Rattle.std.proofs.Common.{◌≡◌, ◌≢◌, List, [], ◌∷◌, length, slice_get, None, Some, refl, sym, ap}
use Rattle.std.proofs.lemmas.Option.{same_Some}
use Rattle.bib_spec.specs.Tree.{Part}
use Rattle.bib_paste.specs.News.{own_text, text_alone}

-- one part stands alone
pub alone : (parts : List Part) (part : Part) → length parts ≡ 1 → slice_get parts 0 ≡ Some part → own_text part ≡ text_alone parts
alone [] part one at = cc
alone (p ∷ []) part one at = ap own_text (sym (same_Some p part at))
alone (p ∷ q ∷ parts) part one at = cc

-- several parts, or none, have no part alone
pub not-alone : (parts : List Part) → length parts ≢ 1 → None ≡ text_alone parts
not-alone [] other = refl
not-alone (p ∷ []) other = absurd (other refl)
not-alone (p ∷ q ∷ parts) other = refl
