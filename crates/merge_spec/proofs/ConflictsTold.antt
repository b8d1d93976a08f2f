-- Each pair of versions is a conflict.
use Rattle.std.proofs.Common.{◌≡◌, Bool, ◌||◌, List, [], ◌∷◌, ◌++◌, Option, refl}
use Rattle.std.specs.List.{list_any}
use Rattle.merge_spec.specs.Units.{Unit}
use Rattle.merge_spec.specs.ThreeWay.{Outcome, Ours, Theirs, Mixed, Gone, Both, are_both}
use Rattle.merge_spec.specs.Merged.{unit_at}
use Rattle.merge_spec.specs.Conflicts.{Conflict, conflict_over, conflicts_of, is_any}
use Rattle.merge_spec.specs.Laws.{conflicts_are_all_told}

-- one place more
more : (b o t : Option Unit) (outcome : Outcome) (conflicts : List Conflict) (rest : Bool) → is_any conflicts ≡ rest → is_any (conflict_over b o t outcome ++ conflicts) ≡ (are_both outcome || rest)
more b o t Ours conflicts rest is = is
more b o t Theirs conflicts rest is = is
more b o t (Mixed kind key space rows) conflicts rest is = is
more b o t Gone conflicts rest is = is
more b o t Both conflicts rest is = refl

pub conflicts-are_all_told : conflicts_are_all_told
conflicts-are_all_told base ours theirs [] = refl
conflicts-are_all_told base ours theirs (p ∷ places) =
    more (unit_at base p.base) (unit_at ours p.ours) (unit_at theirs p.theirs) p.outcome (conflicts_of base ours theirs places) (list_any (λ q. are_both q.outcome) places)
    (conflicts-are_all_told base ours theirs places)
