-- Which names were seen, as the code keeps them.
use Rattle.std.specs.Prelude.{◌≡◌, ◌||◌, Bool, true, List, is_some}
use Rattle.std.specs.List.{list_any}
use Rattle.bib_spec.specs.Text.{Text, folded, same}
use Rattle.folded_map.specs.FoldedMap.{value_at}
use Rattle.bib_answers.specs.Recurring.{may_recur, AreTold, unrolled}
use Rattle.bib_answers.specs.declared.seen_names.SeenNames.{SeenNames}

-- the name is one of those in the map
abbrev pub is_other : List (Text × Unit {0}) → Text → Bool
is_other others name = is_some (value_at others (folded name))

-- of the names that may recur, exactly `names` were seen
abbrev pub HaveSeen : SeenNames → List Text → Type 0
HaveSeen seen names = (name : Text) → may_recur seen.filter name ≡ true
    → (list_any (λ few. same name few.now) seen.few.items || is_other seen.others name) ≡ list_any (same name) names

-- `earlier` are the names of the item that were seen, the last first, and `rest` are the names left
pub record IsAt (seen : SeenNames) (all earlier rest : List Text) : Type 0 where
  pub have : HaveSeen seen earlier
  pub told : AreTold seen.filter earlier rest
  pub joined : unrolled earlier rest ≡ all
