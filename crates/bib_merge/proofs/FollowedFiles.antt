-- The merge of three files in which names are followed.
use Rattle.std.proofs.Common.{◌≡◌, List, [], map, refl, sym, subst}
use Rattle.std.specs.Prelude.{Result, Ok, Err, IfOk}
use Rattle.bib_spec.specs.Text.{Text}
use Rattle.merge_spec.specs.Units.{Label}
use Rattle.merge_spec.specs.Conflicts.{Conflict}
use Rattle.bib_renames.specs.declared.conflict.KeyConflict.{KeyConflict}
use Rattle.bib_renames.specs.declared.following.Followed.{Followed}
use Rattle.bib_renames.specs.Renamed.{AreKeyConflicts, IsFollowed}
use Rattle.bib_uses.specs.declared.losing.LostUse.{LostUse}
use Rattle.bib_renames.proofs.Renamings.{stays}
use Rattle.bib_places.specs.ConflictsSeen.{conflict_seen}
use Rattle.bib_merge.specs.declared.fault.MergeFault.{MergeFault}
use Rattle.bib_merge.specs.declared.merging.Merged.{Merged}
use Rattle.bib_merge.specs.Merges.{label_given, IsMergeOfThree, IsMergeOfFiles, RefusesMergeOfThree, RefusesMergeOfFiles, IsOrMemory}
use Rattle.bib_merge.proofs.RefusedTexts.{weaker}

-- the same files
pub of_texts : (given : List Label) (b o t base ours theirs text : Text) (conflicts : List Conflict) (lost : List Text) (uses : List LostUse) → b ≡ base → o ≡ ours → t ≡ theirs → IsMergeOfThree given b o t text conflicts lost uses → IsMergeOfThree given base ours theirs text conflicts lost uses
of_texts given b o t base ours theirs text conflicts lost uses is_b is_o is_t merge =
    subst (λ (f : Text). IsMergeOfThree given f ours theirs text conflicts lost uses) is_b
    (subst (λ (f : Text). IsMergeOfThree given b f theirs text conflicts lost uses) is_o (subst (λ (f : Text). IsMergeOfThree given b o f text conflicts lost uses) is_t merge))

-- the files in which names are followed
pub followed : (base ours theirs text : Text) (files : Followed) (keys : List KeyConflict) (conflicts : List Conflict) (lost : List Text) (uses : List LostUse) → keys ≡ files.keys.items
    → IsFollowed base ours theirs files → IsMergeOfThree (map label_given files.given.items) files.base files.ours files.theirs text conflicts lost uses → IsMergeOfFiles base ours theirs text keys conflicts lost uses
followed base ours theirs text files keys conflicts lost uses is_keys at merge = record {
  base_file = files.base;
  ours_file = files.ours;
  theirs_file = files.theirs;
  names = at.names;
  given = files.given.items;
  named = at.given;
  merge = merge;
  told = subst (AreKeyConflicts base ours theirs) (sym is_keys) at.keys;
}

-- the same of an answer
pub followed_as : (base ours theirs : Text) (files : Followed) → IsFollowed base ours theirs files → (answer : Result Merged MergeFault) → IfOk answer (λ merged. merged.keys.items ≡ files.keys.items)
    → IfOk answer (λ merged. IsMergeOfThree (map label_given files.given.items) files.base files.ours files.theirs merged.text (map conflict_seen merged.conflicts.items) merged.lost.items merged.uses.items)
    → IfOk answer (λ merged. IsMergeOfFiles base ours theirs merged.text merged.keys.items (map conflict_seen merged.conflicts.items) merged.lost.items merged.uses.items)
followed_as base ours theirs files at (Ok merged) is_keys merge =
    followed base ours theirs merged.text files merged.keys.items (map conflict_seen merged.conflicts.items) merged.lost.items merged.uses.items is_keys at merge
followed_as base ours theirs files at (Err fault) is_keys merge = tt

-- the files as they are, if there is no name to follow
pub unfollowed : (base ours theirs text : Text) (keys : List KeyConflict) (conflicts : List Conflict) (lost : List Text) (uses : List LostUse) → keys ≡ [] → IsMergeOfThree [] base ours theirs text conflicts lost uses
    → IsMergeOfFiles base ours theirs text keys conflicts lost uses
unfollowed base ours theirs text keys conflicts lost uses none merge = record {
  base_file = base;
  ours_file = ours;
  theirs_file = theirs;
  names = record {
    between = base;
    ours_in_base = stays ours base base base refl;
    theirs_in_base = stays theirs base base base refl;
    theirs_in_ours = stays theirs base ours ours refl;
    ours_in_theirs = stays ours base theirs theirs refl;
  };
  given = [];
  named = λ rb reads_b ro reads_o rt reads_t. tt;
  merge = merge;
  told = subst (AreKeyConflicts base ours theirs) (sym none) (λ rb reads_b ro reads_o rt reads_t. tt);
}

-- the same of a merge that is told again, in which no side gave a name to what the other took away
pub told_again : (base ours theirs text was : Text) (keys : List KeyConflict) (given : List Label) (conflicts found : List Conflict) (lost gone : List Text) (uses left : List LostUse) → keys ≡ [] → given ≡ [] → text ≡ was → conflicts ≡ found → lost ≡ gone → uses ≡ left
    → IsMergeOfThree given base ours theirs was found gone left → IsMergeOfFiles base ours theirs text keys conflicts lost uses
told_again base ours theirs text was keys given conflicts found lost gone uses left no_keys none is same_conflicts same_lost same_uses merge =
    unfollowed base ours theirs text keys conflicts lost uses no_keys
    (subst (λ (t : Text). IsMergeOfThree [] base ours theirs t conflicts lost uses) (sym is)
    (subst (λ (cs : List Conflict). IsMergeOfThree [] base ours theirs was cs lost uses) (sym same_conflicts)
    (subst (λ (ls : List Text). IsMergeOfThree [] base ours theirs was found ls uses) (sym same_lost)
    (subst (λ (us : List LostUse). IsMergeOfThree [] base ours theirs was found gone us) (sym same_uses)
    (subst (λ (gs : List Label). IsMergeOfThree gs base ours theirs was found gone left) none merge)))))

-- ---- why there is no merge

-- of the same files
pub refused_texts : (labels given : List Label) (b o t base ours theirs : Text) → labels ≡ given → b ≡ base → o ≡ ours → t ≡ theirs → (fault : MergeFault)
    → IsOrMemory (RefusesMergeOfThree labels b o t) fault → IsOrMemory (RefusesMergeOfThree given base ours theirs) fault
refused_texts labels given b o t base ours theirs is is_b is_o is_t fault why =
    subst (λ (f : Text). IsOrMemory (RefusesMergeOfThree given f ours theirs) fault) is_b
    (subst (λ (f : Text). IsOrMemory (RefusesMergeOfThree given b f theirs) fault) is_o
    (subst (λ (f : Text). IsOrMemory (RefusesMergeOfThree given b o f) fault) is_t (subst (λ (ls : List Label). IsOrMemory (RefusesMergeOfThree ls b o t) fault) is why)))

-- of the files in which names are followed
pub refused_followed : (base ours theirs : Text) (files : Followed) → IsFollowed base ours theirs files → (fault : MergeFault)
    → IsOrMemory (RefusesMergeOfThree (map label_given files.given.items) files.base files.ours files.theirs) fault → IsOrMemory (RefusesMergeOfFiles base ours theirs) fault
refused_followed base ours theirs files is fault why =
    weaker _ _
    (λ other refused. record {
      base_file = files.base;
      ours_file = files.ours;
      theirs_file = files.theirs;
      names = is.names;
      given = files.given.items;
      named = is.given;
      refused = refused;
    })
    fault why

-- of the files as they are, if there is no name to follow
pub refused_unfollowed : (base ours theirs : Text) (given : List Label) → given ≡ [] → (fault : MergeFault) → IsOrMemory (RefusesMergeOfThree given base ours theirs) fault → IsOrMemory (RefusesMergeOfFiles base ours theirs) fault
refused_unfollowed base ours theirs given none fault why =
    weaker _ _
    (λ other refused. record {
      base_file = base;
      ours_file = ours;
      theirs_file = theirs;
      names = record {
        between = base;
        ours_in_base = stays ours base base base refl;
        theirs_in_base = stays theirs base base base refl;
        theirs_in_ours = stays theirs base ours ours refl;
        ours_in_theirs = stays ours base theirs theirs refl;
      };
      given = [];
      named = λ rb reads_b ro reads_o rt reads_t. tt;
      refused = subst (λ (ls : List Label). RefusesMergeOfThree ls base ours theirs other) none refused;
    })
    fault why
