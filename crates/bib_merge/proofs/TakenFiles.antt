-- A file of one side as a merge.
use Rattle.std.proofs.Common.{◌≡◌, List, [], sym, ◌∙◌, subst}
use Rattle.bib_spec.specs.Text.{Text}
use Rattle.bib_spec.specs.Reading.{Reading}
use Rattle.bib_spec.specs.Texts.{Opens}
use Rattle.bib_spec.specs.Records.{entries_of}
use Rattle.merge_spec.specs.Parents.{lost_keys}
use Rattle.merge_spec.specs.Conflicts.{Conflict}
use Rattle.bib_uses.specs.Lost.{lost_uses}
use Rattle.bib_uses.specs.declared.losing.LostUse.{LostUse}
use Rattle.bib_merge.specs.Merges.{IsMergeOf, IsMergeOfThree, LeavesTheOther, AllDiffer}
use Rattle.bib_merge.proofs.UnchangedSides.{ours-left, theirs-left, sides-same}

-- a merge with other conflicts that are none
no_conflicts : (rb ro rt rm : Reading) (conflicts : List Conflict) → conflicts ≡ [] → IsMergeOf [] rb ro rt rm [] → IsMergeOf [] rb ro rt rm conflicts
no_conflicts rb ro rt rm conflicts none merge = subst (λ (cs : List Conflict). IsMergeOf [] rb ro rt rm cs) (sym none) merge

-- we left the common file
pub ours_taken : (base ours theirs text : Text) (conflicts : List Conflict) (lost : List Text) (uses : List LostUse) (rb rt : Reading) → ours ≡ base → text ≡ theirs → conflicts ≡ []
    → Opens base rb → Opens theirs rt → lost ≡ lost_keys (entries_of rb) (entries_of rt) (entries_of rt) → uses ≡ lost_uses rb rt rt → IsMergeOfThree [] base ours theirs text conflicts lost uses
ours_taken base ours theirs text conflicts lost uses rb rt same_ours is none opens_b opens_t lose change = record {
  rb = rb;
  ro = rb;
  rt = rt;
  rm = rt;
  base_opens = opens_b;
  ours_opens = subst (λ (f : Text). Opens f rb) (sym same_ours) opens_b;
  theirs_opens = opens_t;
  text_opens = subst (λ (f : Text). Opens f rt) (sym is) opens_t;
  merge = no_conflicts rb rb rt rt conflicts none (ours-left rb rt);
  lose = lose;
  change = change;
}

-- they left the common file
pub theirs_taken : (base ours theirs text : Text) (conflicts : List Conflict) (lost : List Text) (uses : List LostUse) (rb ro : Reading) → theirs ≡ base → text ≡ ours → conflicts ≡ []
    → Opens base rb → Opens ours ro → lost ≡ lost_keys (entries_of ro) (entries_of rb) (entries_of ro) → uses ≡ lost_uses ro rb ro → IsMergeOfThree [] base ours theirs text conflicts lost uses
theirs_taken base ours theirs text conflicts lost uses rb ro same_theirs is none opens_b opens_o lose change = record {
  rb = rb;
  ro = ro;
  rt = rb;
  rm = ro;
  base_opens = opens_b;
  ours_opens = opens_o;
  theirs_opens = subst (λ (f : Text). Opens f rb) (sym same_theirs) opens_b;
  text_opens = subst (λ (f : Text). Opens f ro) (sym is) opens_o;
  merge = no_conflicts rb ro rb ro conflicts none (theirs-left rb ro);
  lose = lose;
  change = change;
}

-- both have the same file
pub same_taken : (base ours theirs text : Text) (conflicts : List Conflict) (lost : List Text) (uses : List LostUse) (rb rt : Reading) → ours ≡ theirs → text ≡ theirs → conflicts ≡ []
    → Opens base rb → Opens theirs rt → lost ≡ lost_keys (entries_of rt) (entries_of rt) (entries_of rt) → uses ≡ lost_uses rt rt rt → IsMergeOfThree [] base ours theirs text conflicts lost uses
same_taken base ours theirs text conflicts lost uses rb rt same_sides is none opens_b opens_t lose change = record {
  rb = rb;
  ro = rt;
  rt = rt;
  rm = rt;
  base_opens = opens_b;
  ours_opens = subst (λ (f : Text). Opens f rt) (sym same_sides) opens_t;
  theirs_opens = opens_t;
  text_opens = subst (λ (f : Text). Opens f rt) (sym is) opens_t;
  merge = no_conflicts rb rt rt rt conflicts none (sides-same rb rt);
  lose = lose;
  change = change;
}

-- ---- which file it is

pub leaves_theirs : (base ours theirs text : Text) (conflicts : List Conflict) → ours ≡ base → text ≡ theirs → conflicts ≡ [] → LeavesTheOther base ours theirs text conflicts
leaves_theirs base ours theirs text conflicts same_ours is no_conflict = record {
  ours_left = λ e. record { text_is = is; none = no_conflict };
  theirs_left = λ e. record { text_is = is ∙ e ∙ sym same_ours; none = no_conflict };
  same = λ e. record { text_is = is ∙ sym e; none = no_conflict };
}

pub leaves_ours : (base ours theirs text : Text) (conflicts : List Conflict) → theirs ≡ base → text ≡ ours → conflicts ≡ [] → LeavesTheOther base ours theirs text conflicts
leaves_ours base ours theirs text conflicts same_theirs is no_conflict = record {
  ours_left = λ e. record { text_is = is ∙ e ∙ sym same_theirs; none = no_conflict };
  theirs_left = λ e. record { text_is = is; none = no_conflict };
  same = λ e. record { text_is = is; none = no_conflict };
}

pub leaves_same : (base ours theirs text : Text) (conflicts : List Conflict) → ours ≡ theirs → text ≡ theirs → conflicts ≡ [] → LeavesTheOther base ours theirs text conflicts
leaves_same base ours theirs text conflicts same_sides is no_conflict = record {
  ours_left = λ e. record { text_is = is; none = no_conflict };
  theirs_left = λ e. record { text_is = is ∙ sym same_sides; none = no_conflict };
  same = λ e. record { text_is = is ∙ sym same_sides; none = no_conflict };
}

-- nothing is left if all three differ
pub leaves_none : (base ours theirs text : Text) (conflicts : List Conflict) → AllDiffer base ours theirs → LeavesTheOther base ours theirs text conflicts
leaves_none base ours theirs text conflicts differ = record {
  ours_left = λ e. absurd (differ.ours_changed e);
  theirs_left = λ e. absurd (differ.theirs_changed e);
  same = λ e. absurd (differ.differ e);
}
