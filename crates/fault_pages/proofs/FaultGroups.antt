-- The pages of groups of faults, one after another.
use Rattle.std.proofs.Common.{◌≡◌, ◌∙◌, Bool, List, ◌++◌, Option, None, Some, option_map, find, refl, sym, ap}
use Rattle.std.specs.Option.{option_or}
use Rattle.std.proofs.lemmas.List.Folds.{find-append}
use Rattle.fault_pages.specs.Heads.{Head, head_of}
use Rattle.fault_pages.specs.declared.asking.Page.{Page}

or_assoc : {X : Type 0} (a b c : Option X) → option_or (option_or a b) c ≡ option_or a (option_or b c)
or_assoc None b c = refl
or_assoc (Some x) b c = refl

mapped : (a rest : Option Page) (found : Option Head) → option_map head_of rest ≡ found → option_map head_of (option_or a rest) ≡ option_or (option_map head_of a) found
mapped None rest found is = is
mapped (Some page) rest found is = refl

-- the faults of a group, and of those after it
pub group : (p : Head → Bool) (xs ys : List Head) (a rest : Option Page) → option_map head_of a ≡ find p xs → option_map head_of rest ≡ find p ys → option_map head_of (option_or a rest) ≡ find p (xs ++ ys)
group p xs ys a rest is also =
    mapped a rest (find p ys) also ∙ ap (λ (o : Option Head). option_or o (find p ys)) is ∙ sym (find-append p xs ys)

pub groups : (p : Head → Bool) (us vs ws xs ys zs : List Head) (u v w x y z : Option Page) → option_map head_of u ≡ find p us → option_map head_of v ≡ find p vs → option_map head_of w ≡ find p ws
    → option_map head_of x ≡ find p xs → option_map head_of y ≡ find p ys → option_map head_of z ≡ find p zs
    → option_map head_of (option_or (option_or (option_or (option_or (option_or u v) w) x) y) z) ≡ find p (us ++ (vs ++ (ws ++ (xs ++ (ys ++ zs)))))
groups p us vs ws xs ys zs u v w x y z a b c d e f =
    ap (option_map head_of)
    (or_assoc (option_or (option_or (option_or u v) w) x) y z
    ∙ or_assoc (option_or (option_or u v) w) x (option_or y z)
    ∙ or_assoc (option_or u v) w (option_or x (option_or y z))
    ∙ or_assoc u v (option_or w (option_or x (option_or y z))))
    ∙ group p us _ u _ a (group p vs _ v _ b (group p ws _ w _ c (group p xs _ x _ d (group p ys zs y z e f))))
