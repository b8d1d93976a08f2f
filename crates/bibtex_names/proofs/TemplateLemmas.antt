-- The groups of a template that are read from left to right.
use Rattle.bib_names.proofs.Words.{◌≡◌, ℕ, ◌+◌, ◌-◌, ◌≤◌, ◌<◌, true, false, cond, List, [], ◌∷◌, ◌++◌, length, drop, map, refl, sym, ap, ◌∙◌, arith, append-nil, Text, balances, places_from}
use Rattle.std.proofs.Common.{append_assoc}
use Rattle.std.specs.Prelude.{Option, Some, None, Err, Ok, option_map}
use Rattle.std.specs.List.{take_while}
use Rattle.bib_names.specs.Template.{is_no_brace}
use Rattle.bib_names.specs.declared.fault.NameFault.TheVariants.{BadTemplate}
use Rattle.bib_names.proofs.PlaceLemmas.{places_here, places_past, places_none}
use Rattle.bibtex_names.specs.NamesInLists.{given_template, template_in}
use Rattle.bibtex_names.specs.Template.{Pattern, begins_group_at, front_group, all_of, groups_of}
use Rattle.bibtex_names.specs.declared.template.Group.{Group}

-- the group that begins at a place
abbrev group_from : Text → ℕ → Option Group
group_from text place = front_group (drop place text)

-- the groups from a place on
abbrev groups_from : Text → ℕ → Option (List Group)
groups_from text place = all_of (map (group_from text) (places_from (begins_group_at text) place (length text - place)))

-- these groups, and then others
abbrev after_these : List Group → Option (List Group) → Option (List Group)
after_these groups others = option_map (λ (more : List Group). groups ++ more) others

-- these are the groups before a place
pub record AreGroupsSoFar (text : Text) (groups : List Group) (place : ℕ) : Type 0 where
  pub told : groups_of text ≡ after_these groups (groups_from text place)

nothing_before : (others : Option (List Group)) → others ≡ after_these [] others
nothing_before None = refl
nothing_before (Some more) = refl

pub groups_first : (text : Text) → AreGroupsSoFar text [] 0
groups_first text =
    let whole : length text ≡ length text - 0 = omega arith in
    record { told = ap (λ n. all_of (map (group_from text) (places_from (begins_group_at text) 0 n))) whole ∙ nothing_before (groups_from text 0) }

-- no group begins at the place
pub groups_on : (text : Text) (groups : List Group) (place : ℕ) → place < length text → AreGroupsSoFar text groups place → begins_group_at text place ≡ false → AreGroupsSoFar text groups (place + 1)
groups_on text groups place lt far fails =
    record { told = far.told ∙ ap (λ ps. after_these groups (all_of (map (group_from text) ps))) (places_past (begins_group_at text) place (length text) lt fails) }

-- a group begins there
groups_here : (text : Text) (groups : List Group) (place : ℕ) (o : Option Group) → place < length text → AreGroupsSoFar text groups place → begins_group_at text place ≡ true → o ≡ group_from text place
    → groups_of text ≡ after_these groups (all_of (o ∷ map (group_from text) (places_from (begins_group_at text) (place + 1) (length text - (place + 1)))))
groups_here text groups place o lt far passes is =
    far.told ∙ ap (λ ps. after_these groups (all_of (map (group_from text) ps))) (places_here (begins_group_at text) place (length text) lt passes)
    ∙ ap (λ (first : Option Group). after_these groups (all_of (first ∷ map (group_from text) (places_from (begins_group_at text) (place + 1) (length text - (place + 1)))))) (sym is)

one_more : (groups : List Group) (group : Group) (others : Option (List Group)) → after_these groups (option_map (λ (more : List Group). group ∷ more) others) ≡ after_these (groups ++ group ∷ []) others
one_more groups group None = refl
one_more groups group (Some more) = ap (λ (all : List Group). Some all) (sym (append_assoc groups (group ∷ []) more))

pub groups_more : (text : Text) (groups : List Group) (group : Group) (place : ℕ) → place < length text → AreGroupsSoFar text groups place → begins_group_at text place ≡ true → Some group ≡ group_from text place
    → AreGroupsSoFar text (groups ++ group ∷ []) (place + 1)
groups_more text groups group place lt far passes is =
    record { told = groups_here text groups place (Some group) lt far passes is ∙ one_more groups group (groups_from text (place + 1)) }

-- no group is left
pub groups_last : (text : Text) (groups : List Group) (place : ℕ) → length text ≤ place → AreGroupsSoFar text groups place → groups_of text ≡ Some groups
groups_last text groups place end far =
    far.told ∙ ap (λ ps. after_these groups (all_of (map (group_from text) ps))) (places_none (begins_group_at text) place (length text) end)
    ∙ ap (λ (all : List Group). Some all) (append-nil groups)

-- ---- templates

abbrev with_front : Text → List Group → Pattern
with_front text groups = record { front = take_while is_no_brace text; groups = groups }

balanced_template : (text : Text) (groups : Option (List Group)) → true ≡ balances text → groups_of text ≡ groups → template_in text ≡ given_template (option_map (with_front text) groups)
balanced_template text groups is told =
    ap (λ b. given_template (cond b (option_map (with_front text) (groups_of text)) None)) (sym is)
    ∙ ap (λ (o : Option (List Group)). given_template (option_map (with_front text) o)) told

pub template_read : (text : Text) (groups : List Group) → true ≡ balances text → groups_of text ≡ Some groups → template_in text ≡ Ok (with_front text groups)
template_read text groups is told = balanced_template text (Some groups) is told

pub template_unbalanced : (text : Text) → false ≡ balances text → template_in text ≡ Err BadTemplate
template_unbalanced text is = ap (λ b. given_template (cond b (option_map (with_front text) (groups_of text)) None)) (sym is)
