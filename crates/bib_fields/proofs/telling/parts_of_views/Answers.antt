use Rattle.std.proofs.Common.{map, ◌∙◌, subst}
use Rattle.bib_definitions.specs.MacrosSeen.{macros_seen}
use Rattle.bib_fields.specs.Versions.{MayBeVersion}
use Rattle.bib_fields.specs.PartsSeen.{part_seen}
use Rattle.bib_fields.proofs.MixChecked.{three-parts, no-first, no-second, no-third}
use Rattle.bib_fields.proofs.telling.parts_of_views.Goals as goal

pub returns : goal.returns
returns c ib io it is_b is_o is_t seen_b seen_o seen_t =
    three-parts (macros_seen c.args.macros_b) (macros_seen c.args.macros_o) (macros_seen c.args.macros_t) ib.tree io.tree it.tree c.in-Some.base c.in-Some-2.ours c.in-Some-3.theirs (map part_seen c.in_ok-parts.parts.items)
    (subst (λ v. MayBeVersion v (macros_seen c.args.macros_b) ib.tree) c.in-Some.is (c.in_ok-base.ensures ib is_b seen_b))
    (subst (λ v. MayBeVersion v (macros_seen c.args.macros_o) io.tree) c.in-Some-2.is (c.in_ok-ours.ensures io is_o seen_o))
    (subst (λ v. MayBeVersion v (macros_seen c.args.macros_t) it.tree) c.in-Some-3.is (c.in_ok-theirs.ensures it is_t seen_t))
    c.in_ok-parts.ensures

pub returns-in_default : goal.returns-in_default
returns-in_default c ib io it is_b is_o is_t seen_b seen_o seen_t =
    c.in_ok-first.ensures
    ∙ no-first (macros_seen c.args.macros_b) (macros_seen c.args.macros_o) (macros_seen c.args.macros_t) ib.tree io.tree it.tree
    (subst (λ v. MayBeVersion v (macros_seen c.args.macros_b) ib.tree) c.in_default.is (c.in_ok-base.ensures ib is_b seen_b))

pub returns-in_default-2 : goal.returns-in_default-2
returns-in_default-2 c ib io it is_b is_o is_t seen_b seen_o seen_t =
    c.in_ok-second.ensures
    ∙ no-second (macros_seen c.args.macros_b) (macros_seen c.args.macros_o) (macros_seen c.args.macros_t) ib.tree io.tree it.tree
    (subst (λ v. MayBeVersion v (macros_seen c.args.macros_o) io.tree) c.in_default-2.is (c.in_ok-ours.ensures io is_o seen_o))

pub returns-in_default-3 : goal.returns-in_default-3
returns-in_default-3 c ib io it is_b is_o is_t seen_b seen_o seen_t =
    c.in_ok-third.ensures
    ∙ no-third (macros_seen c.args.macros_b) (macros_seen c.args.macros_o) (macros_seen c.args.macros_t) ib.tree io.tree it.tree
    (subst (λ v. MayBeVersion v (macros_seen c.args.macros_t) it.tree) c.in_default-3.is (c.in_ok-theirs.ensures it is_t seen_t))
