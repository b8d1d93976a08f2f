use Rattle.std.proofs.Common.{subst}
use Rattle.bib_definitions.specs.MacrosSeen.{macros_seen}
use Rattle.bib_fields.specs.Versions.{MayBeVersion}
use Rattle.bib_fields.proofs.MixChecked.{three-items}
use Rattle.bib_fields.proofs.checking.views_mix.Goals as goal

pub returns : goal.returns
returns c yes' ib io it is_b is_o is_t seen_b seen_o seen_t =
    three-items (macros_seen c.args.macros_b) (macros_seen c.args.macros_o) (macros_seen c.args.macros_t) ib.tree io.tree it.tree c.in-Some.base c.in-Some-2.ours c.in-Some-3.theirs c.args.mix
    (subst (λ v. MayBeVersion v (macros_seen c.args.macros_b) ib.tree) c.in-Some.is (c.in_ok-base.ensures ib is_b seen_b))
    (subst (λ v. MayBeVersion v (macros_seen c.args.macros_o) io.tree) c.in-Some-2.is (c.in_ok-ours.ensures io is_o seen_o))
    (subst (λ v. MayBeVersion v (macros_seen c.args.macros_t) it.tree) c.in-Some-3.is (c.in_ok-theirs.ensures it is_t seen_t))
    (c.in_ok-is.ensures yes')
