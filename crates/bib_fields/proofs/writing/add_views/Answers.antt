use Rattle.std.proofs.Common.{subst}
use Rattle.bib_fields.specs.Sources.{MayBeSource}
use Rattle.bib_fields.proofs.Sourced.{written-items}
use Rattle.bib_fields.proofs.writing.add_views.Goals as goal

pub returns : goal.returns
returns c io it mo mt is_o is_t seen_o seen_t =
    written-items io.tree it.tree mo mt c.in-Some.ours c.in-Some-2.theirs c.args.mix c.args.out.now.items c.add_entry.new.out.items
    (subst (λ s. MayBeSource s io.tree) c.in-Some.is (c.in_ok-ours.ensures io is_o seen_o)) (subst (λ s. MayBeSource s it.tree) c.in-Some-2.is (c.in_ok-theirs.ensures it is_t seen_t))
    c.in_ok-add_entry.ensures
