use Rattle.std.proofs.Common.{sym, ◌∙◌}
use Rattle.std.proofs.lemmas.Bool.{cond-false}
use Rattle.merge_spec.specs.ThreeWay.{are_both, may_become}
use Rattle.merge_spec.specs.Merged.{is_removed_and_named}
use Rattle.bib_places.specs.PlacesSeen.{outcome_seen}
use Rattle.bib_places.proofs.settled.may_come.Goals as goal

pub returns : goal.returns
returns g c may rb reads_b ro reads_o rt reads_t labels counts b o t see_b see_o see_t =
    let outcome = outcome_seen o t c.args.outcome in
    cond-false (is_removed_and_named labels b o t) (are_both outcome) (may_become b o t outcome)
    (sym (c.in_ok-is_removed_and_named.ensures labels counts rb ro rt b o t see_b see_o see_t) ∙ c.if-branch.false)
    ∙ c.in_ok-may.ensures may rb reads_b ro reads_o rt reads_t b o t see_b see_o see_t
