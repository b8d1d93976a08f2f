use Rattle.std.proofs.Common.{sym, ◌∙◌, ap}
use Rattle.merge_spec.specs.Conflicts.{conflict_over}
use Rattle.bib_places.specs.PlacesSeen.{outcome_seen}
use Rattle.bib_places.proofs.ConflictsMet.{one-conflict}
use Rattle.bib_places.proofs.conflicts.conflict_over.Goals as goal

pub returns-in_ok-label-in-Both : goal.returns-in_ok-label-in-Both
returns-in_ok-label-in-Both g c rb reads_b ro reads_o rt reads_t ub uo ut see_b see_o see_t =
    one-conflict _ _ _ _ (c.in_ok-change-in-Both.ensures rb reads_b ro reads_o rt reads_t ub uo ut see_b see_o see_t)
    (c.in_ok-label-in-Both.ensures ∙ c.label_of_either.ensures ro rt uo ut see_o see_t)
    ∙ ap (λ k. conflict_over ub uo ut (outcome_seen uo ut k)) (sym c.in-Both.is)
