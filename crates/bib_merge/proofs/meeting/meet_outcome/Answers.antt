use Rattle.std.proofs.Common.{List, [], ◌∷◌, ◌++◌, sym, ◌∙◌, subst, append_assoc}
use Rattle.bib_spec.specs.Text.{Text}
use Rattle.bib_places.specs.PlacesSeen.{outcome_seen}
use Rattle.bib_merge.specs.Bodies.{bodies_of, version_bodies, outcome_bodies, AreMet}
use Rattle.bib_merge.proofs.meeting.meet_outcome.Goals as goal

pub returns-in-Ours : goal.returns-in-Ours
returns-in-Ours c rm reads_m ro reads_o rt reads_t uo ut wanted see_o see_t met =
    subst (λ k. AreMet (bodies_of rm) (wanted ++ outcome_bodies uo ut (outcome_seen uo ut k)) c.meet_unit.result) (sym c.in-Ours.is) (c.meet_unit.ensures rm reads_m ro reads_o uo wanted see_o met)

pub returns-in-Theirs : goal.returns-in-Theirs
returns-in-Theirs c rm reads_m ro reads_o rt reads_t uo ut wanted see_o see_t met =
    subst (λ k. AreMet (bodies_of rm) (wanted ++ outcome_bodies uo ut (outcome_seen uo ut k)) c.meet_unit-in-Theirs.result) (sym c.in-Theirs.is)
    (c.meet_unit-in-Theirs.ensures rm reads_m rt reads_t ut wanted see_t met)

pub returns-in_ok-body-in-Mixed : goal.returns-in_ok-body-in-Mixed
returns-in_ok-body-in-Mixed c rm reads_m ro reads_o rt reads_t uo ut wanted see_o see_t met =
    subst (λ k. AreMet (bodies_of rm) (wanted ++ outcome_bodies uo ut (outcome_seen uo ut k)) c.meet.result) (sym c.in-Mixed.is)
    (subst (λ (b : Text). AreMet (bodies_of rm) (wanted ++ b ∷ []) c.meet.result) (c.as_slice.ensures.value ∙ c.in_ok-body-in-Mixed.ensures ro reads_o rt reads_t uo ut see_o see_t)
    (c.meet.ensures rm reads_m wanted met))

pub returns-in-Both : goal.returns-in-Both
returns-in-Both c rm reads_m ro reads_o rt reads_t uo ut wanted see_o see_t met =
    subst (λ k. AreMet (bodies_of rm) (wanted ++ outcome_bodies uo ut (outcome_seen uo ut k)) c.meet_unit-in-Both.result) (sym c.in-Both.is)
    (subst (λ (bs : List Text). AreMet (bodies_of rm) bs c.meet_unit-in-Both.result) (append_assoc wanted (version_bodies uo) (version_bodies ut))
    (c.meet_unit-in-Both.ensures rm reads_m rt reads_t ut (wanted ++ version_bodies uo) see_t (c.meet_unit-after_ours.ensures rm reads_m ro reads_o uo wanted see_o met)))
