use Rattle.std.proofs.Common.{◌≡◌, true, sym, ◌∙◌, subst}
use Rattle.merge_spec.specs.ThreeWay.{may_become}
use Rattle.bib_places.specs.PlacesSeen.{outcome_seen}
use Rattle.bib_places.proofs.settled.may_become.Goals as goal

pub returns-in_ok-may-in-Ours : goal.returns-in_ok-may-in-Ours
returns-in_ok-may-in-Ours g c may rb reads_b ro reads_o rt reads_t b o t see_b see_o see_t =
    subst (λ k. may_become b o t (outcome_seen o t k) ≡ true) (sym c.in-Ours.is)
    (sym (c.in_ok-may-in-Ours.ensures rb reads_b ro reads_o rt reads_t b o t see_b see_o see_t) ∙ may)

pub returns-in_ok-may-in-Mixed : goal.returns-in_ok-may-in-Mixed
returns-in_ok-may-in-Mixed g c may rb reads_b ro reads_o rt reads_t b o t see_b see_o see_t =
    subst (λ k. may_become b o t (outcome_seen o t k) ≡ true) (sym c.in-Mixed.is)
    (c.in_ok-may-in-Mixed.ensures may rb reads_b ro reads_o rt reads_t b o t see_b see_o see_t)

pub returns-in_ok-may-in-Gone : goal.returns-in_ok-may-in-Gone
returns-in_ok-may-in-Gone g c may rb reads_b ro reads_o rt reads_t b o t see_b see_o see_t =
    subst (λ k. may_become b o t (outcome_seen o t k) ≡ true) (sym c.in-Gone.is)
    (sym (c.in_ok-may-in-Gone.ensures rb reads_b ro reads_o rt reads_t b o t see_b see_o see_t) ∙ may)

pub returns-in_ok-may-in-Both : goal.returns-in_ok-may-in-Both
returns-in_ok-may-in-Both g c may rb reads_b ro reads_o rt reads_t b o t see_b see_o see_t =
    subst (λ k. may_become b o t (outcome_seen o t k) ≡ true) (sym c.in-Both.is)
    (sym (c.in_ok-may-in-Both.ensures rb reads_b ro reads_o rt reads_t b o t see_b see_o see_t) ∙ may)
