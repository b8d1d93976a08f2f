use Rattle.std.proofs.Common.{List, Bool, Option, ℕ, Some, false, set, slice_get, sym, ◌∙◌, ap, subst}
use Rattle.bib_places.specs.declared.queues.Link.{Link}
use Rattle.bib_places.specs.Queues.{IsTakenBy, marked_from, AreQueued}
use Rattle.bib_places.proofs.Queued.{taken-none, taken-some, link-there}
use Rattle.bib_places.proofs.queues.Queues.take.Goals as goal

pub returns-in_err-at : goal.returns-in_err-at
returns-in_err-at c codes are =
    let left = marked_from 0 c.args.self.now.left.items in (
      are,
      subst (λ (o : Option ℕ). IsTakenBy codes c.args.code.now o left left) (sym c.from_residual.ensures)
          (taken-none codes c.args.self.now.firsts c.args.self.now.links.items left c.args.code.now (sym c.first.ensures ∙ c.in_err-at.was) are),
    )

pub returns-in_err-link : goal.returns-in_err-link
returns-in_err-link c codes are =
    absurd (link-there codes c.args.self.now.firsts c.args.self.now.links.items (marked_from 0 c.args.self.now.left.items) c.args.code.now c.in_ok-at.at (sym c.first.ensures ∙ c.in_ok-at.was) are
    (sym (c.link_at.ensures ∙ ap (λ (l : List Link). slice_get l c.in_ok-at.at) c.as_slice.ensures.value) ∙ c.in_err-link.was))

pub returns : goal.returns
returns c codes are =
    let firsts = c.begin.new.self.firsts in
    let old = c.args.self.now in
    let n = c.in_ok-link.link.number in
    let start = sym c.first.ensures ∙ c.in_ok-at.was in
    let link = sym (c.link_at.ensures ∙ ap (λ (l : List Link). slice_get l c.in_ok-at.at) c.as_slice.ensures.value) ∙ c.in_ok-link.was in
    let taken = taken-some codes old.firsts firsts old.links.items old.left.items c.args.code.now c.in_ok-at.at c.in_ok-link.link start link (c.begin.ensures.this c.in_ok-at.at start) c.begin.ensures.others are in
    let same_links = ap (λ v. v.items) c.begin.ensures.links in
    let marks = c.unmark.ensures ∙ ap (λ v. set v.items n false) c.begin.ensures.left in
    subst (λ (m : List Bool). AreQueued codes firsts c.begin.new.self.links.items (marked_from 0 m) × IsTakenBy codes c.args.code.now (Some n) (marked_from 0 old.left.items) (marked_from 0 m)) (sym marks)
    (subst (λ (l : List Link). AreQueued codes firsts l (marked_from 0 (set old.left.items n false))) (sym same_links) taken.0, taken.1)
