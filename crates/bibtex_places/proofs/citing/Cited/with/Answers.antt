use Rattle.std.proofs.Common.{◌≡◌, ◌++◌, ◌∷◌, [], ◌∙◌, ap, sym, is_some, List}
use Rattle.bib_spec.specs.Text.{Text}
use Rattle.bibtex_places.specs.Steps.{with_cited}
use Rattle.bibtex_places.proofs.Keys.{kept_star, kept_found, pushed_new}
use Rattle.bibtex_places.proofs.citing.Cited.with.Goals as goal
use Rattle.bibtex_places.proofs.citing.Cited.with.Goals.{then-is_star-via-then-is_star, then-is_star-via-else-is_star+in_ok-get+then-is_some}

pub returns-then-is_star : goal.returns-then-is_star
returns-then-is_star c =
    let keys : List Text = c.self.inside.keys.items in
    let kept : keys ≡ with_cited keys c.args.key.now = elim c.then-is_star.branch [
      | then-is_star-via-then-is_star w ↦ kept_star keys c.args.key.now (sym c.is_star.ensures ∙ w.if-is_star.true)
      | then-is_star-via-else-is_star+in_ok-get+then-is_some w ↦
          kept_found keys c.args.key.now (ap is_some (sym (c.self.invariant c.args.key.now) ∙ sym w.in_ok-get.ensures) ∙ sym w.is_some.ensures ∙ w.if-is_some.true)
    ] in
    kept ∙ ap (λ (l : List Text). with_cited l c.args.key.now) c.self.view_is

pub returns : goal.returns
returns c =
    let keys : List Text = c.self.inside.keys.items in
    c.in_ok-push.ensures.items
    ∙ ap (λ (t : Text). keys ++ t ∷ []) c.in_ok-copied.ensures
    ∙ pushed_new keys c.args.key.now (sym c.is_star.ensures ∙ c.if-is_star.false) (ap is_some (sym (c.self.invariant c.args.key.now) ∙ sym c.in_ok-get.ensures) ∙ sym c.is_some.ensures ∙ c.if-is_some.false)
    ∙ ap (λ (l : List Text). with_cited l c.args.key.now) c.self.view_is
