use Rattle.std.proofs.Common.{◌≡◌, ◌∙◌, ◌∷◌, ℕ, List, [], insert, sym, ap, ap₂, subst}
use Rattle.std.proofs.lemmas.Result.{on_ok_weaker}
use Rattle.bib_spec.specs.Text.{folded}
use Rattle.bib_index.specs.KeyIndex.{ids_in, members, Has}
use Rattle.bib_index.proofs.Holding.{more, more_first, more_nowhere, has_same, has_with, has_last}
use Rattle.bib_index.proofs.key_index.KeyIndex.put_in.Goals as goal

pub returns-in_default-clause-ok : goal.returns-in_default-clause-ok
returns-in_default-clause-ok c test lacks is =
    has_same (ids_in c.args.self.now) (folded c.args.text.now) _ (is ∙ sym (more_nowhere test c.args.order.now c.args.id c.in_default.ensures.none))

pub returns-in-None-clause-ok : goal.returns-in-None-clause-ok
returns-in-None-clause-ok c test lacks is =
    let none : ids_in c.args.self.now (folded c.args.text.now) ≡ [] = ap (λ l. ids_in l (folded c.args.text.now)) (sym c.self.view_is) ∙ ap members (sym c.in_ok-insert.ensures.value ∙ c.in-None.is) in
    let one = more_first test c.args.order.now c.in-Some.n c.args.id c.count.ensures.distinct c.in-Some.ensures.found lacks (sym is ∙ none) in
    has_with c.self.inside.lists c.args.self.now c.insert.new.self c.args.text.now c.of-alone.result _ c.self.view_is (c.of-alone.ensures ∙ sym one) c.in_ok-insert.ensures.ok

pub returns-in-Some-2-clause-ok : goal.returns-in-Some-2-clause-ok
returns-in-Some-2-clause-ok c =
    let held : c.in-Some-2.held ≡ ids_in c.args.self.now (folded c.args.text.now) = ap members (sym c.in-Some-2.is ∙ c.in_ok-insert.ensures.value) ∙ ap (λ l. ids_in l (folded c.args.text.now)) c.self.view_is in
    let alone = has_with c.self.inside.lists c.args.self.now c.insert.new.self c.args.text.now c.of-alone.result (c.args.id ∷ []) c.self.view_is c.of-alone.ensures c.in_ok-insert.ensures.ok in
    on_ok_weaker c.put_back.result
    (λ has test lacks is.
    subst (λ (ids : List ℕ). Has (ids_in c.args.self.now) (folded c.args.text.now) ids (ids_in c.put_back.new.self))
    (ap₂ (λ (ids : List ℕ) (k : ℕ). insert ids k c.args.id) (held ∙ is) (c.count_before-k.ensures.count test (c.as_slice.ensures ∙ held ∙ is))
    ∙ sym (more test c.args.order.now c.in-Some.n c.args.id c.count.ensures.distinct c.in-Some.ensures.found lacks))
    (has_last (ids_in c.args.self.now) (ids_in c.insert.new.self) (ids_in c.put_back.new.self) (folded c.args.text.now) (c.args.id ∷ []) (insert c.in-Some-2.held c.count_before-k.result c.args.id) alone has))
    c.put_back.ensures.ok
