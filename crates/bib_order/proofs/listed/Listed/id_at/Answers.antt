use Rattle.bib_order.proofs.Words.{◌-◌, ◌<◌, ℕ, List, length, sym, ap, ◌∙◌, arith}
use Rattle.std.proofs.Common.{slice_index}
use Rattle.std.proofs.lemmas.Grind.{get_or_default_zero}
use Rattle.bib_order.proofs.Counted.{length_all, at_front, at_back}
use Rattle.bib_order.proofs.listed.Listed.id_at.Goals as goal

pub index-requires : goal.index-requires
index-requires c =
    omega (arith, c.requires, c.if-n-self.false, ap (length {A = ℕ}) c.self.view_is, length_all c.self.inside.count c.self.inside.list.items, c.self.inside.list.ok.0)

pub returns-then-n-self : goal.returns-then-n-self
returns-then-n-self c =
    sym (at_front c.self.inside.count c.self.inside.list.items c.args.n c.if-n-self.true) ∙ ap (λ (ids : List ℕ). slice_index ids c.args.n) c.self.view_is

pub returns-else-n-self : goal.returns-else-n-self
returns-else-n-self c =
    let within : c.args.n - c.self.inside.count < length c.self.inside.list.items = omega (arith, c.requires, c.if-n-self.false, ap (length {A = ℕ}) c.self.view_is, length_all c.self.inside.count c.self.inside.list.items) in
    c.index.ensures ∙ get_or_default_zero c.self.inside.list.items (c.args.n - c.self.inside.count) c.index.result.now within ∙ sym (at_back c.self.inside.count c.self.inside.list.items c.args.n c.if-n-self.false) ∙ ap (λ (ids : List ℕ). slice_index ids c.args.n) c.self.view_is
