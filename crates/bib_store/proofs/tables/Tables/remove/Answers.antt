use Rattle.bib_store.proofs.Words.{◌∙◌, Some, refl, sym, ap, View, Tables}
use Rattle.bib_store.proofs.TableSteps.{entry_removal, preamble_removal, comment_removal}
use Rattle.bib_store.proofs.tables.Tables.remove.Goals as goal

pub returns-in-Entry-clause-step : goal.returns-in-Entry-clause-step
returns-in-Entry-clause-step c tree is seen =
    let old = c.args.self.now in
    let new : Tables = record { file_len = old.file_len; entries = c.remove-in-Entry.new.self; preambles = c.close.new.self; named = c.remove.new.self; definitions = c.close-in-Entry.new.self; bounds = old.bounds } in
    entry_removal old new c.args.n c.args.view.now c.remove-in-Entry.ensures.taken c.close.ensures.moved c.rank.result c.rank.ensures.below
    (λ keys crossrefs at. c.remove.ensures keys crossrefs (at ∙ ap Some (sym c.key.ensures))) c.close-in-Entry.ensures.go refl
    tree is (sym (ap (λ (v : View). v.kind) seen) ∙ sym c.kind.ensures ∙ c.in-Entry.is) seen

pub returns-in-Preamble-clause-step : goal.returns-in-Preamble-clause-step
returns-in-Preamble-clause-step c tree is seen =
    let old = c.args.self.now in
    let new : Tables = record { file_len = old.file_len; entries = c.close-in-Preamble.new.self; preambles = c.remove-in-Preamble.new.self; named = old.named; definitions = c.close-in-Preamble-2.new.self; bounds = old.bounds } in
    preamble_removal old new c.args.n c.args.view.now c.remove-in-Preamble.ensures.taken c.close-in-Preamble.ensures.moved refl c.close-in-Preamble-2.ensures.go refl
    tree is (sym (ap (λ (v : View). v.kind) seen) ∙ sym c.kind.ensures ∙ c.in-Preamble.is) seen

pub returns-in-Comment-clause-step : goal.returns-in-Comment-clause-step
returns-in-Comment-clause-step c tree is seen =
    let old = c.args.self.now in
    let new : Tables = record { file_len = old.file_len; entries = c.close-in-Comment.new.self; preambles = c.close-in-Comment-2.new.self; named = old.named; definitions = c.close-in-Comment-3.new.self; bounds = old.bounds } in
    comment_removal old new c.args.n c.args.view.now c.close-in-Comment.ensures.moved c.close-in-Comment-2.ensures.moved refl c.close-in-Comment-3.ensures.go refl
    tree is (sym (ap (λ (v : View). v.kind) seen) ∙ sym c.kind.ensures ∙ c.in-Comment.is) seen
