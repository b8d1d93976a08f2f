use Rattle.bib_store.proofs.Words.{length, sym, ◌∙◌, ap, err_from_is_err_and, Text}
use Rattle.std.specs.Option.{unwrap_or}
use Rattle.bib_store.proofs.OpenedFiles.{no_notes}
use Rattle.bib_store.proofs.SplicedFiles.{after_splice, after_refusal}
use Rattle.bib_store.proofs.database.Database.splice_window.Goals as goal

pub returns-in_err-exchange-clause-refused : goal.returns-in_err-exchange-clause-refused
returns-in_err-exchange-clause-refused g c =
    let front = c.self.inside.front in
    let new = c.in_ok-front.front in
    let long = c.front_len-front_len.ensures ∙ ap (λ (t : Text). length (unwrap_or new t)) c.as_slice-3.ensures in
    let p = err_from_is_err_and c.from_residual-in_err-exchange.result c.from_residual-in_err-exchange.ensures.1 in
    rw (p.1, p.2) (λ bad _ file.
    after_refusal c.args.pieces.now c.args.self.now front c.as_slice-2.result.now (unwrap_or new front) c.front_len-front_len.result (g.L.ItemList.items c.self.inside.items)
    c.self.inside.tables c.in_ok-change.change c.self.invariant.0 c.self.view_is c.as_slice-2.ensures c.in_ok-change.ensures.change (c.in_ok-front.ensures front) long (c.in_err-exchange.ensures.refused bad) file)

pub invariant_of-self-2 : goal.invariant_of-self-2
invariant_of-self-2 g c =
    let front = c.self.inside.front in
    let new = c.in_ok-front.front in
    let long = c.front_len-front_len.ensures ∙ ap (λ (t : Text). length (unwrap_or new t)) c.as_slice-3.ensures ∙ ap (length {A = _}) (sym c.put_front.ensures) in
    let after = after_splice c.args.pieces.now c.args.self.now front c.as_slice-2.result.now c.put_front.new.front c.front_len-front_len.result (g.L.ItemList.items c.self.inside.items)
    (g.L.ItemList.items c.exchange.new.items) c.self.inside.tables c.exchange.new.tables c.in_ok-change.change c.self.invariant.0 c.self.view_is c.as_slice-2.ensures c.in_ok-change.ensures.change
    (λ inner reads. c.put_front.ensures ∙ c.in_ok-front.ensures front inner reads) long c.in_ok-exchange.ensures.items c.in_ok-exchange.ensures.tables c.in_ok-exchange.ensures.len in
    (after.kept, no_notes c.empty.result _ c.empty.ensures)

pub returns-clause-spliced : goal.returns-clause-spliced
returns-clause-spliced g c =
    let front = c.self.inside.front in
    let new = c.in_ok-front.front in
    let long = c.front_len-front_len.ensures ∙ ap (λ (t : Text). length (unwrap_or new t)) c.as_slice-3.ensures ∙ ap (length {A = _}) (sym c.put_front.ensures) in
    let after = after_splice c.args.pieces.now c.args.self.now front c.as_slice-2.result.now c.put_front.new.front c.front_len-front_len.result (g.L.ItemList.items c.self.inside.items)
    (g.L.ItemList.items c.exchange.new.items) c.self.inside.tables c.exchange.new.tables c.in_ok-change.change c.self.invariant.0 c.self.view_is c.as_slice-2.ensures c.in_ok-change.ensures.change
    (λ inner reads. c.put_front.ensures ∙ c.in_ok-front.ensures front inner reads) long c.in_ok-exchange.ensures.items c.in_ok-exchange.ensures.tables c.in_ok-exchange.ensures.len in
    after.made

pub returns-clause-file : goal.returns-clause-file
returns-clause-file g c =
    let front = c.self.inside.front in
    let new = c.in_ok-front.front in
    let long = c.front_len-front_len.ensures ∙ ap (λ (t : Text). length (unwrap_or new t)) c.as_slice-3.ensures ∙ ap (length {A = _}) (sym c.put_front.ensures) in
    let after = after_splice c.args.pieces.now c.args.self.now front c.as_slice-2.result.now c.put_front.new.front c.front_len-front_len.result (g.L.ItemList.items c.self.inside.items)
    (g.L.ItemList.items c.exchange.new.items) c.self.inside.tables c.exchange.new.tables c.in_ok-change.change c.self.invariant.0 c.self.view_is c.as_slice-2.ensures c.in_ok-change.ensures.change
    (λ inner reads. c.put_front.ensures ∙ c.in_ok-front.ensures front inner reads) long c.in_ok-exchange.ensures.items c.in_ok-exchange.ensures.tables c.in_ok-exchange.ensures.len in
    (after.kept.db, after.kept.is.opens)
