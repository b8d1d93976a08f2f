use Rattle.bib_store.proofs.Words.{length, sym, insert, subst, refl, err_from_is_err_and, Text, IsTableOf, err_always, AreAtMost, macros_seen, Admits, Tables}
use Rattle.bib_store.proofs.TableSteps.{entry_insertion, entry_over, named_kept}
use Rattle.bib_store.proofs.tables.Tables.insert_entry.Goals as goal

pub returns-in_err-text-clause-too_long : goal.returns-in_err-text-clause-too_long
returns-in_err-text-clause-too_long c =
    let p = err_from_is_err_and c.from_residual.result c.from_residual.ensures.1 in
    rw (p.1, p.2) (λ place is.
    let over = c.in_err-text.ensures.too_long place is in
    entry_over c.args.self.now c.args.self.now c.args.n c.args.view.now (macros_seen c.at.result) place c.at.ensures over)

pub returns-in_err-insert_named-clause-err : goal.returns-in_err-insert_named-clause-err
returns-in_err-insert_named-clause-err c =
    let new : Tables = record {
      file_len = c.args.self.now.file_len;
      entries = c.insert_named.new.entries;
      preambles = c.args.self.now.preambles;
      named = c.insert_named.new.named;
      definitions = c.args.self.now.definitions;
      bounds = c.args.self.now.bounds;
    } in
    err_always c.from_residual-in_err-insert_named.result (named_kept c.args.self.now new refl c.in_err-insert_named.ensures.err.0 refl refl refl c.in_err-insert_named.ensures.err.1)

pub returns-clause-step : goal.returns-clause-step
returns-clause-step c =
    let new : Tables = record {
      file_len = c.args.self.now.file_len;
      entries = c.insert_named.new.entries;
      preambles = c.make_way.new.self;
      named = c.insert_named.new.named;
      definitions = c.make_way-2.new.self;
      bounds = c.in_ok-bounds.bounds;
    } in
    entry_insertion c.args.self.now new c.args.n c.args.view.now (macros_seen c.at.result) c.in_ok-text.field-0.text c.at.ensures
    c.in_ok-insert_named.ensures.entries c.make_way.ensures.moved
    (λ front rest keys crossrefs parts low t. subst (λ (key : Text). IsTableOf (insert keys (length front) key) (insert crossrefs (length front) c.in_ok-text.field-0.text) c.insert_named.new.named) c.key.ensures
    (c.in_ok-insert_named.ensures.named front rest keys crossrefs parts low t))
    c.make_way-2.ensures.come
    c.in_ok-text.ensures.text
    c.in_ok-text.ensures.short
    c.in_ok-text.field-0.is_literal c.in_ok-text.ensures.settled (subst (λ (b : Text). Admits (length b) c.in_ok-text.field-0.is_literal c.args.self.now.bounds c.in_ok-bounds.bounds) c.body.ensures c.in_ok-bounds.ensures.admits)

pub crossref_within-requires-clause-longest : goal.crossref_within-requires-clause-longest
crossref_within-requires-clause-longest c = subst (AreAtMost c.longest-longest.result) (sym c.at.ensures) (c.longest-longest.ensures.most c.args.n)
