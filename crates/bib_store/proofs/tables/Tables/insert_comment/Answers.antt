use Rattle.bib_store.proofs.Words.{true, length, refl, subst, Text, Admits, Tables}
use Rattle.bib_store.proofs.TableSteps.{comment_insertion}
use Rattle.bib_store.proofs.tables.Tables.insert_comment.Goals as goal

pub returns-clause-step : goal.returns-clause-step
returns-clause-step c =
    let old = c.args.self.now in
    let new : Tables = record {
      file_len = old.file_len;
      entries = c.make_way.new.self;
      preambles = c.make_way-2.new.self;
      named = old.named;
      definitions = c.make_way-3.new.self;
      bounds = c.in_ok-bounds.bounds;
    } in
    comment_insertion old new c.args.n c.args.view.now c.make_way.ensures.moved c.make_way-2.ensures.moved refl c.make_way-3.ensures.come (subst (λ (b : Text). Admits (length b) true old.bounds c.in_ok-bounds.bounds) c.body.ensures c.in_ok-bounds.ensures.admits)
