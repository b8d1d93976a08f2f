use Rattle.std.proofs.Common.{◌∙◌, ap, sym, is_some, is_none}
use Rattle.bibtex_places.proofs.Keys.{table_back, table_new}
use Rattle.bibtex_places.proofs.key_table.KeyTable.add.Goals as goal

pub returns : goal.returns
returns c = record {
  keys = λ keys finds is.
      table_back c.args.self.now _ c.set-2.new.self keys c.args.key.now c.args.n c.in-Some.first finds
      (sym c.in_ok-first.ensures.former ∙ c.in-Some.is) c.in_ok-first.ensures.numbered c.in_ok-set.ensures.numbered;
  new = ap is_none (sym (sym c.in_ok-first.ensures.former ∙ c.in-Some.is));
}

pub returns-in_default : goal.returns-in_default
returns-in_default c = record {
  keys = λ keys finds is.
      table_new c.args.self.now _ keys c.args.key.now c.args.n finds (ap is_some (sym c.in_ok-first.ensures.former ∙ c.in_default.is)) c.in_ok-first.ensures.numbered is;
  new = ap is_none (sym (sym c.in_ok-first.ensures.former ∙ c.in_default.is));
}
