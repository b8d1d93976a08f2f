use Rattle.std.proofs.Common.{sym, ◌∙◌}
use Rattle.bib_uses.proofs.FoundEntries.{found-entry, seen-values}
use Rattle.bib_uses.proofs.sources.source_of.Goals as goal

pub item-requires : goal.item-requires
item-requires g c r reads = let it = found-entry c.args.side.now r c.args.key.now c.in-Some.item reads (sym (c.item_named.ensures r reads) ∙ c.in-Some.is) in it.within

pub returns : goal.returns
returns g c r reads =
    let is = sym (c.item_named.ensures r reads) ∙ c.in-Some.is in
    record {
      item = is;
      values = seen-values r c.in-Some.item (found-entry c.args.side.now r c.args.key.now c.in-Some.item reads is) c.item.result c.fields.result c.in_ok-values.values (c.item.ensures r reads) c.fields.ensures.fields c.in_ok-values.ensures;
      defined = c.requires r reads;
    }
