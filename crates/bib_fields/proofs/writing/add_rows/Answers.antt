use Rattle.bib_fields.specs.MixSeen.{row_seen}
use Rattle.bib_fields.proofs.Writings.{rows-more, rows-all}
use Rattle.bib_fields.proofs.writing.add_rows.Goals as goal

pub rows-preserved : goal.rows-preserved
rows-preserved c eo et is_o is_t =
    rows-more (row_seen eo.rows et.rows) c.args.rows.now c.rows.k c.index-rows-k.result c.args.out.now.items c.rows.out.items c.add_row.new.out.items c.rows-test.true c.index-rows-k.is (c.in_ok-add_row.ensures eo et is_o is_t) (c.rows.invariant eo et is_o is_t)

pub returns : goal.returns
returns c eo et is_o is_t = rows-all (row_seen eo.rows et.rows) c.args.rows.now c.rows.k c.args.out.now.items c.rows.out.items c.rows-test.false (c.rows.invariant eo et is_o is_t)
