use Rattle.bib_items.proofs.Words.{joined}
use Rattle.bib_items.proofs.WholePages.{cut_more}
use Rattle.bib_items.proofs.seams.take_range.Goals as goal

pub out-preserved : goal.out-preserved
out-preserved c = (
  cut_more (joined c.args.pages.now.items) (joined c.out.pages.items) (joined c.take_some-left.new.pages.items) c.args.from c.args.to c.out.left c.take_some-left.result c.requires.within c.take_some-left.ensures.most c.out.invariant.0 c.take_some-left.ensures.list,
  (c.take_some-left.ensures.pages, c.take_some-left.ensures.starts),
)
