use Rattle.bib_items.proofs.Words.{sym, take_all, mark_len}
use Rattle.bib_items.proofs.marking.head.Goals as goal

pub returns-then-text-le-MARK_LEN : goal.returns-then-text-le-MARK_LEN
returns-then-text-le-MARK_LEN c = sym (take_all mark_len c.args.text.now c.if-text-le-MARK_LEN.true)
