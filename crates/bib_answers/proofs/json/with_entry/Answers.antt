use Rattle.bib_answers.proofs.Shown.{parent_number}
use Rattle.bib_answers.proofs.json.with_entry.Goals as goal

pub key_of-parent-requires : goal.key_of-parent-requires
key_of-parent-requires c = parent_number _ c.args.n c.in-Ok.expanded.parent c.in-Ok.ensures.parent
