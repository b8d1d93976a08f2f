use Rattle.ris_text.proofs.SkipLemmas.{skips_one, skipped_are_counted}
use Rattle.ris_text.proofs.laws.skipped_lines_are_counted.Goals as goal

pub returns-clause-one_list : goal.returns-clause-one_list
returns-clause-one_list c = skips_one

pub returns-clause-counted : goal.returns-clause-counted
returns-clause-counted c = skipped_are_counted
