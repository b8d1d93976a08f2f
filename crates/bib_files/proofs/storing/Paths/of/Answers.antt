use Rattle.bib_files.proofs.Apart.{apart_so}
use Rattle.bib_files.proofs.storing.Paths.of.Goals as goal

pub invariant_of-result : goal.invariant_of-result
invariant_of-result c = apart_so c.args.file.now _ _ _ _ c.in_ok-format.ensures.ok c.in_ok-format-2.ensures.ok c.in_ok-format-3.ensures.ok c.in_ok-format-4.ensures.ok
