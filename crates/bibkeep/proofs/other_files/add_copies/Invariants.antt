use Rattle.std.proofs.Common.{◌≡◌, ◌++◌, take}
use Rattle.bibkeep.proofs.other_files.add_copies.Given as goal

abbrev pub invariant-all : goal.invariant-all
invariant-all l = l.texts.items ≡ l.initial.texts.items ++ take l.text-index l.more
