use Rattle.std.proofs.Common.{◌≡◌, ◌++◌, take}
use Rattle.std.specs.List.{flat_map}
use Rattle.bibtex_answers.specs.Entries.{entry_line}
use Rattle.bibtex_answers.proofs.cite.add_entries.Given as goal

abbrev pub invariant-entries : goal.invariant-entries
invariant-entries l = l.out.items ≡ l.initial.out.items ++ flat_map entry_line (take l.entry-index l.list)
