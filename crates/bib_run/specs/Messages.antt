-- What a run says if a call on its sources or its output failed.
use Rattle.std.specs.Prelude.{codes}
use Rattle.bib_spec.specs.Text.{Text}

-- a reader failed (dialect)
abbrev pub read_fault_line : Text
read_fault_line = codes "bibkeep: read fault\n"

-- a writer failed (dialect)
abbrev pub write_fault_line : Text
write_fault_line = codes "bibkeep: write fault\n"
