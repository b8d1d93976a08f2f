-- What an answer says besides its output.
use Rattle.std.specs.Prelude.{ℕ, ◌==◌, if◌then◌else◌, ◌++◌, codes}
use Rattle.std.specs.Fmt.{decimal}
use Rattle.bib_spec.specs.Text.{Text}

-- the name of a fault of reading, by its number (dialect)
abbrev pub fault_name : ℕ → Text
fault_name kind =
    if kind == 1 then codes "Unended"
    else if kind == 2 then codes "ExpectedName"
    else if kind == 3 then codes "ExpectedEquals"
    else if kind == 4 then codes "ExpectedCommaOrClose"
    else if kind == 5 then codes "ExpectedValue"
    else if kind == 6 then codes "UnbalancedBrace"
    else if kind == 7 then codes "KeyTooLong"
    else if kind == 8 then codes "TextTooLong"
    else if kind == 9 then codes "FileTooLong"
    else codes "Memory"

-- `bibkeep: N Name at P`, a line (dialect)
abbrev pub placed_line : ℕ → Text → ℕ → Text
placed_line number name place = codes "bibkeep: " ++ (decimal number ++ (codes " " ++ (name ++ (codes " at " ++ (decimal place ++ codes "\n")))))

-- why a file is not read, a line
abbrev pub refusal_line : ℕ → ℕ → Text
refusal_line kind place = placed_line kind (fault_name kind) place

-- `bibkeep: N Name at P in FILE`, a line: why a source with this name is not read (dialect)
abbrev pub refusal_in : ℕ → ℕ → Text → Text
refusal_in kind place name =
    codes "bibkeep: " ++ (decimal kind ++ (codes " " ++ (fault_name kind ++ (codes " at " ++ (decimal place ++ (codes " in " ++ (name ++ codes "\n")))))))

-- no entry has the key (dialect)
abbrev pub no_such_entry_line : Text
no_such_entry_line = codes "bibkeep: 11 NoSuchEntry\n"

-- no entry has this key, which is named (dialect)
abbrev pub no_such_entry_in : Text → Text
no_such_entry_in key = codes "bibkeep: 11 NoSuchEntry in " ++ (key ++ codes "\n")

-- what would be written is longer than a file may be (dialect)
abbrev pub too_long_line : Text
too_long_line = codes "bibkeep: 9 FileTooLong\n"
