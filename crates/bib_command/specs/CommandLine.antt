-- The command line in clap's words, and the command that its matches name. (clap)
use Rattle.std.specs.Prelude.{◌≡◌, ℕ, Bool, true, false, ◌&&◌, ◌||◌, ◌++◌, ◌^◌, List, [], ◌∷◌, Option, Some, unwrap_or, find, option_and_then, codes, pos, length, nat_lt, if◌then◌else◌}
use Rattle.std.specs.List.{list_all}
use Rattle.std.specs.Char.{digit_value}
use Rattle.std.specs.Option.{option_map_or}
use Rattle.std.specs.Str.{bytes_eq}
use Rattle.std.specs.Str.Parse.{digits_value, without_leading_plus}
use Rattle.clap.specs.Words.{App, Row, Rule, Text, all_of, one_of, subcommand_of, new_app, new_rule, with_rule, with_subcommand}
use Rattle.clap.specs.Lexer.{usize_max}
use Rattle.clap.specs.Simple.{on_top}
use Rattle.clap.specs.declared.builder.ValueParser.TheVariants as parser
use Rattle.clap.specs.declared.builder.ArgAction.TheVariants.{Append, SetTrue}
use Rattle.clap.specs.declared.parser.matches.ValueSource.{ValueSource}
use Rattle.clap.specs.declared.parser.matches.ValueSource.TheVariants.{CommandLine}
use Rattle.bib_words.specs.declared.commands.Command.{Command}

-- ---- arguments

-- `[F]`
abbrev pub any_file : Rule
any_file = new_rule (codes "F")

-- a word that must be there, such as `F` or `KEY`
abbrev pub needed : Text → Rule
needed id = record (new_rule id) { required = true }

-- `[KEY..]`: none or more
abbrev pub keys : Rule
keys = record (new_rule (codes "KEY")) { range = Some (record { start_inclusive = 1; end_inclusive = usize_max }) }

-- `KEY..`: one or more
abbrev pub needed_keys : Rule
needed_keys = record keys { required = true }

-- `[WORD..]`: none or more
abbrev pub edit_words : Rule
edit_words = record (new_rule (codes "WORD")) { range = Some (record { start_inclusive = 1; end_inclusive = usize_max }) }

-- `[POSITION]`
abbrev pub position : Rule
position = new_rule (codes "POSITION")

-- `--aux AUX`, any number of times
abbrev pub aux_files : Rule
aux_files = record (new_rule (codes "AUX")) { long = Some (codes "aux"); action = Some Append }

-- `--before BEFORE`, any number of times
abbrev pub files_before : Rule
files_before = record (new_rule (codes "BEFORE")) { long = Some (codes "before"); action = Some Append; value_names = 1 }

-- `--after AFTER`, any number of times
abbrev pub files_after : Rule
files_after = record (new_rule (codes "AFTER")) { long = Some (codes "after"); action = Some Append; value_names = 1 }

-- `--NAME`: an option that is given or not
abbrev pub switch : Text → Rule
switch name = record (new_rule name) { long = Some name; action = Some SetTrue }

-- `--bibtex`
abbrev pub bibtex : Rule
bibtex = switch (codes "bibtex")

-- `--ignore CODE`: given any number of times
abbrev pub ignore : Rule
ignore = record (new_rule (codes "CODE")) { long = Some (codes "ignore"); action = Some Append }

-- `--NAME N`: a number from 1 to 65535, and `default` if the option is left out
abbrev pub count : Text → Text → Rule
count name default = record (new_rule (codes "N")) {
  long = Some name;
  defaults = default ∷ [];
  parser = Some (parser.Signed (pos 1) (pos 65535));
}

-- `--depth D`: a number from 1 to 8, and 1 if the option is left out
abbrev pub levels : Rule
levels = record (new_rule (codes "D")) {
  long = Some (codes "depth");
  defaults = codes "1" ∷ [];
  parser = Some (parser.Signed (pos 1) (pos 8));
}

-- ---- commands

-- a command with the argument F
abbrev pub over_file : Text → App
over_file name = with_rule (new_app name) (needed (codes "F"))

-- a command over a file that reads other files too: `NAME F [--before FILE].. [--after FILE]..`
abbrev pub over_files : Text → App
over_files name = with_rule (with_rule (over_file name) files_before) files_after

-- `cat [F]`
abbrev pub cat_line : App
cat_line = with_rule (new_app (codes "cat")) any_file

-- `check F [--before FILE].. [--after FILE]..`
abbrev pub check_line : App
check_line = over_files (codes "check")

-- `lint F [--before FILE].. [--after FILE].. [--ignore CODE].. [--aux AUX]..`
abbrev pub lint_line : App
lint_line = with_rule (with_rule (over_files (codes "lint")) ignore) aux_files

-- `show F [--before FILE].. [--after FILE].. [--depth D] [--bibtex] KEY`
abbrev pub show_line : App
show_line = with_rule (with_rule (with_rule (over_files (codes "show")) (needed (codes "KEY"))) levels) bibtex

-- a command over files with keys, those of aux files among them: `NAME F [--before FILE].. [--after FILE].. [--aux AUX].. [KEY..]`
abbrev pub cited_line : Text → App
cited_line name = with_rule (with_rule (over_files name) keys) aux_files

-- as above, `cite F [--min-crossrefs N] [--strict] [--bibtex] [KEY..]`
abbrev pub cite_line : App
cite_line = with_rule (with_rule (with_rule (cited_line (codes "cite")) (count (codes "min-crossrefs") (codes "2"))) (switch (codes "strict"))) bibtex

-- `entry F [--at] KEY..`
abbrev pub entry_line : App
entry_line = with_rule (with_rule (over_file (codes "entry")) needed_keys) (switch (codes "at"))

-- as above, `NAME F [--depth D] [KEY..]`
abbrev pub keys_line : Text → App
keys_line name = with_rule (cited_line name) levels

-- as above, `labels F [--depth D] [--bibtex] [KEY..]`
abbrev pub labels_line : App
labels_line = with_rule (keys_line (codes "labels")) bibtex

-- as above, `json F [--depth D] [--raw] [--bibtex] [KEY..]`
abbrev pub json_line : App
json_line = with_rule (with_rule (keys_line (codes "json")) (switch (codes "raw"))) bibtex

-- `names F [--before FILE].. [--after FILE].. [--depth D] [--bibtex] KEY TEMPLATE`
abbrev pub names_line : App
names_line = with_rule (with_rule (with_rule (with_rule (over_files (codes "names")) (needed (codes "KEY"))) (needed (codes "TEMPLATE"))) levels) bibtex

-- `newkeys F [--before FILE].. [--after FILE].. [--depth D]`
abbrev pub newkeys_line : App
newkeys_line = with_rule (over_files (codes "newkeys")) levels

-- the command with the options of one that adds a change to a journal: `[--new-journal] [--no-journal]`
abbrev pub adding : App → App
adding s = with_rule (with_rule s (switch (codes "new-journal"))) (switch (codes "no-journal"))

-- `edit F [--print] [WORD..]`
abbrev pub edit_or_print_line : App
edit_or_print_line = with_rule (with_rule (over_file (codes "edit")) edit_words) (switch (codes "print"))

-- `edit F [--print] [--new-journal] [--no-journal] [--all-or-nothing] [WORD..]`
abbrev pub edit_line : App
edit_line = with_rule (adding edit_or_print_line) (switch (codes "all-or-nothing"))

-- `insert F [--print] [--new-journal] [--no-journal] [POSITION]`
abbrev pub insert_line : App
insert_line = adding (with_rule (with_rule (over_file (codes "insert")) position) (switch (codes "print")))

-- `undo F [--steps N] [--print]`; the same for `redo`
abbrev pub steps_line : Text → App
steps_line name = with_rule (with_rule (over_file name) (count (codes "steps") (codes "1"))) (switch (codes "print"))

-- as above, `ris F [--depth D] [--dropped] [--plain] [--bibtex] [KEY..]`
abbrev pub ris_line : App
ris_line = with_rule (with_rule (with_rule (keys_line (codes "ris")) (switch (codes "dropped"))) (switch (codes "plain"))) bibtex

-- `import F [--print] [--new-journal] [--no-journal] [--latex]`
abbrev pub import_texts_line : App
import_texts_line = with_rule (adding (with_rule (over_file (codes "import")) (switch (codes "print")))) (switch (codes "latex"))

-- `import F [--print] [--new-journal] [--no-journal] [--latex] [--skipped] [--strict]`
abbrev pub import_line : App
import_line = with_rule (with_rule import_texts_line (switch (codes "skipped"))) (switch (codes "strict"))

-- `merge BASE OURS THEIRS [--print]`
abbrev pub merge_line : App
merge_line = with_rule (with_rule (with_rule (with_rule (new_app (codes "merge")) (needed (codes "BASE"))) (needed (codes "OURS"))) (needed (codes "THEIRS"))) (switch (codes "print"))

-- `diff OLD NEW`
abbrev pub diff_line : App
diff_line = with_rule (with_rule (new_app (codes "diff")) (needed (codes "OLD"))) (needed (codes "NEW"))

-- `explain FAULT`
abbrev pub explain_line : App
explain_line = with_rule (new_app (codes "explain")) (needed (codes "FAULT"))

-- `--hints`, which each command has
abbrev pub hints : Rule
hints = switch (codes "hints")

-- the command with one more subcommand
abbrev pub joins : App → App → App
joins a s = with_subcommand a s.top

-- the command with one more subcommand, which has the option `--hints` too
abbrev pub adds : App → App → App
adds a s = joins a (with_rule s hints)

-- `bibkeep`, which has a version and wants a subcommand; without a word it shows its help
abbrev pub bibkeep_top : App
bibkeep_top = on_top (λ s. record s { has_version = true; subcommand_required = true; arg_required_else_help = true }) (new_app (codes "bibkeep"))

-- the program with the commands that show what a file says
abbrev pub bibkeep_shows : App
bibkeep_shows =
    adds (adds (adds (adds (adds (adds bibkeep_top cat_line) check_line) lint_line) show_line) entry_line) cite_line

-- and with those that make labels, JSON, names or keys of it
abbrev pub bibkeep_makes : App
bibkeep_makes = adds (adds (adds (adds bibkeep_shows labels_line) json_line) names_line) newkeys_line

-- and with those that change a file, and those over its journal
abbrev pub bibkeep_edits : App
bibkeep_edits =
    adds (adds (adds (adds (adds (adds bibkeep_makes edit_line) insert_line) (steps_line (codes "undo"))) (steps_line (codes "redo"))) (over_file (codes "log"))) (over_file (codes "forget"))

-- the whole command line, `bibkeep COMMAND`
abbrev pub bibkeep : App
bibkeep = adds (adds (adds (adds (adds (adds bibkeep_edits ris_line) (cited_line (codes "extract"))) import_line) merge_line) diff_line) explain_line

-- ---- the command that clap's matches name

-- the values of an argument, in order
abbrev pub values : Text → List Row → List Text
values id rows = unwrap_or (all_of id rows) []

-- the number that a text of digits says, if it has at most `bits` bits; else 0
abbrev pub number_said : ℕ → Text → ℕ
number_said bits text =
    let digits = without_leading_plus text in
    if nat_lt 0 (length digits) && list_all (λ d. nat_lt (digit_value d) 10) digits && nat_lt (digits_value 10 digits) (2 ^ bits)
    then digits_value 10 digits else 0

-- the number of the command, or 0 if it takes none
abbrev pub number : List Row → ℕ
number rows = option_map_or (number_said 32) (one_of (codes "N") rows) 0

-- the depth of the command, or 0 if it takes none
abbrev pub depth : List Row → ℕ
depth rows = option_map_or (number_said 8) (one_of (codes "D") rows) 0

-- whether the option was given
abbrev pub given : Text → List Row → Bool
given name rows = option_map_or (λ text. bytes_eq text (codes "true")) (one_of name rows) false

-- the positional words, in order, and after them the codes to ignore
abbrev pub words_in : List Row → List Text
words_in rows = values (codes "F") rows ++ values (codes "BASE") rows ++ values (codes "OURS") rows ++ values (codes "THEIRS") rows ++ values (codes "OLD") rows ++ values (codes "NEW") rows ++ values (codes "KEY") rows ++ values (codes "TEMPLATE") rows ++ values (codes "WORD") rows ++ values (codes "POSITION") rows ++ values (codes "FAULT") rows ++ values (codes "CODE") rows

-- the command of this name with these matches
abbrev pub command_of : Text → List Row → Command
command_of name rows = record {
  name = name;
  words = words_in rows;
  aux = values (codes "AUX") rows;
  before = values (codes "BEFORE") rows;
  after = values (codes "AFTER") rows;
  cited = [];
  n = number rows;
  depth = depth rows;
  print = given (codes "print") rows;
  new_journal = given (codes "new-journal") rows;
  no_journal = given (codes "no-journal") rows;
  all_or_nothing = given (codes "all-or-nothing") rows;
  dropped = given (codes "dropped") rows;
  at = given (codes "at") rows;
  strict = given (codes "strict") rows;
  latex = given (codes "latex") rows;
  raw = given (codes "raw") rows;
  skipped = given (codes "skipped") rows;
  plain = given (codes "plain") rows;
  bibtex = given (codes "bibtex") rows;
}

-- whether a value is from the words themselves, not a default
abbrev pub is_from_words : Option ValueSource → Bool
is_from_words (Some CommandLine) = true
is_from_words _ = false

-- whether the words themselves give the argument
abbrev pub is_said : Text → List Row → Bool
is_said id rows = is_from_words (option_and_then (λ row. row.source) (find (λ row. bytes_eq row.id id) rows))

-- whether the words give an option that does not go with `--bibtex`: `--depth`, `--raw`, `--before` or `--after`
abbrev pub has_rival : List Row → Bool
has_rival rows = is_said (codes "D") rows || (is_said (codes "raw") rows || (is_said (codes "BEFORE") rows || is_said (codes "AFTER") rows))

-- whether the words give `--bibtex` and an option that does not go with it
abbrev pub is_in_conflict : List Row → Bool
is_in_conflict rows = given (codes "bibtex") rows && has_rival rows

-- the words name this command by clap's exact matching, and its options go together
pub record IsCommandOf (words : List Text) (c : Command) : Type 0 where
  pub name : Text
  pub rows : List Row
  pub named : subcommand_of bibkeep words ≡ Some (name, rows)
  pub together : is_in_conflict rows ≡ false
  pub command : c ≡ command_of name rows

-- the words ask for hints
abbrev pub asks_for_hints : List Text → Bool
asks_for_hints words = option_map_or (λ (found : Text × List Row). given (codes "hints") found.1) (subcommand_of bibkeep words) false
