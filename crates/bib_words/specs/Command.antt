-- Which commands there are, and which arguments, numbers and options each takes.
use Rattle.std.specs.Prelude.{◌≡◌, ◌≤◌, ◌&&◌, ◌||◌, ℕ, Bool, true, false, not, if◌then◌else◌, List, [], ◌∷◌, length, IfSome, IsSomeAnd}
use Rattle.bib_spec.specs.Text.{Text}
use Rattle.bib_spec.specs.Records.{depth_limit}
use Rattle.bib_words.specs.declared.commands.Command.{Command}
use Rattle.bib_words.specs.declared.verbs.Shape.{Shape}
use Rattle.bib_words.specs.declared.verbs.Verb.{Verb}
use Rattle.bib_words.specs.Verbs.{verb_of, shape, adds_change, makes_file, reads_journal, takes_input, takes_print, takes_dropped, takes_at, takes_scripts, takes_strict, takes_latex, takes_raw, takes_skipped, takes_plain, takes_bibtex, takes_others}

-- the greatest number that a command takes (dialect)
abbrev pub number_limit : ℕ
number_limit = 65535

-- a number from 1 to the limit if one is taken, else 0
pub data IsNumber (taken : Bool) (limit n : ℕ) : Type 0 where
  given : taken ≡ true → 1 ≤ n → n ≤ limit → IsNumber taken limit n
  none : taken ≡ false → n ≡ 0 → IsNumber taken limit n

-- the list has a member
abbrev pub has_any : List Text → Bool
has_any [] = false
has_any (text ∷ texts) = true

-- the command names files that are read before its own or after it
abbrev pub has_others : Command → Bool
has_others c = has_any c.before || has_any c.after

-- how many arguments a command of this shape needs: the file alone, if aux files are named that cite its keys
abbrev pub least_words : Shape → List Text → ℕ
least_words shape aux = if shape.aux && has_any aux then 1 else shape.least

-- the command has as many arguments as the shape takes, and the number, the depth and the aux files that it takes
pub record HasItsWords (shape : Shape) (c : Command) : Type 0 where
  pub least : least_words shape c.aux ≤ length c.words
  pub most : IfSome shape.most (λ most. length c.words ≤ most)
  pub number : IsNumber shape.number number_limit c.n
  pub depth : IsNumber shape.depth depth_limit c.depth
  pub aux : has_any c.aux ≡ true → shape.aux ≡ true

-- the command takes each option that is given: `--print` if it makes a file or is `merge`, `--new-journal` and `--no-journal` if it adds a
-- change, `--all-or-nothing` if it takes scripts, `--dropped` if it is `ris`, `--at` if it is `entry`, `--strict` if it is `cite`
-- or `import`, `--latex` and `--skipped` if it is `import`, `--raw` if it is `json`, `--plain` if it is `ris`, `--bibtex` if it
-- is `show`, `cite`, `labels`, `json`, `names` or `ris` and its file is the only one, `--before` and `--after` if it reads other
-- files too (dialect)
pub record HasItsOptions (verb : Verb) (c : Command) : Type 0 where
  pub print : c.print ≡ true → takes_print verb ≡ true
  pub new_journal : c.new_journal ≡ true → adds_change verb ≡ true
  pub no_journal : c.no_journal ≡ true → adds_change verb ≡ true
  pub all_or_nothing : c.all_or_nothing ≡ true → takes_scripts verb ≡ true
  pub dropped : c.dropped ≡ true → takes_dropped verb ≡ true
  pub at : c.at ≡ true → takes_at verb ≡ true
  pub strict : c.strict ≡ true → takes_strict verb ≡ true
  pub latex : c.latex ≡ true → takes_latex verb ≡ true
  pub raw : c.raw ≡ true → takes_raw verb ≡ true
  pub skipped : c.skipped ≡ true → takes_skipped verb ≡ true
  pub plain : c.plain ≡ true → takes_plain verb ≡ true
  pub bibtex : c.bibtex ≡ true → takes_bibtex verb ≡ true
  pub bibtex_alone : c.bibtex ≡ true → has_others c ≡ false
  pub others : has_others c ≡ true → takes_others verb ≡ true

-- this command of the program, with its words and options
pub record IsCommandOf (verb : Verb) (c : Command) : Type 0 where
  pub words : HasItsWords (shape verb) c
  pub options : HasItsOptions verb c

-- a command of the program, with its words and options
abbrev pub IsCommand : Command → Type 0
IsCommand c = IsSomeAnd (verb_of c.name) (λ verb. IsCommandOf verb c)

-- the commands that add a change to a file
abbrev pub AddsChange : Command → Type 0
AddsChange c = IsSomeAnd (verb_of c.name) (λ verb. adds_change verb ≡ true)

-- the commands that make a new file from the old one
abbrev pub MakesFile : Command → Type 0
MakesFile c = IsSomeAnd (verb_of c.name) (λ verb. makes_file verb ≡ true)

-- the commands that read the journal of their file; with `--no-journal` none does
abbrev pub ReadsJournal : Command → Type 0
ReadsJournal c = IsSomeAnd (verb_of c.name) (λ verb. (reads_journal verb && not c.no_journal) ≡ true)

-- the commands that read an input as well as their file: standard input, or for `diff` the new file
abbrev pub TakesInput : Command → Type 0
TakesInput c = IsSomeAnd (verb_of c.name) (λ verb. takes_input verb (length c.words) ≡ true)
