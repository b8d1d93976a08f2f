-- Names and templates, and the prints that BibTeX 0.99d gives for them; each was also run by the program itself.
use Rattle.std.specs.Prelude.{◌≡◌, ◌∷◌, ◌++◌, Result, Ok, Err, codes}
use Rattle.bib_spec.specs.Text.{Text}
use Rattle.bib_names.specs.declared.fault.NameFault.{NameFault}
use Rattle.bib_names.specs.declared.fault.NameFault.TheVariants.{TooManyCommas, BadTemplate}
use Rattle.bibtex_names.specs.Template.{Pattern}
use Rattle.bibtex_names.specs.NamesInLists.{printed_as_bibtex, template_in}

-- the print of a name by a template, or why there is none
abbrev pub print_with : Result Pattern NameFault → Text → Result Text NameFault
print_with (Ok t) name = printed_as_bibtex t name
print_with (Err fault) name = Err fault

-- the print of a name by the template that a text spells, or why there is none
abbrev pub print_by : Text → Text → Result Text NameFault
print_by template name = print_with (template_in template) name

-- a period follows a word without an initial
abbrev pub PeriodStaysWithoutInitial : Type 0
PeriodStaysWithoutInitial = print_by (codes "{f. }{ll}") (codes "1 Jean Knuth") ≡ Ok (codes ".~J. Knuth")

-- braces are characters
abbrev pub BracesCount : Type 0
BracesCount = print_by (codes "{ff}") (codes "{B} Jean Paul Knuth") ≡ Ok (codes "{B} Jean~Paul")

-- a count that stops inside braces leaves them open for the next one
abbrev pub DepthIsCarried : Type 0
DepthIsCarried = print_by (codes "{ll~}{f.}") (codes "{\\'E}a B C {Knuth}") ≡ Ok (codes "{Knuth} {\\'E}. B.~C.")

-- the ties at the end may stand before the group
abbrev pub TiesBeforeAGroupAreItsOwn : Type 0
TiesBeforeAGroupAreItsOwn = print_by (codes "~~{l}") (codes "1") ≡ Ok (codes "~")

-- letters may have either case, and a text between words may have braces
abbrev pub LettersHaveEitherCase : Type 0
LettersHaveEitherCase = print_by (codes "{FF}{, }{lL{x{y}}}") (codes "Jean Knuth") ≡ Ok (codes "Jean, Knuth")

-- other groups in a group are printed as they stand
abbrev pub InnerGroupsStay : Type 0
InnerGroupsStay = print_by (codes "{1{ab}f{c}{d}2}") (codes "Jean Knuth") ≡ Ok (codes "1{ab}J{d}2")

-- a third comma parts words of First
abbrev pub LaterCommasPartWords : Type 0
LaterCommasPartWords = print_by (codes "{ff}|{ll}|{jj}") (codes "a, b, c, d") ≡ Ok (codes "c~d|a|b")

-- the separator before a third comma stays
abbrev pub SeparatorBeforeACommaStays : Type 0
SeparatorBeforeACommaStays = print_by (codes "{ff}") (codes "a, b, c- , d") ≡ Ok (codes "c-d")

-- an initial beyond ASCII is one byte, and only the first of two here
abbrev pub InitialIsOneByte : Type 0
InitialIsOneByte = print_by (codes "{f.~}{l.}") (codes "Ann " ++ 195 ∷ 137 ∷ codes "lan") ≡ Ok (codes "A.~" ++ 195 ∷ codes ".")

-- a group with a backslash is an initial at any depth
abbrev pub CommandIsAnInitial : Type 0
CommandIsAnInitial = print_by (codes "{f.}") (codes "{{\\'E}mile} Knuth") ≡ Ok (codes "{\\'E}.")

-- bytes from 0x80 on are part of a control sequence, which is none of those that print a letter then
abbrev pub BytesAreLettersOfASequence : Type 0
BytesAreLettersOfASequence =
    print_by (codes "{ff}|{vv}") (codes "Jean {\\o" ++ 195 ∷ 169 ∷ codes "} Knuth") ≡ Ok (codes "Jean~{\\o" ++ 195 ∷ 169 ∷ codes "}|")

-- what BibTeX complains of is refused: two parts, a part twice, another letter, a byte from 0x80 on, and braces that do not match
pub record BadTemplatesAreRefused : Type 0 where
  pub two : template_in (codes "{fv}") ≡ Err BadTemplate
  pub twice : template_in (codes "{f{}f}") ≡ Err BadTemplate
  pub letter : template_in (codes "{x}") ≡ Err BadTemplate
  pub byte : template_in (codes "{" ++ 233 ∷ codes "ll}") ≡ Err BadTemplate
  pub brace : template_in (codes "{ll") ≡ Err BadTemplate

-- a name without a word before its first comma is refused
abbrev pub NameBeginsWithAWord : Type 0
NameBeginsWithAWord = print_by (codes "{ll}") (codes ", Jean") ≡ Err TooManyCommas
