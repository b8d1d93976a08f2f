-- A file as BibTeX reads it for the style `plain`: after the macros that the style defines.
use Rattle.std.specs.Prelude.{ℕ, ◌-◌, List, [], ◌∷◌, ◌++◌, length, codes}
use Rattle.std.specs.List.{flat_map}
use Rattle.bib_spec.specs.Text.{Text}

-- the macros of the style `plain`, except the months: each name with its text (plain.bst)
abbrev pub journals : List (Text × Text)
journals =
    (codes "acmcs", codes "ACM Computing Surveys")
    ∷ (codes "acta", codes "Acta Informatica")
    ∷ (codes "cacm", codes "Communications of the ACM")
    ∷ (codes "ibmjrd", codes "IBM Journal of Research and Development")
    ∷ (codes "ibmsj", codes "IBM Systems Journal")
    ∷ (codes "ieeese", codes "IEEE Transactions on Software Engineering")
    ∷ (codes "ieeetc", codes "IEEE Transactions on Computers")
    ∷ (codes "ieeetcad", codes "IEEE Transactions on Computer-Aided Design of Integrated Circuits")
    ∷ (codes "ipl", codes "Information Processing Letters")
    ∷ (codes "jacm", codes "Journal of the ACM")
    ∷ (codes "jcss", codes "Journal of Computer and System Sciences")
    ∷ (codes "scp", codes "Science of Computer Programming")
    ∷ (codes "sicomp", codes "SIAM Journal on Computing")
    ∷ (codes "tocs", codes "ACM Transactions on Computer Systems")
    ∷ (codes "tods", codes "ACM Transactions on Database Systems")
    ∷ (codes "tog", codes "ACM Transactions on Graphics")
    ∷ (codes "toms", codes "ACM Transactions on Mathematical Software")
    ∷ (codes "toois", codes "ACM Transactions on Office Information Systems")
    ∷ (codes "toplas", codes "ACM Transactions on Programming Languages and Systems")
    ∷ (codes "tcs", codes "Theoretical Computer Science")
    ∷ []

-- `@string{name = {text}}`, a line
abbrev pub definition_line : Text × Text → Text
definition_line m = codes "@string{" ++ (m.0 ++ (codes " = {" ++ (m.1 ++ codes "}}\n")))

-- the definitions of these macros, a line each, and an empty line (bibtex 245, 259 to 262)
unfoldable pub style_macros : Text
style_macros = flat_map definition_line journals ++ codes "\n"

-- the file after the macros of the style: a file can define a macro of the style again, as it can a month
abbrev pub with_style : Text → Text
with_style file = style_macros ++ file

-- the place in the file that has this place after the macros of the style
abbrev pub place_in_file : ℕ → ℕ
place_in_file place = place - length style_macros
