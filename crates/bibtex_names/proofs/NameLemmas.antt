-- The parts of a name, and names that are refused.
use Rattle.bib_names.proofs.Words.{◌≡◌, ◌∙◌, true, false, cond, sym, ap, Text, balances}
use Rattle.std.specs.Prelude.{Option, Err}
use Rattle.bib_names.specs.declared.fault.NameFault.TheVariants.{UnbalancedName}
use Rattle.bibtex_names.specs.Name.{parts_of}
use Rattle.bibtex_names.specs.NamesInLists.{given_parts, parts_in}
use Rattle.bibtex_names.specs.declared.name.Name.{Name}

-- a balanced name
pub parts_balanced : (name : Text) (parts : Option Name) → true ≡ balances name → parts ≡ parts_of name → parts_in name ≡ given_parts parts
parts_balanced name parts is told =
    ap (λ b. cond b (given_parts (parts_of name)) (Err UnbalancedName)) (sym is) ∙ ap given_parts (sym told)

-- another one
pub parts_unbalanced : (name : Text) → false ≡ balances name → parts_in name ≡ Err UnbalancedName
parts_unbalanced name is = ap (λ b. cond b (given_parts (parts_of name)) (Err UnbalancedName)) (sym is)
