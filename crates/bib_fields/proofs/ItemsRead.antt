-- Items of files as trees of the grammar.
use Rattle.std.proofs.Common.{◌≡◌, ℕ, Some, slice_get, List, ◌∙◌, ap, subst}
use Rattle.std.proofs.lemmas.Option.{slice_get_within, get_or_from_slice_get}
use Rattle.bib_spec.specs.Bytes.{name_limit}
use Rattle.bib_spec.specs.Text.{Text}
use Rattle.bib_spec.specs.Tree.{Tree, IsTree}
use Rattle.bib_spec.specs.Reading.{Item, Reading, Reads}
use Rattle.bib_spec.specs.Texts.{Macros}
use Rattle.merge_spec.specs.ThreeWay.{entry_with}
use Rattle.merge_spec.specs.Conflicts.{ChangedPart, parts_in_conflict}
use Rattle.bib_fields.specs.declared.mix.Mix.{Mix}
use Rattle.bib_fields.specs.MixSeen.{Mixes}

-- an item of a file is one of the grammar
pub tree-in : (file : Text) (db : Reading) (n : ℕ) (i : Item) → Reads file db → slice_get db.items n ≡ Some i → IsTree name_limit i.tree
tree-in file db n i reads at =
    subst (λ (j : Item). IsTree name_limit j.tree) (get_or_from_slice_get db.items n i i at) (reads.items n i (slice_get_within db.items n i at)).tree

-- the same macros
pub with-macros : (mb mo mt nb np nt : Macros) (b o t : Tree) (mix : Mix) → mb ≡ nb → mo ≡ np → mt ≡ nt → Mixes (entry_with mb (Some b)) (entry_with mo (Some o)) (entry_with mt (Some t)) mix →
    Mixes (entry_with nb (Some b)) (entry_with np (Some o)) (entry_with nt (Some t)) mix
with-macros mb mo mt nb np nt b o t mix is_b is_o is_t mixes =
    subst (λ (m : Macros). Mixes (entry_with m (Some b)) (entry_with np (Some o)) (entry_with nt (Some t)) mix) is_b
    (subst (λ (m : Macros). Mixes (entry_with mb (Some b)) (entry_with m (Some o)) (entry_with nt (Some t)) mix) is_o
    (subst (λ (m : Macros). Mixes (entry_with mb (Some b)) (entry_with mo (Some o)) (entry_with m (Some t)) mix) is_t mixes))

pub parts-with : (mb mo mt nb np nt : Macros) (b o t : Tree) (parts : List ChangedPart) → mb ≡ nb → mo ≡ np → mt ≡ nt → parts ≡ parts_in_conflict (entry_with mb (Some b)) (entry_with mo (Some o)) (entry_with mt (Some t)) →
    parts ≡ parts_in_conflict (entry_with nb (Some b)) (entry_with np (Some o)) (entry_with nt (Some t))
parts-with mb mo mt nb np nt b o t parts is_b is_o is_t is =
    is ∙ ap (λ (m : Macros). parts_in_conflict (entry_with m (Some b)) (entry_with mo (Some o)) (entry_with mt (Some t))) is_b
    ∙ ap (λ (m : Macros). parts_in_conflict (entry_with nb (Some b)) (entry_with m (Some o)) (entry_with mt (Some t))) is_o
    ∙ ap (λ (m : Macros). parts_in_conflict (entry_with nb (Some b)) (entry_with np (Some o)) (entry_with m (Some t))) is_t
