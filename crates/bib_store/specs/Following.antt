-- Items that come and go.
use Rattle.std.specs.Prelude.{◌≡◌, ◌≢◌, ◌⊎◌, List, map, None}
use Rattle.std.specs.List.{AllByRecursion, between}
use Rattle.std.specs.Prelude.{ℕ}
use Rattle.bib_spec.specs.Bytes.{name_limit}
use Rattle.bib_spec.specs.Text.{Text}
use Rattle.bib_spec.specs.Tree.{IsTree, tree_bytes}
use Rattle.bib_spec.specs.Reading as reading
use Rattle.bib_spec.specs.Texts.{Macros}
use Rattle.bib_scan.specs.View.{kind_of}
use Rattle.bib_scan.specs.declared.view.Kind.TheVariants as kind
use Rattle.bib_items.specs.declared.list.Item.{Item}
use Rattle.bib_store.specs.declared.tables.Tables.{Tables}
use Rattle.bib_store.specs.Firm.{IsFirm}
use Rattle.bib_store.specs.ItemTexts.{first_too_long, placed_texts}

-- the bodies of the items from one number up to another
abbrev pub bodies_between : ℕ → ℕ → List Item → List Text
bodies_between from to items = map (λ i. i.body) (between from to items)

-- items with these bodies
pub record AreItemsOf (bodies : List Text) (items : List reading.Item) : Type 0 where
  pub trees : AllByRecursion (λ i. IsTree name_limit i.tree) items
  pub same : map (λ i. tree_bytes i.tree) items ≡ bodies

-- none of them is a definition
abbrev pub DefineNothing : List reading.Item → Type 0
DefineNothing items = AllByRecursion (λ i. kind_of i.tree ≢ kind.Macro) items

-- items with these bodies; none of them is a definition
pub record AreOthersOf (bodies : List Text) (items : List reading.Item) : Type 0 where
  pub are : AreItemsOf bodies items
  pub others : DefineNothing items

-- no raw text of the items is too long, if macros stand for these texts
abbrev pub HaveShortTexts : Macros → List reading.Item → Type 0
HaveShortTexts macros items = AllByRecursion (λ i. first_too_long (placed_texts macros i.tree) ≡ None) items

-- items with these bodies, which may come and go in the tables: none of them is a definition, or the tables are firm
pub record MayPass (t : Tables) (bodies : List Text) (items : List reading.Item) : Type 0 where
  pub are : AreItemsOf bodies items
  pub may : DefineNothing items ⊎ IsFirm t

-- the items from one number up to another may come and go in the tables
abbrev pub MayPassBetween : Tables → ℕ → ℕ → List Item → Type 0
MayPassBetween t from to items = (all : List reading.Item) → AreItemsOf (bodies_between from to items) all → MayPass t (bodies_between from to items) all
