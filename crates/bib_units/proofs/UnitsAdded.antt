-- One unit more of a file.
use Rattle.std.proofs.Common.{◌≡◌, ◌≢◌, ℕ, zero, suc, ◌+◌, ◌==◌, true, false, not, if◌then◌else◌, List, [], ◌∷◌, ◌++◌, Option, None, Some, slice_get, length, take, drop, refl, sym, ◌∙◌, ap, subst, arith, append_assoc, append-nil}
use Rattle.std.specs.List.{AllZip}
use Rattle.std.proofs.lemmas.Bool.{true≢false, eqb-true}
use Rattle.std.proofs.Math.Seq.{take-append_seam, drop-append_seam, take-append-add}
use Rattle.bib_spec.specs.Text.{Text, is_space, after_run}
use Rattle.bib_spec.specs.Tree.{Tree, CommentTree, DefinitionTree, PreambleTree, EntryTree, tree_bytes}
use Rattle.bib_spec.specs.Reading.{Item, Reading, item_bytes}
use Rattle.bib_spec.specs.Texts.{Macros, is_empty, months, macros_at, macros_after}
use Rattle.bib_scan.specs.declared.view.Kind.TheVariants as kind
use Rattle.bib_scan.specs.View.{kind_of}
use Rattle.bib_text.specs.Trimming.{before_run, up_to_last}
use Rattle.merge_spec.specs.Units.{Unit, Spaced, BytesLabel, unit_bytes, label_of, front_space, end_space, text_units, item_unit, comment_unit, units_in, tree_label}
use Rattle.bib_units.specs.declared.unit_view.UnitView.{UnitView}
use Rattle.bib_units.specs.Labels.{label_seen}
use Rattle.bib_units.specs.UnitsSeen.{IsItemAt, HasItem, IsUnit, AreUnits}

-- one more at the end of both lists
zip-snoc : {A B : Type 0} (R : A → B → Type 0) (xs : List A) (ys : List B) (x : A) (y : B) → AllZip R xs ys → R x y → AllZip R (xs ++ x ∷ []) (ys ++ y ∷ [])
zip-snoc R [] [] x y all is = (is, tt)
zip-snoc R [] (b ∷ ys) x y all is = absurd all
zip-snoc R (a ∷ xs) [] x y all is = absurd all
zip-snoc R (a ∷ xs) (b ∷ ys) x y all is = (all.0, zip-snoc R xs ys x y all.1 is)

-- one more unit
pub unit-added : (r : Reading) (old new : List UnitView) (before : List Spaced) (view : UnitView) (s : Spaced) → new ≡ old ++ view ∷ [] → IsUnit r view s → AreUnits r old before → AreUnits r new (before ++ s ∷ [])
unit-added r old new before view s is unit all = subst (λ (l : List UnitView). AreUnits r l (before ++ s ∷ [])) (sym is) (zip-snoc (IsUnit r) old before view s all unit)

-- the units of a text, given what follows its first white space
abbrev units-of_rest : Macros → Text → List Spaced
units-of_rest macros rest = if is_empty rest then [] else record { unit = record { tree = None; text = before_run is_space rest; macros = macros }; space = end_space rest } ∷ []

-- a text of white space has no unit
pub no-text : (r : Reading) (macros : Macros) (views : List UnitView) (before : List Spaced) (t rest : Text) → rest ≡ after_run is_space t → (length rest == 0) ≡ true → AreUnits r views before →
    AreUnits r views (before ++ text_units macros t)
no-text r macros views before t [] is none all = subst (AreUnits r views) (sym (append-nil before) ∙ ap (λ l. before ++ units-of_rest macros l) is) all
no-text r macros views before t (b ∷ rest) is none all = absurd (some (length rest) (eqb-true (suc (length rest)) 0 none))
  where
    some : (n : ℕ) → suc n ≡ 0 → ⊥
    some n = omega arith

-- another text has one
pub text-added : (r : Reading) (macros : Macros) (old new : List UnitView) (before : List Spaced) (t rest : Text) (view : UnitView) → rest ≡ after_run is_space t → (length rest == 0) ≡ false →
    new ≡ old ++ view ∷ [] → view.item ≡ None → label_seen view.label ≡ BytesLabel view.bytes.now → view.bytes.now ≡ before_run is_space rest → view.space.now ≡ end_space rest →
    AreUnits r old before → AreUnits r new (before ++ text_units macros t)
text-added r macros old new before t [] view is some added item label bytes space all = absurd (true≢false some)
text-added r macros old new before t (b ∷ rest) view is some added item label bytes space all =
    subst (λ l. AreUnits r new (before ++ units-of_rest macros l)) is
    (unit-added r old new before view (record { unit = record { tree = None; text = before_run is_space (b ∷ rest); macros = macros }; space = end_space (b ∷ rest) }) added
    (record { item = subst (λ (n : Option ℕ). HasItem r n unit) (sym item) refl; label = label ∙ ap BytesLabel bytes; bytes = bytes; space = space }) all)
  where
    unit : Unit
    unit = record { tree = None; text = before_run is_space (b ∷ rest); macros = macros }

-- the macros after an item
pub macros-next : (m : Macros) (items : List Item) (n : ℕ) (i : Item) → slice_get items n ≡ Some i → macros_at m items (n + 1) ≡ macros_after (macros_at m items n) i.tree
macros-next m items n i at = subst (λ k. macros_at m items k ≡ macros_after (macros_at m items n) i.tree) (one_more n) (next m items n at)
  where
    one_more : (k : ℕ) → suc k ≡ k + 1
    one_more k = omega arith

    next : (a : Macros) (is : List Item) (k : ℕ) → slice_get is k ≡ Some i → macros_at a is (suc k) ≡ macros_after (macros_at a is k) i.tree
    next a [] k at = cc
    next a (j ∷ is) zero at = let same : j ≡ i = cc in ap (λ (x : Item). macros_after a x.tree) same
    next a (j ∷ is) (suc k) at = next (macros_after a j.tree) is k at

-- an item that is no comment has one unit, and the text after it
pub plain-units : (macros : Macros) (tree : Tree) (trail : Text) → kind_of tree ≢ kind.Comment →
    (later : Macros) × (units_in macros tree trail ≡ item_unit macros tree (front_space trail) ∷ text_units later trail)
plain-units macros (CommentTree h) trail other = absurd (other refl)
plain-units macros (DefinitionTree d) trail other = (macros_after macros (DefinitionTree d), refl)
plain-units macros (PreambleTree p) trail other = (macros, refl)
plain-units macros (EntryTree e) trail other = (macros, refl)

-- a comment has one unit
pub comment-units : (macros : Macros) (tree : Tree) (trail : Text) → kind_of tree ≡ kind.Comment →
    (s : Spaced) × (units_in macros tree trail ≡ s ∷ []) × (s.unit.tree ≡ Some tree) × (s.unit.macros ≡ macros) × (label_of s.unit ≡ BytesLabel (tree_bytes tree ++ before_run is_space trail))
    × (unit_bytes s.unit ≡ tree_bytes tree ++ before_run is_space trail) × (s.space ≡ end_space trail)
comment-units macros (CommentTree h) trail is = (comment_unit macros h trail, refl, refl, refl, refl, refl, refl)
comment-units macros (DefinitionTree d) trail is = cc
comment-units macros (PreambleTree p) trail is = cc
comment-units macros (EntryTree e) trail is = cc

-- the unit of an item that is no comment
pub plain-unit : (r : Reading) (n : ℕ) (i : Item) (view : UnitView) → IsItemAt r n i → view.item ≡ Some n → label_seen view.label ≡ tree_label i.tree [] → view.bytes.now ≡ tree_bytes i.tree →
    view.space.now ≡ front_space i.trail → IsUnit r view (item_unit (macros_at months r.items n) i.tree (front_space i.trail))
plain-unit r n i view at item label bytes space = record {
  item = subst (λ (m : Option ℕ). HasItem r m unit) (sym item) (record { item = i; at = at; tree = refl; macros = refl });
  label = label;
  bytes = bytes ∙ sym (append-nil (tree_bytes i.tree));
  space = space;
}
  where
    unit : Unit
    unit = (item_unit (macros_at months r.items n) i.tree (front_space i.trail)).unit

-- an item that is no comment, and the text after it
pub plain-added : (r : Reading) (n : ℕ) (i : Item) (old mid new : List UnitView) (before : List Spaced) (view : UnitView) (body trail : Text) → IsItemAt r n i → tree_bytes i.tree ≡ body → i.trail ≡ trail →
    kind_of i.tree ≢ kind.Comment → mid ≡ old ++ view ∷ [] → view.item ≡ Some n → label_seen view.label ≡ tree_label i.tree [] → view.bytes.now ≡ body → view.space.now ≡ front_space trail →
    ((macros : Macros) (bs : List Spaced) → AreUnits r mid bs → AreUnits r new (bs ++ text_units macros trail)) → AreUnits r old before →
    AreUnits r new (before ++ units_in (macros_at months r.items n) i.tree i.trail)
plain-added r n i old mid new before view body trail at bytes trail_is other added item label view_bytes space text all =
    let macros = macros_at months r.items n in
    let units = plain-units macros i.tree i.trail other in
    let one = unit-added r old mid before view (item_unit macros i.tree (front_space i.trail)) added
    (plain-unit r n i view at item label (view_bytes ∙ sym bytes) (space ∙ ap front_space (sym trail_is))) all in
    subst (AreUnits r new)
    (append_assoc before (item_unit macros i.tree (front_space i.trail) ∷ []) (text_units units.0 trail)
    ∙ ap (λ t. before ++ (item_unit macros i.tree (front_space i.trail) ∷ text_units units.0 t)) (sym trail_is)
    ∙ ap (λ l. before ++ l) (sym units.1))
    (text units.0 (before ++ item_unit macros i.tree (front_space i.trail) ∷ []) one)

-- a text and the beginning of another
take-both : (a b : Text) (k : ℕ) → take (length a + k) (a ++ b) ≡ a ++ take k b
take-both a b k = take-append-add a b k

-- the text after an item
pub trail-of : (i : Item) (text : Text) (len : ℕ) → item_bytes i ≡ text → length (tree_bytes i.tree) ≡ len → drop len text ≡ i.trail
trail-of i text len bytes is = sym (ap (drop len) bytes) ∙ ap (λ k. drop k (tree_bytes i.tree ++ i.trail)) (sym is) ∙ drop-append_seam (tree_bytes i.tree) i.trail

-- the beginning of a text that the text without its end is
pub words-len : (t words : Text) → words ≡ before_run is_space t → take (length words) t ≡ words
words-len t words is = ap (λ w. take (length w) t) is ∙ go (up_to_last (λ b. not (is_space b)) t) ∙ sym is
  where
    go : (k : ℕ) → take (length (take k t)) t ≡ take k t
    go k = taken k t
      where
        taken : (j : ℕ) (xs : Text) → take (length (take j xs)) xs ≡ take j xs
        taken zero xs = refl
        taken (suc j) [] = refl
        taken (suc j) (x ∷ xs) = ap (λ l. x ∷ l) (taken j xs)

-- a comment with the text after it
pub comment-added : (r : Reading) (n : ℕ) (i : Item) (old new : List UnitView) (before : List Spaced) (view : UnitView) (text words : Text) (len : ℕ) → IsItemAt r n i → item_bytes i ≡ text →
    length (tree_bytes i.tree) ≡ len → kind_of i.tree ≡ kind.Comment → words ≡ before_run is_space (drop len text) → new ≡ old ++ view ∷ [] → view.item ≡ Some n →
    label_seen view.label ≡ BytesLabel view.bytes.now → view.bytes.now ≡ take (len + length words) text → view.space.now ≡ end_space (drop len text) → AreUnits r old before →
    AreUnits r new (before ++ units_in (macros_at months r.items n) i.tree i.trail)
comment-added r n i old new before view text words len at bytes is comment words_are added item label view_bytes space all =
    let unit = comment-units (macros_at months r.items n) i.tree i.trail comment in
    let trail = trail-of i text len bytes is in
    let words_is : words ≡ before_run is_space i.trail = words_are ∙ ap (before_run is_space) trail in
    let whole : view.bytes.now ≡ tree_bytes i.tree ++ before_run is_space i.trail =
    view_bytes ∙ sym (ap (take (len + length words)) bytes) ∙ ap (λ k. take (k + length words) (tree_bytes i.tree ++ i.trail)) (sym is)
    ∙ take-both (tree_bytes i.tree) i.trail (length words) ∙ ap (λ t. tree_bytes i.tree ++ t) (words-len i.trail words words_is ∙ words_is) in
    subst (λ l. AreUnits r new (before ++ l)) (sym unit.1)
    (unit-added r old new before view unit.0 added
    (record {
      item = subst (λ (m : Option ℕ). HasItem r m unit.0.unit) (sym item) (record { item = i; at = at; tree = unit.2; macros = unit.3 });
      label = label ∙ ap BytesLabel whole ∙ sym unit.4;
      bytes = whole ∙ sym unit.5;
      space = space ∙ ap end_space trail ∙ sym unit.6;
    }) all)
