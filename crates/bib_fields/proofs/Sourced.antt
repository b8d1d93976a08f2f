-- Rows of the entries of two sides, as slices of their bodies.
use Rattle.std.proofs.Common.{◌≡◌, ℕ, ◌++◌, List, map, Option, Some, slice_get, refl, sym, ◌∙◌, ap, ap₂, subst}
use Rattle.bib_spec.specs.Text.{Text}
use Rattle.bib_spec.specs.Bytes.{name_limit}
use Rattle.bib_spec.specs.Tree.{Row, Entry, Tree, CommentTree, DefinitionTree, PreambleTree, EntryTree, IsTree, tree_bytes, value_bytes}
use Rattle.bib_spec.specs.Reading.{Item}
use Rattle.bib_spec.specs.Texts.{Macros, row_start}
use Rattle.bib_scan.specs.declared.fields.FieldView.{FieldView}
use Rattle.bib_scan.specs.View.{View, view_of, kind_of, field_seen}
use Rattle.bib_scan.specs.declared.view.Kind.TheVariants as kind
use Rattle.merge_spec.specs.ThreeWay.{entry_with}
use Rattle.bib_fields.specs.declared.mix.Mix.{Mix}
use Rattle.bib_fields.specs.declared.mix.Side.{Side}
use Rattle.bib_fields.specs.declared.mix.Side.TheVariants as side
use Rattle.bib_fields.specs.declared.mix.RowOf.{RowOf}
use Rattle.bib_fields.specs.declared.writing.Source.{Source}
use Rattle.bib_fields.specs.MixSeen.{of_side, row_at, row_of, type_in, key_in, mix_bytes}
use Rattle.bib_fields.specs.Slices.{between}
use Rattle.bib_fields.specs.Sources.{IsSource, MayBeSource}
use Rattle.bib_fields.proofs.Writings.{IsPlaced, placed-at, entry-placed}

-- the body of a source
pub body-of : (s : Source) (e : Entry) → IsSource s e → (let v : View = s.item in v.body) ≡ tree_bytes (EntryTree e)
body-of s e is = ap (λ (v : View). v.body) is.item

-- a row of a source
placed : (s : Source) (e : Entry) (n : ℕ) (f : FieldView) → IsSource s e → slice_get s.fields.items n ≡ Some f → IsPlaced (tree_bytes (EntryTree e)) (field_seen f) (row_at e.rows n)
placed s e n f is at = placed-at (tree_bytes (EntryTree e)) s.fields.items e.rows n f (entry-placed e s.fields.items is.fields) at

-- a row of one of two sources
pub row-of : (o t : Source) (eo et : Entry) (r : RowOf) (f : FieldView) → IsSource o eo → IsSource t et → slice_get (of_side r.side o.fields.items t.fields.items) r.n ≡ Some f →
    IsPlaced (of_side r.side (tree_bytes (EntryTree eo)) (tree_bytes (EntryTree et))) (field_seen f) (row_of eo.rows et.rows r)
row-of o t eo et r f is_o is_t at = on r.side at
  where
    on : (s : Side) → slice_get (of_side s o.fields.items t.fields.items) r.n ≡ Some f → IsPlaced (of_side s (tree_bytes (EntryTree eo)) (tree_bytes (EntryTree et))) (field_seen f) (row_at (of_side s eo.rows et.rows) r.n)
    on side.Ours there = placed o eo r.n f is_o there
    on side.Theirs there = placed t et r.n f is_t there

-- the body of a side
bodies : (o t : Source) (eo et : Entry) (s : Side) → IsSource o eo → IsSource t et → of_side s (let v : View = o.item in v.body) (let v : View = t.item in v.body) ≡ of_side s (tree_bytes (EntryTree eo)) (tree_bytes (EntryTree et))
bodies o t eo et side.Ours is_o is_t = body-of o eo is_o
bodies o t eo et side.Theirs is_o is_t = body-of t et is_t

-- the field of a row of one of two sources, as it is found
found-row : (o t : Source) (eo et : Entry) (r : RowOf) (f : FieldView) (found : Option FieldView) (fo ft : List FieldView) → IsSource o eo → IsSource t et → fo ≡ o.fields.items → ft ≡ t.fields.items →
    found ≡ slice_get (of_side r.side fo ft) r.n → found ≡ Some f → IsPlaced (of_side r.side (tree_bytes (EntryTree eo)) (tree_bytes (EntryTree et))) (field_seen f) (row_of eo.rows et.rows r)
found-row o t eo et r f found fo ft is_o is_t fo_is ft_is at there =
    row-of o t eo et r f is_o is_t (sym (ap₂ (λ (a b : List FieldView). slice_get (of_side r.side a b) r.n) fo_is ft_is) ∙ sym at ∙ there)

pub start-of : (o t : Source) (eo et : Entry) (r : RowOf) (f : FieldView) (found : Option FieldView) (fo ft : List FieldView) (body start : Text) → IsSource o eo → IsSource t et → fo ≡ o.fields.items → ft ≡ t.fields.items →
    found ≡ slice_get (of_side r.side fo ft) r.n → found ≡ Some f → body ≡ of_side r.side (let v : View = o.item in v.body) (let v : View = t.item in v.body) → start ≡ between body f.start f.value_at → start ≡ row_start (row_of eo.rows et.rows r)
start-of o t eo et r f found fo ft body start is_o is_t fo_is ft_is at there body_is start_is =
    start_is ∙ ap (λ (b : Text). between b f.start f.value_at) (body_is ∙ bodies o t eo et r.side is_o is_t) ∙ (found-row o t eo et r f found fo ft is_o is_t fo_is ft_is at there).start

pub value-of : (o t : Source) (eo et : Entry) (r : RowOf) (f : FieldView) (found : Option FieldView) (fo ft : List FieldView) → IsSource o eo → IsSource t et → fo ≡ o.fields.items → ft ≡ t.fields.items →
    found ≡ slice_get (of_side r.side fo ft) r.n → found ≡ Some f → f.value.now ≡ value_bytes (let row : Row = row_of eo.rows et.rows r in row.assignment.value)
value-of o t eo et r f found fo ft is_o is_t fo_is ft_is at there = (found-row o t eo et r f found fo ft is_o is_t fo_is ft_is at there).value

-- ---- types and keys

pub side-type : (mo mt : Macros) (eo et : Entry) (s : Side) → of_side s eo.opening.head.type_name et.opening.head.type_name ≡ type_in (of_side s (Some (mo, eo)) (Some (mt, et)))
side-type mo mt eo et side.Ours = refl
side-type mo mt eo et side.Theirs = refl

pub side-key : (mo mt : Macros) (eo et : Entry) (s : Side) → of_side s eo.key et.key ≡ key_in (of_side s (Some (mo, eo)) (Some (mt, et)))
side-key mo mt eo et side.Ours = refl
side-key mo mt eo et side.Theirs = refl

-- of two slices the one of a side
pub type-at : (s : Side) (o t : Source) (eo et : Entry) → IsSource o eo → IsSource t et → of_side s (let v : View = o.item in v.type_name) (let v : View = t.item in v.type_name) ≡ of_side s eo.opening.head.type_name et.opening.head.type_name
type-at side.Ours o t eo et is_o is_t = ap (λ (v : View). v.type_name) is_o.item
type-at side.Theirs o t eo et is_o is_t = ap (λ (v : View). v.type_name) is_t.item

pub key-at : (s : Side) (o t : Source) (eo et : Entry) → IsSource o eo → IsSource t et → of_side s (let v : View = o.item in v.key) (let v : View = t.item in v.key) ≡ of_side s eo.key et.key
key-at side.Ours o t eo et is_o is_t = ap (λ (v : View). v.key) is_o.item
key-at side.Theirs o t eo et is_o is_t = ap (λ (v : View). v.key) is_t.item

-- ---- items

-- the source of an item that is an entry
pub source-item : (i : Item) (v : View) (s : Source) → IsTree name_limit i.tree → v ≡ view_of i → kind_of i.tree ≡ kind.Entry → s.item ≡ v → map field_seen s.fields.items ≡ v.fields → MayBeSource (Some s) i.tree
source-item i v s is seen kind_is item fields = at i.tree refl is kind_is
  where
    at : (t : Tree) → i.tree ≡ t → IsTree name_limit t → kind_of t ≡ kind.Entry → MayBeSource (Some s) t
    at (CommentTree h) e it k = cc
    at (DefinitionTree d) e it k = cc
    at (PreambleTree p) e it k = cc
    at (EntryTree x) e it k =
        let as_entry : v ≡ view_of (record { tree = EntryTree x; trail = i.trail }) = seen ∙ ap (λ (t : Tree). view_of (record { tree = t; trail = i.trail })) e in
        (x, refl, record { is = it; trail = i.trail; item = item ∙ as_entry; fields = fields ∙ ap (λ (w : View). w.fields) as_entry })

-- the bytes of a merged entry of two sources are those of their items
pub written-items : (o t : Tree) (mo mt : Macros) (so st : Source) (mix : Mix) (old new : Text) → MayBeSource (Some so) o → MayBeSource (Some st) t →
    ((no nt : Macros) (eo et : Entry) → IsSource so eo → IsSource st et → new ≡ old ++ mix_bytes (Some (no, eo)) (Some (nt, et)) mix) → new ≡ old ++ mix_bytes (entry_with mo (Some o)) (entry_with mt (Some t)) mix
written-items o t mo mt so st mix old new is_o is_t says =
    subst (λ (x : Tree). new ≡ old ++ mix_bytes (entry_with mo (Some x)) (entry_with mt (Some t)) mix) (sym is_o.1)
    (subst (λ (x : Tree). new ≡ old ++ mix_bytes (Some (mo, is_o.0)) (entry_with mt (Some x)) mix) (sym is_t.1) (says mo mt is_o.0 is_t.0 is_o.2 is_t.2))
