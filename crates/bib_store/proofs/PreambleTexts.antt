-- The text of a preamble, from the bytes of its value.
use Rattle.bib_store.proofs.Words.{◌≡◌, ℕ, ◌<◌, ◌≤◌, length, Some, sym, ◌∙◌, ap, ap₂, subst, AllByRecursion, same_Some, name_limit, Text, Tree, Value, Preamble, PreambleTree, IsValue, IsTree, value_bytes, Reading, IsItem, Macros, months, macros_at, raw_text, raw_texts_in, raw_limit, Opens}
use Rattle.bib_store.proofs.Words.{preambles_of, View, view_of, one_value, OfValue, preamble_numbers}
use Rattle.std.proofs.Common.{slice_get}
use Rattle.bib_spec.specs.Tree.{IsPreamble}
use Rattle.bib_spec.specs.Reading.{Item}
use Rattle.bib_store.proofs.KeptItems.{item_in}
use Rattle.bib_store.proofs.EntryItems.{IsPreambleAt, preamble_at}
use Rattle.bib_store.proofs.ShortTexts.{IsShort, texts_short}

-- the bytes are those of the value of preamble n, which is item m
pub record IsPreambleText (db : Reading) (n m : ℕ) (bytes : Text) : Type 0 where
  pub value : Value
  pub ok : IsValue name_limit value
  pub same : value_bytes value ≡ bytes
  pub short : length (raw_text (macros_at months db.items m) value) ≤ raw_limit
  pub text : slice_get (preambles_of db) n ≡ Some (raw_text (macros_at months db.items m) value)

preamble_said : (file : Text) (db : Reading) (n : ℕ) (bytes : Text) (seen : View) → Opens file db → (p : IsPreambleAt db n) → ((i : Item) → slice_get db.items p.number ≡ Some i → seen ≡ view_of i) →
    ((q : Preamble) (trail : Text) → seen ≡ view_of (record { tree = PreambleTree q; trail = trail }) → bytes ≡ value_bytes q.value) → IsPreambleText db n p.number bytes
preamble_said file db n bytes seen opens p sees is_value =
    let good : IsItem name_limit p.item = item_in (IsItem name_limit) db.items p.number p.item opens.reads.items p.stands in
    let q : IsPreamble name_limit p.preamble = subst (IsTree name_limit) p.is good.tree in
    let short = subst (λ (t : Tree). AllByRecursion IsShort (raw_texts_in (macros_at months db.items p.number) t)) p.is (texts_short db opens.texts p.number p.item p.stands) in
    record {
      value = p.preamble.value;
      ok = q.value;
      same = sym (is_value p.preamble p.item.trail (sees p.item p.stands ∙ ap (λ (t : Tree). let it : Item = record { tree = t; trail = p.item.trail } in view_of it) p.is));
      short = short.0;
      text = p.text;
    }

pub preamble_read : (file : Text) (db : Reading) (n m : ℕ) (bytes : Text) (seen : View) → Opens file db → n < length (preambles_of db) → slice_get (preamble_numbers db.items) n ≡ Some m →
    ((i : Item) → slice_get db.items m ≡ Some i → seen ≡ view_of i) →
    ((q : Preamble) (trail : Text) → seen ≡ view_of (record { tree = PreambleTree q; trail = trail }) → bytes ≡ value_bytes q.value) → IsPreambleText db n m bytes
preamble_read file db n m bytes seen opens h numbered sees is_value =
    let p : IsPreambleAt db n = preamble_at db n h in
    let is : p.number ≡ m = same_Some p.number m (sym p.numbered ∙ numbered) in
    subst (λ (k : ℕ). IsPreambleText db n k bytes) is
    (preamble_said file db n bytes seen opens p (λ i at. sees i (ap (slice_get db.items) (sym is) ∙ at)) is_value)

module _ (db : Reading) (n m : ℕ) (bytes : Text) (p : IsPreambleText db n m bytes) (macros : Macros) (is : macros ≡ macros_at months db.items m) where
  pub preamble_short : OfValue bytes (λ v. length (raw_text macros v) ≤ raw_limit)
  preamble_short v ok same =
      let v_is : v ≡ p.value = one_value v p.value ok p.ok (same ∙ sym p.same) in
      subst (λ (t : Text). length t ≤ raw_limit) (ap₂ raw_text (sym is) (sym v_is)) p.short

  pub preamble_says : (text : Text) → OfValue bytes (λ v. text ≡ raw_text macros v) → slice_get (preambles_of db) n ≡ Some text
  preamble_says text said = p.text ∙ ap Some (ap (λ (k : Macros). raw_text k p.value) (sym is) ∙ sym (said p.value p.ok p.same))
