-- Pairs of entries, as their views show them and by their texts.
use Rattle.std.proofs.Common.{◌≡◌, ◌≢◌, ◌==◌, eqb-true, ◌∙◌, ℕ, zero, suc, ◌+◌, ◌<◌, Bool, true, false, cond, List, [], ◌∷◌, length, Some, None, option_map, slice_get, refl, sym, ap, subst, map, find, ◌⊎◌, inl, inr, ⊎_elim, arith}
use Rattle.std.specs.List.{AllZip}
use Rattle.std.proofs.lemmas.Bool.{cases_Bool, eqb-false}
use Rattle.std.proofs.lemmas.Option.{none-some, same_Some}
use Rattle.bib_spec.specs.Text.{Text, folded, same}
use Rattle.bib_spec.specs.Tree.{Row, Tree}
use Rattle.bib_spec.specs.Reading.{Item, Reading, Reads}
use Rattle.bib_spec.specs.Texts.{Macros, months, macros_at, field_text}
use Rattle.bib_spec.specs.Records as records
use Rattle.bib_spec.specs.Records.{EntryTexts, entries_of, texts_of, has_name, field_of}
use Rattle.bib_spec.proofs.Names.{same-true}
use Rattle.bib_scan.specs.View.{Field, View, view_of, head_of, key_of}
use Rattle.folded_map.specs.FoldedMap.{value_at}
use Rattle.bib_store.specs.Readings.{entry_items}
use Rattle.bib_store.specs.Gathering.{IsFieldOf}
use Rattle.bib_store.proofs.EntryItems.{IsEntryAt, entry_at}
use Rattle.bib_store.proofs.ReadableFields.{fields_zip}
use Rattle.diff_spec.specs.Agreement.{text_at, SayTheSame, EntriesAgree}
use Rattle.bib_diff.specs.Texts.{Map, first_text, AreTextsOfEntry}
use Rattle.bib_diff.specs.Agreeing.{HaveAlike, HaveAllAlike, ShowTheSame, AreTheSame}

-- the view is that of an item which is this entry
pub record Shows (v : View) (entry : EntryTexts) : Type 0 where
  pub macros : Macros
  pub rows : List Row
  pub kind : v.type_name ≡ entry.kind
  pub key : v.key ≡ entry.key
  pub zip : AllZip IsFieldOf v.fields rows
  pub fields : map (field_of macros) rows ≡ entry.fields

-- the view of an item shows the entry with its number
pub shows : (file : Text) (db : Reading) (n : ℕ) (v : View) (entry : EntryTexts) → Reads file db → n < length (entries_of db)
    → ((item : Item) → slice_get (entry_items db.items) n ≡ Some item → v ≡ view_of item) → slice_get (entries_of db) n ≡ Some entry → Shows v entry
shows file db n v entry reads within is there =
    let at = entry_at db n within in
    let it : IsEntryAt db n at.0 = at.1 in
    let seen : v ≡ view_of at.0 = is at.0 it.listed in
    let known : texts_of (macros_at months db.items it.number) it.entry ≡ entry = same_Some (texts_of (macros_at months db.items it.number) it.entry) entry (sym it.texts ∙ there) in
    record {
      macros = macros_at months db.items it.number;
      rows = it.entry.rows;
      kind = ap (λ (w : View). w.type_name) seen ∙ ap (λ (t : Tree). (head_of t).type_name) it.is ∙ ap (λ (e : EntryTexts). e.kind) known;
      key = ap (λ (w : View). w.key) seen ∙ ap key_of it.is ∙ ap (λ (e : EntryTexts). e.key) known;
      zip = subst (λ (w : View). AllZip IsFieldOf w.fields it.entry.rows) (sym seen) (fields_zip file db n at.0 reads it);
      fields = ap (λ (e : EntryTexts). e.fields) known;
    }

-- ---- texts

-- a name that one of the rows has is alike in both maps
names_alike : (old new : Map) (macros : Macros) (name : Text) (fields : List Field) (rows : List Row) → AllZip IsFieldOf fields rows → HaveAllAlike old new fields
    → (first_text name (map (field_of macros) rows) ≡ None) ⊎ HaveAlike old new name
names_alike old new macros name [] [] zip all = inl refl
names_alike old new macros name [] (row ∷ rows) zip all = absurd zip
names_alike old new macros name (field ∷ fields) [] zip all = absurd zip
names_alike old new macros name (field ∷ fields) (row ∷ rows) zip all = at (same row.assignment.name name) refl (names_alike old new macros name fields rows zip.1 all.1)
  where
    at : (b : Bool) → same row.assignment.name name ≡ b → (first_text name (map (field_of macros) rows) ≡ None) ⊎ HaveAlike old new name
        → (option_map (λ (field : records.Field). field_text field.raw) (cond b (Some (field_of macros row)) (find (has_name name) (map (field_of macros) rows))) ≡ None) ⊎ HaveAlike old new name
    at true is later = inr (subst (λ (key : Text). value_at old key ≡ value_at new key) (ap folded zip.0.name ∙ same-true row.assignment.name name is) all.0)
    at false is later = later

-- the texts of entries are the same if both maps have the same texts for the names of their fields
pub texts_alike : (was is : View) (x y : EntryTexts) (old new : Map) → Shows was x → Shows is y → AreTextsOfEntry x old → AreTextsOfEntry y new
    → HaveAllAlike old new was.fields → HaveAllAlike old new is.fields → (name : Text) → text_at name x ≡ text_at name y
texts_alike was is x y old new shows_x shows_y of_x of_y first second name =
    ⊎_elim
    (λ none. ⊎_elim
    (λ none_too. sym (ap (first_text name) shows_x.fields) ∙ none ∙ sym none_too ∙ ap (first_text name) shows_y.fields)
    alike
    (names_alike old new shows_y.macros name is.fields shows_y.rows shows_y.zip second))
    alike
    (names_alike old new shows_x.macros name was.fields shows_x.rows shows_x.zip first)
  where
    alike : HaveAlike old new name → text_at name x ≡ text_at name y
    alike same_text = sym (of_x name) ∙ same_text ∙ of_y name

pub say_the_same : (was is : View) (x y : EntryTexts) (old new : Map) → Shows was x → Shows is y → AreTextsOfEntry x old → AreTextsOfEntry y new → ShowTheSame was is old new → SayTheSame x y
say_the_same was is x y old new shows_x shows_y of_x of_y same_view = record {
  kind = sym (ap folded shows_x.kind) ∙ same_view.kind ∙ ap folded shows_y.kind;
  key = sym shows_x.key ∙ same_view.key ∙ shows_y.key;
  texts = texts_alike was is x y old new shows_x shows_y of_x of_y same_view.first same_view.second;
}

pub are_the_same : (was is : View) (x y : EntryTexts) (old new : Map) → Shows was x → Shows is y → AreTextsOfEntry x old → AreTextsOfEntry y new → SayTheSame x y → AreTheSame was is old new
are_the_same was is x y old new shows_x shows_y of_x of_y said = record {
  kind = ap folded shows_x.kind ∙ said.kind ∙ sym (ap folded shows_y.kind);
  key = shows_x.key ∙ said.key ∙ sym shows_y.key;
  texts = λ name. of_x name ∙ said.texts name ∙ sym (of_y name);
}

-- ---- lists

-- lists that agree at each place agree
pub agree_at_each : (old new : List EntryTexts) → length old ≡ length new
    → ((n : ℕ) → n < length old → (x : EntryTexts) → slice_get old n ≡ Some x → (y : EntryTexts) → slice_get new n ≡ Some y → SayTheSame x y) → EntriesAgree old new
agree_at_each [] [] count each = tt
agree_at_each [] (y ∷ ys) count each = absurd (omega (arith, count))
agree_at_each (x ∷ xs) [] count each = absurd (omega (arith, count))
agree_at_each (x ∷ xs) (y ∷ ys) count each = (
  each 0 (omega arith) x refl y refl,
  agree_at_each xs ys (omega (arith, count)) (λ n lt. each (suc n) (omega (arith, lt))),
)

-- lists that agree do so at each place
pub agree_there : (old new : List EntryTexts) (n : ℕ) → EntriesAgree old new → (x : EntryTexts) → slice_get old n ≡ Some x → (y : EntryTexts) → slice_get new n ≡ Some y → SayTheSame x y
agree_there [] ys n agree x there y there_too = absurd (none-some x there)
agree_there (a ∷ xs) [] n agree x there y there_too = absurd agree
agree_there (a ∷ xs) (b ∷ ys) zero agree x there y there_too =
    subst (λ (e : EntryTexts). SayTheSame e y) (same_Some a x there) (subst (λ (e : EntryTexts). SayTheSame a e) (same_Some b y there_too) agree.0)
agree_there (a ∷ xs) (b ∷ ys) (suc n) agree x there y there_too = agree_there xs ys n agree.1 x there y there_too

pub agree_in_count : (old new : List EntryTexts) → EntriesAgree old new → length old ≡ length new
agree_in_count [] [] agree = refl
agree_in_count [] (y ∷ ys) agree = absurd agree
agree_in_count (x ∷ xs) [] agree = absurd agree
agree_in_count (x ∷ xs) (y ∷ ys) agree = ap suc (agree_in_count xs ys agree.1)

-- what holds below a number and at the number holds below the next one
pub up_to_more : (P : ℕ → Type 0) (n : ℕ) → ((k : ℕ) → k < n → P k) → P n → (k : ℕ) → k < n + 1 → P k
up_to_more P n below at k lt = ⊎_elim
    (λ is. subst P (sym (eqb-true k n is)) at)
    (λ other. let apart : k ≢ n = eqb-false k n other in below k (omega (arith, lt, apart)))
    (cases_Bool (k == n))
