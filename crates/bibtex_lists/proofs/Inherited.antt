-- What entries give to a record, one after another.
use Rattle.std.proofs.Common.{◌≡◌, ◌∙◌, ◌+◌, ◌≤◌, ℕ, List, [], ◌++◌, Some, slice_get, length, sym, ap}
use Rattle.std.specs.Option.{option_map_or}
use Rattle.std.proofs.lemmas.List.{append-nil}
use Rattle.std.proofs.lemmas.Option.{slice_get_past}
use Rattle.bib_spec.specs.Text.{Text, folded}
use Rattle.bib_spec.specs.Tree.{Entry, Tree, EntryTree}
use Rattle.bib_spec.specs.Reading.{Item}
use Rattle.bib_spec.specs.Texts.{Macros}
use Rattle.bib_spec.specs.Records.{EntryTexts, RecordField, Record, own_fields, missing, fields_at, with_inherited, texts_of}
use Rattle.bib_store.specs.Choosing.{chosen, with_chosen}
use Rattle.bib_scan.specs.View.{View, view_of, head_of}
use Rattle.bibtex_places.specs.declared.lists.BibtexEntry.{BibtexEntry}
use Rattle.bibtex_lists.specs.Records.{kind_at, record_as_listed}

-- an entry that there is not gives nothing
pub nothing_at : (entries : List EntryTexts) (n : ℕ) (fields : List RecordField) → length entries ≤ n → fields ≡ fields ++ missing fields (fields_at entries n)
nothing_at entries n fields le =
    sym (ap (λ o. fields ++ missing fields (option_map_or own_fields o [])) (slice_get_past entries n le) ∙ append-nil fields)

pub no_kind : (entries : List EntryTexts) (n : ℕ) → length entries ≤ n → [] ≡ kind_at entries n
no_kind entries n le = sym (ap (λ o. option_map_or (λ (entry : EntryTexts). folded entry.kind) o []) (slice_get_past entries n le))

pub kind_is : (entries : List EntryTexts) (n : ℕ) (item : Item) (e : Entry) (macros : Macros) (seen : View) (kind : Text) → slice_get entries n ≡ Some (texts_of macros e) → item.tree ≡ EntryTree e → seen ≡ view_of item
    → kind ≡ folded seen.type_name → kind ≡ kind_at entries n
kind_is entries n item e macros seen kind at tree sees is =
    is
    ∙ ap (λ (v : View). folded v.type_name) sees
    ∙ ap (λ (t : Tree). folded (head_of t).type_name) tree
    ∙ sym (ap (λ o. option_map_or (λ (entry : EntryTexts). folded entry.kind) o []) at)

abbrev record_from : Text → Text → List RecordField → Record
record_from kind key fields = record { kind_name = kind; key = key; fields = fields }

pub record_is : (entries : List EntryTexts) (listed : BibtexEntry) (kind key : Text) (fields : List RecordField) → kind ≡ kind_at entries listed.entry → key ≡ listed.key
    → fields ≡ with_inherited entries (fields_at entries listed.entry) listed.up → record_from kind key fields ≡ record_as_listed entries listed
record_is entries listed kind key fields k t f =
    ap (λ x. record_from x key fields) k
    ∙ ap (λ y. record_from (kind_at entries listed.entry) y fields) t
    ∙ ap (record_from (kind_at entries listed.entry) listed.key) f

pub chosen_record_is : (names : List Text) (entries : List EntryTexts) (listed : BibtexEntry) (kind key : Text) (fields : List RecordField) → kind ≡ kind_at entries listed.entry → key ≡ listed.key
    → fields ≡ chosen names (with_inherited entries (fields_at entries listed.entry) listed.up) → record_from kind key fields ≡ with_chosen names (record_as_listed entries listed)
chosen_record_is names entries listed kind key fields k t f =
    ap (λ x. record_from x key fields) k
    ∙ ap (λ y. record_from (kind_at entries listed.entry) y fields) t
    ∙ ap (record_from (kind_at entries listed.entry) listed.key) f
