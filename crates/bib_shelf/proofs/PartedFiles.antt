-- The files of an open shelf with an item at each seam have their places.
use Rattle.std.proofs.Common.{◌≡◌, ℕ, zero, suc, ◌+◌, ◌<◌, ◌≤◌, List, [], ◌∷◌, Some, slice_get, get_or, length, refl, sym, ◌∙◌, ap, subst, arith}
use Rattle.std.proofs.lemmas.Option.{none-some, same_Some, slice_get_within, slice_get-get_or}
use Rattle.bib_spec.specs.Bytes.{file_limit}
use Rattle.bib_spec.specs.Text.{Text}
use Rattle.bib_spec.specs.Reading.{Reading, Reads, HasReading}
use Rattle.bib_spec.specs.Texts.{IsOpenable}
use Rattle.bib_store.specs.Readings.{OfReading}
use Rattle.shelf_spec.specs.Shelf.{AllRead}
use Rattle.shelf_spec.specs.Numbers.{first_place}
use Rattle.bib_shelf.specs.declared.joining.Joined.{Joined}
use Rattle.bib_shelf.specs.Joined.{AreJoined}
use Rattle.bib_shelf.specs.Items.{ArePartedAt}
use Rattle.bib_shelf.specs.Faults.{HaveTheirPlaces}
use Rattle.bib_shelf.specs.Laws.{AreParted}
use Rattle.bib_shelf.proofs.Opens.{file_known, ends_at, count_spans, none_read}
use Rattle.bib_shelf.proofs.Parted.{parted_read}

-- the same text and spans, under other names
pub joined_as : (files : List Text) (joined : Joined) (text : Text) (spans : List (ℕ × ℕ)) → AreJoined files joined → text ≡ joined.text → spans ≡ joined.spans →
    AreJoined files (record { text = text; spans = spans })
joined_as files joined text spans are text_is spans_are = record { text = text_is ∙ are.text; spans = spans_are ∙ are.spans }

-- the spans say where the files end
parted_spans : (files : List Text) (joined : Joined) (db : Reading) → AreJoined files joined → ArePartedAt db joined.spans → AreParted files db
parted_spans files joined db are parted i file lt at =
    let count : length joined.spans ≡ length files = ap length are.spans ∙ count_spans 0 files in
    let within : i < length joined.spans = omega (arith, lt, count) in
    let s = get_or joined.spans i (0, 0) in
    let it = file_known files joined joined.spans i are refl within in
    let there = parted i s (omega (arith, lt, count)) (slice_get-get_or joined.spans i (0, 0) within) in (
      there.0,
      there.1,
      there.2 ∙ ends_at files i s it ∙ ap (λ (t : Text). first_place i files + length t) (same_Some it.its file (sym it.at_i ∙ at)),
    )

-- each file ends within the limit if the whole text does
file_within : (files : List Text) (joined : Joined) (i : ℕ) (file : Text) → AreJoined files joined → length joined.text ≤ file_limit → slice_get files i ≡ Some file →
    first_place i files + length file ≤ file_limit
file_within files joined i file are short at =
    let count : length joined.spans ≡ length files = ap length are.spans ∙ count_spans 0 files in
    let known : i < length files = slice_get_within files i file at in
    let it = file_known files joined joined.spans i are refl (omega (arith, known, count)) in
    subst (λ (t : Text). first_place i files + length t ≤ file_limit) (same_Some it.its file (sym it.at_i ∙ at))
    (shorter (first_place i files) (length it.its) it.within (subst (λ (t : Text). length t ≤ file_limit) are.text short))
  where
    shorter : (a b : ℕ) {n : ℕ} → (0 + a) + b ≤ 0 + n → n ≤ file_limit → a + b ≤ file_limit
    shorter a b h g = omega arith

-- the reading of file i
read_of : (files : List Text) (dbs : List Reading) (i : ℕ) (file : Text) → AllRead files dbs → slice_get files i ≡ Some file → HasReading file
read_of [] dbs i file all at = absurd (none-some file at)
read_of (first ∷ files) [] i file all at = absurd all
read_of (first ∷ files) (db ∷ dbs) zero file all at = subst HasReading (same_Some first file at) (db, all.0)
read_of (first ∷ files) (db ∷ dbs) (suc i) file all at = read_of files dbs i file all.1 at

pub parted_have_places : (files : List Text) (joined : Joined) → AreJoined files joined → IsOpenable joined.text → OfReading joined.text (λ db. ArePartedAt db joined.spans) →
    HaveTheirPlaces files (length files)
parted_have_places [] joined are opens parted = none_read []
parted_have_places (file ∷ files) joined are opens parted = λ j text h at.
    let db = opens.0 in
    let all = parted_read file files db (subst (λ (t : Text). Reads t db) are.text opens.1.reads) (parted_spans (file ∷ files) joined db are (parted db opens.1.reads)) in
    record {
      within = file_within (file ∷ files) joined j text are opens.1.short at;
      reading = read_of (file ∷ files) all.0 j text all.1 at;
    }
