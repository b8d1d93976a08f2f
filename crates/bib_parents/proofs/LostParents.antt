-- Whether an entry of a merge has lost its parent, from what its crossref names.
use Rattle.std.proofs.Common.{◌≡◌, ℕ, Bool, true, false, ◌&&◌, if◌then◌else◌, ◌<◌, [], List, length, Option, None, Some, is_some, is_none, slice_get, option_and_then, refl, sym, ◌∙◌, ap, ap₂}
use Rattle.std.specs.Option.{option_map_or}
use Rattle.std.proofs.Math.Bool.{and-false}
use Rattle.bib_spec.specs.Text.{Text, same}
use Rattle.bib_spec.specs.Reading.{Item, Reading}
use Rattle.bib_spec.specs.Records.{EntryTexts, crossref_text, target, entries_of}
use Rattle.bib_scan.specs.View.{View, view_of}
use Rattle.bib_store.specs.Readings.{entry_items}
use Rattle.bib_store.proofs.EntryItems.{entry_at, key_seen}
use Rattle.merge_spec.specs.Parents.{named_at, named_on, named_on_both, key_at, is_lost}

pub none-some : {A : Type 0} (o : Option A) → is_some o ≡ true → is_none o ≡ false
none-some None e = sym e
none-some (Some a) e = refl

pub none-none : {A : Type 0} (o : Option A) → is_some o ≡ false → is_none o ≡ true
none-none None e = refl
none-none (Some a) e = sym e

-- what the crossref with this text decides
abbrev decided : List EntryTexts → List EntryTexts → List EntryTexts → ℕ → Option Text → Bool
decided ours theirs merged n crossref = option_map_or (λ text. named_on_both (named_on ours (key_at merged n) text) (named_on theirs (key_at merged n) text)) crossref false

-- an entry whose crossref names an entry has lost nothing
pub named_is_kept : (ours theirs merged : List EntryTexts) (n : ℕ) → is_none (target merged n) ≡ false → false ≡ is_lost ours theirs merged n
named_is_kept ours theirs merged n named = sym (ap (λ b. b && decided ours theirs merged n (option_and_then crossref_text (slice_get merged n))) named)

-- nor has one without a crossref
pub silent_is_kept : (ours theirs merged : List EntryTexts) (n : ℕ) → option_and_then crossref_text (slice_get merged n) ≡ None → false ≡ is_lost ours theirs merged n
silent_is_kept ours theirs merged n silent =
    sym (ap (λ o. is_none (target merged n) && decided ours theirs merged n o) silent ∙ and-false (is_none (target merged n)))

-- of another the sides decide
pub sides_decide : (ours theirs merged : List EntryTexts) (n : ℕ) (key text : Text) (b : Bool) → is_none (target merged n) ≡ true → option_and_then crossref_text (slice_get merged n) ≡ Some text
    → key ≡ key_at merged n → b ≡ named_on_both (named_on ours key text) (named_on theirs key text) → b ≡ is_lost ours theirs merged n
sides_decide ours theirs merged n key text b none says is_key is =
    is ∙ ap (λ (k : Text). named_on_both (named_on ours k text) (named_on theirs k text)) is_key
    ∙ sym (ap₂ (λ (x : Bool) (o : Option Text). x && decided ours theirs merged n o) none says)

-- ---- one side

-- an entry of the side whose crossref says this
pub says_so : (side : List EntryTexts) (text : Text) (m : ℕ) (other : Text) (names : Bool) → option_and_then crossref_text (slice_get side m) ≡ Some other → names ≡ is_some (target side m)
    → (if same other text then Some names else None) ≡ named_at side text m
says_so side text m other names says is =
    ap (λ (b : Bool). if same other text then Some b else None) is ∙ sym (ap (option_and_then (λ o. if same o text then Some (is_some (target side m)) else None)) says)

-- an entry of the side without a crossref
pub says_nothing : (side : List EntryTexts) (text : Text) (m : ℕ) → option_and_then crossref_text (slice_get side m) ≡ None → None ≡ named_at side text m
says_nothing side text m says = sym (ap (option_and_then (λ o. if same o text then Some (is_some (target side m)) else None)) says)

-- the key that is seen of an entry
pub key_here : (db : Reading) (n : ℕ) → n < length (entries_of db) → (key : Text) (seen : View) → key ≡ seen.key → ((i : Item) → slice_get (entry_items db.items) n ≡ Some i → seen ≡ view_of i)
    → key ≡ key_at (entries_of db) n
key_here db n within key seen key_is sees =
    let e = entry_at db n within in
    key_seen db n e.0 e.1 key seen key_is (sees e.0 e.1.listed) ∙ sym (ap (λ (o : Option EntryTexts). option_map_or (λ (t : EntryTexts). t.key) o []) e.1.texts)
