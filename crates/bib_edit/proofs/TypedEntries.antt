-- When giving an entry another type is refused, and for which reason; and the one piece that it is.
use Rattle.bib_edit.proofs.Words.{◌≡◌, ℕ, ◌+◌, ◌<◌, ◌≤◌, ◌==◌, ◌||◌, ◌&&◌, not, nat_le, nat_lt, true, false, List, [], ◌∷◌, ◌++◌, Some, is_some, slice_get, length, list_all, ⊎_elim, true≢false, refl, sym, ◌∙◌, ap, ap₂, arith, append_assoc, All, All-nil, All-cons, All-head, All-tail, and_parts, or_from, or-true, both_ways, cases_Bool, leb-true, ltb-true, ne_eqb, false≢true}
use Rattle.bib_edit.proofs.Words.{name_limit, file_limit, Text, is_name, does_not_begin_with, IsValue, Item, Reading, Reads, Opens, IsOpenable, Entry, EntryTree, IsItem, tree_bytes, Record, Piece, pieces_of, IsAccepted, IsFirstRefusal, holders, is_type, View, view_of, start_of, OfReading, length-append, too_long_at, item-ends, slice_get-within}
use Rattle.bib_edit.proofs.Words.{made_base, IsAllowedEdit, ArePiecesOf, IsRefusal, IsHeldAt, IsHolderFault, none_holds, many_hold, OfItem, item_named, olds_len, news_len, one_reading}
use Rattle.std.proofs.lemmas.Bool.{leb-false, not-true}
use Rattle.std.specs.List.{prefix_len}
use Rattle.bib_spec.specs.Bytes.{at_sign, space, tab, line_feed, carriage_return}
use Rattle.bib_spec.specs.Text.{is_type_byte, is_type_name}
unfoldable use Rattle.bib_spec.specs.Text.{is_space, is_name_byte, is_name_within}
use Rattle.bib_spec.specs.Tree.{IsEntry, open_byte, after_key_bytes}
use Rattle.bib_scan.proofs.RunLaws.{run_len}
use Rattle.bib_store.specs.Readings.{IsItemNumber}
use Rattle.bib_store.proofs.KeptItems.{item_in}
use Rattle.edit_spec.specs.Edits as edits
use Rattle.edit_spec.specs.Edits.{entry_with_type}
use Rattle.edit_spec.specs.EditChunks.{type_replaced}
use Rattle.bib_data.specs.declared.edit.Edit.{Edit}
use Rattle.bib_data.specs.declared.edit.Edit.TheVariants.{SetType}
use Rattle.bib_edit.specs.TypePieces.{stands_before_type, type_place, type_piece}
use Rattle.bib_edit.specs.declared.fault.EditFault.{EditFault}
use Rattle.bib_edit.specs.declared.fault.EditFault.TheVariants.{BadName, FileTooLong}
use Rattle.bib_edit.proofs.Ranks.{Passes, no_reason, more, is_first, all_clear}
use Rattle.bib_edit.proofs.NamedEntries.{named-entry}
use Rattle.bib_edit.proofs.PieceLengths.{makes-long, makes-short}
use Rattle.bib_edit.proofs.SettingPieces.{item_at, pieces-entry_as}
use Rattle.bib_edit.proofs.LongTexts.{too_long-changed, short-entry}
use Rattle.bib_edit.proofs.OpenFiles.{opens-as}
use Rattle.bib_edit.specs.Numbers.{is_numbered}
use Rattle.bib_edit.proofs.AskedEdits.{of-set_type}

-- ---- the reasons in their order

module _ (db : Reading) (key kind_name : Text) where
  abbrev typed : edits.Edit
  typed = edits.SetType key kind_name

  clear_key : Passes made_base db typed 1
  clear_key = more edits.BadKey (λ h. true≢false h) no_reason

  refused_name : is_type kind_name ≡ false → IsFirstRefusal made_base db typed edits.BadName
  refused_name none = is_first edits.BadName (ap (λ b. true && (b && true)) none) clear_key

  clear_name : is_type kind_name ≡ true → Passes made_base db typed 4
  clear_name n =
      more edits.BadPosition (λ h. h)
      (more edits.BadValue (λ h. h (All-nil (IsValue name_limit)))
      (more edits.BadName (λ h. true≢false (sym (ap (λ b. true && (b && true)) n) ∙ h)) clear_key))

  clear_file : is_type kind_name ≡ true → holders key db ≡ 1 → Passes made_base db typed 10
  clear_file n once =
      more edits.WouldMerge (λ h. h)
      (more edits.Referred (λ h. h)
      (more edits.NameInUse (λ h. h)
      (more edits.KeyInUse (λ h. h)
      (more edits.Ambiguous (λ many. omega (arith, many, once))
      (more edits.NotFound (λ none. omega (arith, none, once)) (clear_name n))))))

-- ---- where the type stands

space-stands : (b : ℕ) → is_space b ≡ true → stands_before_type b ≡ true
unfolding is_space
space-stands b h = ⊎_elim
    (λ le. ap (λ x. (b == at_sign) || x) le ∙ or-true (b == at_sign))
    (λ gt.
    let lt = leb-false b space gt in
    let a : (b == space) ≡ false = ne_eqb b space (omega (arith, lt)) in
    let t : (b == tab) ≡ false = ne_eqb b tab (omega (arith, lt)) in
    let l : (b == line_feed) ≡ false = ne_eqb b line_feed (omega (arith, lt)) in
    let r : (b == carriage_return) ≡ false = ne_eqb b carriage_return (omega (arith, lt)) in
    absurd (both_ways (is_space b)
    (ap (λ x. ((x || (b == tab)) || (b == line_feed)) || (b == carriage_return)) a ∙ ap (λ x. (x || (b == line_feed)) || (b == carriage_return)) t ∙ ap (λ x. x || (b == carriage_return)) l ∙ r) h))
    (cases_Bool (nat_le b space))

type-does_not : (b : ℕ) → is_type_byte b ≡ true → stands_before_type b ≡ false
unfolding is_name_byte
type-does_not b h =
    let both = and_parts (is_name_byte b) (not (b == at_sign)) h in
    let over = (and_parts (nat_lt space b) _ both.0).0 in
    let lt = ltb-true space b over in
    or_from (b == at_sign) (nat_le b space) (not-true (b == at_sign) both.1) (⊎_elim (λ t. absurd (let le = leb-true b space t in omega (arith, le, lt))) (λ f. f) (cases_Bool (nat_le b space)))

type-ends : (t rest : Text) → is_type_name t ≡ true → does_not_begin_with stands_before_type (t ++ rest) ≡ true
unfolding is_name_within
type-ends [] rest h = absurd (false≢true h)
type-ends (b ∷ t) rest h =
    let bytes = (and_parts (is_name (b ∷ t)) (list_all is_type_byte (b ∷ t)) h).1 in
    ap not (type-does_not b (and_parts (is_type_byte b) (list_all is_type_byte t) bytes).0)

all-stand : (s : Text) → All (λ b. is_space b ≡ true) s → All (λ b. stands_before_type b ≡ true) s
all-stand [] all = All-nil (λ b. stands_before_type b ≡ true)
all-stand (b ∷ s) all =
    All-cons (λ b. stands_before_type b ≡ true) b s (space-stands b (All-head (λ b. is_space b ≡ true) b s all)) (all-stand s (All-tail (λ b. is_space b ≡ true) b s all))

body_regroup : (a s t b o k y : Text) → (((a ++ (s ++ t)) ++ b) ++ o) ++ k ++ y ≡ (a ++ s) ++ (t ++ (b ++ (o ++ (k ++ y))))
body_regroup a s t b o k y = simp append_assoc

-- the type stands behind the at-sign and the white space after it
pub place-of_type : (e : Entry) → IsEntry name_limit e → type_place (tree_bytes (EntryTree e)) ≡ length (at_sign ∷ e.opening.head.space_before_type)
place-of_type e is =
    let head : Text = at_sign ∷ e.opening.head.space_before_type in
    let rest : Text = e.opening.space_before_delimiter ++ ((open_byte e.opening.delimiter ∷ e.opening.space_after) ++ (e.key ++ after_key_bytes e)) in
    ap (prefix_len stands_before_type)
    (body_regroup (at_sign ∷ []) e.opening.head.space_before_type e.opening.head.type_name e.opening.space_before_delimiter (open_byte e.opening.delimiter ∷ e.opening.space_after) e.key (after_key_bytes e))
    ∙ run_len stands_before_type head (e.opening.head.type_name ++ rest)
    (All-cons (λ b. stands_before_type b ≡ true) at_sign e.opening.head.space_before_type refl (all-stand e.opening.head.space_before_type is.opening.head.space_before_type))
    (type-ends e.opening.head.type_name rest is.opening.head.type_name)

-- ---- the piece

-- giving an entry another type is one piece
typed-one_piece : (base : Record → Text) (db : Reading) (key kind_name : Text) (n : ℕ) (e : Entry) (trail : Text) → IsEntry name_limit e → item_named key db ≡ Some n → slice_get db.items n ≡ Some (item_at (EntryTree e) trail) →
    pieces_of base db (edits.SetType key kind_name) ≡ type_piece (start_of db n) (view_of (item_at (EntryTree e) trail)) kind_name ∷ []
typed-one_piece base db key kind_name n e trail is named at =
    pieces-entry_as (type_replaced kind_name) db key n e trail named at
    ∙ ap (λ (place : ℕ). record { place = start_of db n + place; old = e.opening.head.type_name; new = kind_name } ∷ []) (sym (place-of_type e is))

-- item n, which is an entry, as one of the grammar
pub entry-in : (file : Text) (db : Reading) (n : ℕ) (e : Entry) (trail : Text) → Reads file db → slice_get db.items n ≡ Some (item_at (EntryTree e) trail) → IsEntry name_limit e
entry-in file db n e trail reads at = (item_in (IsItem name_limit) db.items n (item_at (EntryTree e) trail) reads.items at).tree

-- what is seen of item n is in the file
pub type-within : (file : Text) (n start : ℕ) (view : View) → IsItemNumber file n → IsOpenable file → OfReading file (λ db. start ≡ start_of db n) →
    OfReading file (λ db. (i : Item) → slice_get db.items n ≡ Some i → view ≡ view_of i) → start + length view.body ≤ file_limit
type-within file n start view within is here seen =
    let db = is.0 in
    let reads = is.1.reads in
    let it = slice_get-within db.items n (within db reads) in
    let item : Item = it.0 in
    let ends = item-ends file db n item reads it.1 in
    let short = is.1.short in
    let long = length-append (tree_bytes item.tree) item.trail in
    let body = ap (λ (v : View). length v.body) (seen db reads item it.1) in
    let place = here db reads in
    omega (arith, ends, short, long, body, place)

-- the place and the bytes that are seen make the piece
pub typing-is : (file : Text) (n start place : ℕ) (view : View) (kind_name old new body : Text) → OfReading file (λ db. start ≡ start_of db n) →
    OfReading file (λ db. (i : Item) → slice_get db.items n ≡ Some i → view ≡ view_of i) → place ≡ type_place body → body ≡ view.body → old ≡ view.type_name → new ≡ kind_name →
    OfItem file n (λ s v. (let p : Piece = record { place = start + place; old = old; new = new } in p) ≡ type_piece s v kind_name)
typing-is file n start place view kind_name old new body here seen at body_is o t db reads item stands =
    ap₂ (λ (x y : Text). let p : Piece = record { place = start + place; old = x; new = y } in p) o t
    ∙ ap (λ (k : ℕ). let p : Piece = record { place = start + k; old = view.type_name; new = kind_name } in p) (at ∙ ap type_place body_is)
    ∙ ap₂ (λ (s : ℕ) (v : View). type_piece s v kind_name) (here db reads) (seen db reads item stands)

-- ---- refusals

module _ (file key kind_name : Text) (plain : is_numbered key ≡ false) where
  abbrev asked : Edit
  asked = SetType key kind_name

  pub refused-name : is_type kind_name ≡ false → IsRefusal file asked BadName
  refused-name none db reads = of-set_type key kind_name plain (λ e. IsFirstRefusal made_base db e edits.BadName) (refused_name db key kind_name none)

  -- what is known once the type is one
  module _ (named : is_type kind_name ≡ true) where
    pub refused-key : (fault : EditFault) → IsHolderFault file key fault → IsRefusal file asked fault
    refused-key fault (none_holds none) = λ db reads. of-set_type key kind_name plain (λ e. IsFirstRefusal made_base db e edits.NotFound)
        (is_first edits.NotFound (none db reads) (clear_name db key kind_name named))
    refused-key fault (many_hold many) = λ db reads. of-set_type key kind_name plain (λ e. IsFirstRefusal made_base db e edits.Ambiguous)
        (let some = many db reads in is_first edits.Ambiguous some (more edits.NotFound (λ none. omega (arith, none, some)) (clear_name db key kind_name named)))

    -- and that the key is one entry's, and this list is the piece alone
    module _ (n : ℕ) (held : OfReading file (λ db. IsHeldAt key db n)) (p : Piece) (made : OfItem file n (λ start view. p ≡ type_piece start view kind_name)) (ps : List Piece) (one : ps ≡ p ∷ []) where
      are : (db : Reading) → Reads file db → ps ≡ pieces_of made_base db (edits.SetType key kind_name)
      are db reads =
          let lone = held db reads in
          let entry = named-entry key db n lone.item in
          one ∙ ap (λ q. q ∷ []) (made db reads (item_at (EntryTree entry.entry) entry.trail) entry.at)
          ∙ sym (typed-one_piece made_base db key kind_name n entry.entry entry.trail (entry-in file db n entry.entry entry.trail reads entry.at) lone.item entry.at)

      pub pieces-set_type : ArePiecesOf file asked ps
      pieces-set_type db reads = of-set_type key kind_name plain (λ e. ps ≡ pieces_of made_base db e) (are db reads)

      pub refused-file : file_limit + olds_len ps < length file + news_len ps → IsRefusal file asked FileTooLong
      refused-file over db reads = of-set_type key kind_name plain (λ e. IsFirstRefusal made_base db e edits.FileTooLong)
          (is_first edits.FileTooLong (makes-long (edits.SetType key kind_name) file db reads ps (are db reads) over) (clear_file db key kind_name named (held db reads).once))

      -- no raw text of the entry changes
      no-longer : (db : Reading) → Opens file db → is_some (too_long_at (edits.edited made_base db (edits.SetType key kind_name))) ≡ false
      no-longer db opens =
          let lone = held db opens.reads in
          let entry = named-entry key db n lone.item in
          too_long-changed key (entry_with_type kind_name) db n entry.entry entry.trail lone.item entry.at opens.texts
          ∙ short-entry db n entry.entry entry.trail entry.at opens.texts

      pub allowed-set_type : length file + news_len ps ≤ file_limit + olds_len ps → IsOpenable file → IsAllowedEdit file asked
      allowed-set_type short is db reads =
          let opens = opens-as file db (one_reading name_limit) is reads in
          of-set_type key kind_name plain (λ e. IsAccepted made_base db e)
          (all_clear (more edits.TextTooLong (λ h. false≢true (sym (no-longer db opens) ∙ h))
          (more edits.FileTooLong (makes-short (edits.SetType key kind_name) file db reads ps (are db reads) short) (clear_file db key kind_name named (held db reads).once))))
