-- Fields of some names, chosen from one entry after another, are those of all that would be gathered.
use Rattle.std.proofs.Common.{◌≡◌, ◌∙◌, ℕ, ◌+◌, ◌≤◌, ◌<◌, List, [], ◌++◌, length, drop, get_or, refl, sym, ap}
use Rattle.std.specs.Option.{option_map_or}
use Rattle.std.proofs.lemmas.List.{drop_all, drop_more}
use Rattle.std.proofs.lemmas.Option.{slice_get_past}
use Rattle.bib_spec.specs.Text.{Text}
use Rattle.bib_spec.specs.Records.{EntryTexts, RecordField, own_fields, missing, fields_at, with_inherited}
use Rattle.bib_store.specs.Choosing.{chosen}
use Rattle.bib_store.proofs.ChosenFields.{chosen_inherited}

-- an entry that there is not gives nothing
pub none_chosen : (names : List Text) (entries : List EntryTexts) (n : ℕ) → length entries ≤ n → [] ≡ chosen names (fields_at entries n)
none_chosen names entries n le = sym (ap (λ o. chosen names (option_map_or own_fields o [])) (slice_get_past entries n le))

-- of the fields that would be gathered so far, `fields` has those with these names; the entries that are left are still to give theirs
pub record IsChosen (names : List Text) (entries : List EntryTexts) (all fields : List RecordField) (up left : List ℕ) : Type 0 where
  pub gathered : List RecordField
  pub are : fields ≡ chosen names gathered
  pub same : with_inherited entries gathered left ≡ with_inherited entries all up

pub chosen_start : (names : List Text) (entries : List EntryTexts) (all fields : List RecordField) (up : List ℕ) → fields ≡ chosen names all → IsChosen names entries all fields up up
chosen_start names entries all fields up is = record { gathered = all; are = is; same = refl }

-- one more entry
pub chosen_more : (names : List Text) (entries : List EntryTexts) (all old new given : List RecordField) (up : List ℕ) (k : ℕ) → k < length up
    → given ≡ chosen names (fields_at entries (get_or up k 0)) → new ≡ old ++ missing old given → IsChosen names entries all old up (drop k up) → IsChosen names entries all new up (drop (k + 1) up)
chosen_more names entries all old new given up k within gives adds is = record {
  gathered = is.gathered ++ missing is.gathered (fields_at entries (get_or up k 0));
  are =
      adds ∙ ap (λ (l : List RecordField). l ++ missing l given) is.are
      ∙ ap (λ (l : List RecordField). chosen names is.gathered ++ missing (chosen names is.gathered) l) gives
      ∙ sym (chosen_inherited names is.gathered (fields_at entries (get_or up k 0)));
  same = sym (ap (with_inherited entries is.gathered) (drop_more up k 0 within)) ∙ is.same;
}

pub chosen_all : (names : List Text) (entries : List EntryTexts) (all fields : List RecordField) (up : List ℕ) (k : ℕ) → length up ≤ k → IsChosen names entries all fields up (drop k up)
    → fields ≡ chosen names (with_inherited entries all up)
chosen_all names entries all fields up k end is = is.are ∙ ap (chosen names) (sym (ap (with_inherited entries is.gathered) (drop_all k up end)) ∙ is.same)
