-- Removing an entry and adding entries keep the lists of keys that cite none of them.
use Rattle.std.proofs.Common.{◌≡◌, ◌∙◌, ℕ, Bool, false, not, ◌||◌, List, [], ◌∷◌, length, refl, sym, ap₂, subst, subst₂}
use Rattle.std.specs.List.{list_any}
use Rattle.std.proofs.lemmas.Bool.{and_parts}
use Rattle.bib_spec.specs.Text.{Text, folded, same}
use Rattle.bib_spec.specs.Texts.{is_empty}
use Rattle.bib_spec.specs.Reading.{Reading}
use Rattle.bib_spec.specs.Records.{Record, EntryTexts, entries_of}
use Rattle.bib_spec.proofs.Names.{same-true, same_of}
use Rattle.edit_spec.specs.Edits.{AddEntry, RemoveEntry, AddMany, given_keys, edited}
use Rattle.edit_spec.specs.OtherLaws.{entries_before}
use Rattle.bibtex_laws.specs.OtherEntries.{CitesNone, ListTheSame, EditsKeepOtherLists}
use Rattle.bibtex_laws.proofs.OtherEntries.{other-entries-keep-lists}
use Rattle.bibtex_laws.proofs.StrangerEdits.{HasStrangers, add_entry_has, add_many_has, the_one, taken, remove_has}

keep_lists : (at : ℕ) (keys : List Text) (fewer more : List EntryTexts) → HasStrangers at keys fewer more → (cited : List Text) → CitesNone keys cited → ListTheSame fewer more cited
keep_lists at keys fewer more it cited none =
    subst₂ (λ (old new : List EntryTexts). ListTheSame old new cited) (sym it.0.fewer_are) (sym it.0.more_are)
    (other-entries-keep-lists it.0.first it.0.added it.0.last it.1.crossrefs cited (subst (λ (names : List Text). CitesNone names cited) (sym it.0.keys_are) none))

turned : (old new : List EntryTexts) (cited : List Text) → ListTheSame old new cited → ListTheSame new old cited
turned old new cited are = record { listed = λ least. sym (are.listed least); unknown = sym are.unknown }

-- a list that does not cite the key does not cite it in another case
recited : (key found : Text) (cited : List Text) → folded found ≡ folded key → CitesNone (key ∷ []) cited → CitesNone (found ∷ []) cited
recited key found cited is none = record { no_star = none.no_star; others = alike cited ∙ none.others }
  where
    alike : (keys : List Text) → list_any (λ k. same k found || false) keys ≡ list_any (λ k. same k key || false) keys
    alike [] = refl
    alike (k ∷ keys) = ap₂ (λ (b c : Bool). (b || false) || c) (same_of k found k key refl is) (alike keys)

pub edits-keep-other-lists : (key_base : Record → Text) (db : Reading) → EditsKeepOtherLists key_base db
edits-keep-other-lists key_base db = record {
  removed = λ key accepted cited none.
      let gone : Text = (taken key_base db key accepted).gone.key in
      let is : folded gone ≡ folded key = same-true gone key (and_parts (not (is_empty gone)) (same gone key) (taken key_base db key accepted).named).1 in
      turned (entries_of (edited key_base db (RemoveEntry key))) (entries_of db) cited
      (keep_lists (the_one key_base db key accepted).0 (gone ∷ []) (entries_of (edited key_base db (RemoveEntry key))) (entries_of db) (remove_has key_base db key accepted) cited (recited key gone cited is none));
  added = λ position new accepted unawaited cited none.
      keep_lists (entries_before position db) (given_keys (AddEntry position new)) (entries_of db) (entries_of (edited key_base db (AddEntry position new))) (add_entry_has key_base db position new accepted unawaited) cited none;
  added_many = λ news accepted unawaited cited none.
      keep_lists (length (entries_of db)) (given_keys (AddMany news)) (entries_of db) (entries_of (edited key_base db (AddMany news))) (add_many_has key_base db news accepted unawaited) cited none;
}
