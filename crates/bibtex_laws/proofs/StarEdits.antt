-- Removing an entry and adding entries change no other record of the list for `*` alone.
use Rattle.std.proofs.Common.{ℕ, List, [], ◌∷◌, length, sym, subst₂}
use Rattle.bib_spec.specs.Text.{Text}
use Rattle.bib_spec.specs.Reading.{Reading}
use Rattle.bib_spec.specs.Records.{Record, EntryTexts, entries_of}
use Rattle.edit_spec.specs.Edits.{AddEntry, RemoveEntry, AddMany, given_keys, edited}
use Rattle.edit_spec.specs.OtherLaws.{entries_before}
use Rattle.bibtex_laws.specs.StarLists.{star_list, GainsRecords, GainsEntries, EditsGainOrLose}
use Rattle.bibtex_laws.proofs.StarLists.{star-gains-strangers}
use Rattle.bibtex_laws.proofs.StrangerEdits.{HasStrangers, add_entry_has, add_many_has, the_one, taken, remove_has}

gains_entries : (at : ℕ) (keys : List Text) (fewer more : Reading) → HasStrangers at keys (entries_of fewer) (entries_of more) → GainsEntries at keys fewer more
gains_entries at keys fewer more it = record {
  first = it.0.first;
  added = it.0.added;
  last = it.0.last;
  place = it.0.place;
  fewer_are = it.0.fewer_are;
  more_are = it.0.more_are;
  keys_are = it.0.keys_are;
  lists = λ least. subst₂ (λ (old new : List EntryTexts). GainsRecords it.0.first it.0.added least (star_list old least) (star_list new least)) (sym it.0.fewer_are) (sym it.0.more_are)
      (star-gains-strangers it.0.first it.0.added it.0.last it.1 least);
}

pub edits-gain-or-lose : (key_base : Record → Text) (db : Reading) → EditsGainOrLose key_base db
edits-gain-or-lose key_base db = record {
  removed = λ key accepted. (
    (the_one key_base db key accepted).0,
    (the_one key_base db key accepted).1,
    (taken key_base db key accepted).gone.key,
    (taken key_base db key accepted).named,
    gains_entries (the_one key_base db key accepted).0 ((taken key_base db key accepted).gone.key ∷ []) (edited key_base db (RemoveEntry key)) db (remove_has key_base db key accepted),
  );
  added = λ position new accepted unawaited.
      gains_entries (entries_before position db) (given_keys (AddEntry position new)) db (edited key_base db (AddEntry position new)) (add_entry_has key_base db position new accepted unawaited);
  added_many = λ news accepted unawaited.
      gains_entries (length (entries_of db)) (given_keys (AddMany news)) db (edited key_base db (AddMany news)) (add_many_has key_base db news accepted unawaited);
}
