-- Why a new key of one entry among several is refused, and that it is not.
use Rattle.bib_edit.proofs.Words.{◌≡◌, ◌≤◌, ◌<◌, ◌+◌, ◌&&◌, ◌||◌, ℕ, true, false, List, Option, Some, None, is_some, length, list_any, sym, ◌∙◌, ap, subst, cond_some, none-some, true≢false, false≢true, All-nil, name_limit, file_limit, Text, same, is_new_key, IsValue, Reading, Reads, Opens, too_long_at}
use Rattle.bib_edit.proofs.Words.{◌==◌, Bool, entries_of, keys_of, BadKey, BadName, BadValue, BadPosition, NotFound, Ambiguous, KeyInUse, NameInUse, Referred, WouldMerge, FileTooLong, TextTooLong, Piece, holders, key_for, with_keys, IsAccepted, IsFirstRefusal, edited, pieces_of, made_base, new_key-length, is_awaited, olds_len, news_len}
use Rattle.std.specs.Option.{option_map_or}
use Rattle.edit_spec.specs.Edits as edits
use Rattle.edit_spec.specs.Edits.{Which, ChangeEntry, RenamesKey, item_meant, entry_meant, is_unclear, entry_changed}
use Rattle.bib_edit.proofs.PieceLengths.{makes-long, makes-short}
use Rattle.bib_edit.proofs.RekeyedTexts.{AreShort, too_long-rekeyed}
use Rattle.bib_edit.proofs.MeantTexts.{IsMeantEntry, meant-entry, meant-missing, lacks-is, repeats-is}
use Rattle.bib_edit.specs.declared.numbers.Which.{Which as Meant}
use Rattle.bib_edit.specs.declared.fault.EditFault.{EditFault as Fault}
use Rattle.bib_edit.specs.Numbers.{which_seen}
use Rattle.bib_edit.specs.OneOfSeveral.{IsRefusalFor, IsMeantFault, none_meant, unclear, change}
use Rattle.bib_edit.proofs.Ranks.{Passes, no_reason, more, is_first, all_clear}

-- another entry has the key, or a crossref waits for it
abbrev pub is_taken : Text → Reading → Bool
is_taken to db = list_any (same to) (keys_of (entries_of db)) || is_awaited to (entries_of db)

new_short : (o : Option ℕ) (to : Text) → is_new_key to ≡ true → AreShort (key_for o to)
new_short None to is k key e = absurd (none-some key e)
new_short (Some n) to is k key e = subst (λ (t : Text). length t ≤ name_limit) (cond_some (n == k) to key e).1 (new_key-length to is)

module _ (key : Which) (to : Text) (db : Reading) where
  abbrev rekeyed : edits.Edit
  rekeyed = ChangeEntry key (RenamesKey to)

  pub rekey-one-bad : is_new_key to ≡ false → IsFirstRefusal made_base db rekeyed BadKey
  rekey-one-bad bad = is_first BadKey (ap (λ b. b && true) bad) no_reason

  module _ (is : is_new_key to ≡ true) where
    passes_given : Passes made_base db rekeyed 4
    passes_given =
        more BadPosition (λ h. h) (more BadValue (λ h. h (All-nil (IsValue name_limit))) (more BadName (λ h. true≢false h)
        (more BadKey (λ h. true≢false (sym (ap (λ b. b && true) is) ∙ h)) no_reason)))

    pub rekey-one-missing : item_meant key db.items ≡ None → IsFirstRefusal made_base db rekeyed NotFound
    rekey-one-missing none = is_first NotFound (meant-missing made_base key (RenamesKey to) db none) passes_given

    module _ (n : ℕ) (found : item_meant key db.items ≡ Some n) where
      it : IsMeantEntry key db n
      it = meant-entry key db n found

      passes_there : Passes made_base db rekeyed 5
      passes_there = more NotFound (λ none. true≢false (sym none ∙ lacks-is made_base key (RenamesKey to) db n it)) passes_given

      pub rekey-one-unclear : is_unclear key (holders key.name db) ≡ true → IsFirstRefusal made_base db rekeyed Ambiguous
      rekey-one-unclear two = is_first Ambiguous (repeats-is made_base key (RenamesKey to) db n it ∙ ap (λ b. b || false) two) passes_there

      module _ (clear : is_unclear key (holders key.name db) ≡ false) where
        passes_found : Passes made_base db rekeyed 6
        passes_found = more Ambiguous (λ two. true≢false (sym two ∙ repeats-is made_base key (RenamesKey to) db n it ∙ ap (λ b. b || false) clear)) passes_there

        pub rekey-one-taken : is_taken to db ≡ true → IsFirstRefusal made_base db rekeyed KeyInUse
        rekey-one-taken taken = is_first KeyInUse taken passes_found

        module _ (free : is_taken to db ≡ false) (file : Text) (ps : List Piece) (are : ps ≡ pieces_of made_base db rekeyed) where
          passes_free : Passes made_base db rekeyed 10
          passes_free = more WouldMerge (λ h. h) (more Referred (λ h. h) (more NameInUse (λ h. h) (more KeyInUse (λ taken. false≢true (sym free ∙ taken)) passes_found)))

          pub rekey-one-long : Reads file db → file_limit + olds_len ps < length file + news_len ps → IsFirstRefusal made_base db rekeyed FileTooLong
          rekey-one-long reads over = is_first FileTooLong (makes-long rekeyed file db reads ps are over) passes_free

          made : edited made_base db rekeyed ≡ with_keys (key_for (entry_meant key (entries_of db)) to) db
          made = ap (λ o. option_map_or (λ n. entry_changed key (RenamesKey to) n db) o db) found

          pub rekey-one-accepted : Opens file db → length file + news_len ps ≤ file_limit + olds_len ps → IsAccepted made_base db rekeyed
          rekey-one-accepted opens short = all_clear
              (more TextTooLong
              (λ long. false≢true (sym (too_long-rekeyed (key_for (entry_meant key (entries_of db)) to) db (new_short (entry_meant key (entries_of db)) to is) opens.texts)
              ∙ sym (ap (λ (r : Reading). is_some (too_long_at r)) made) ∙ long))
              (more FileTooLong (makes-short rekeyed file db opens.reads ps are short) passes_free))

-- ---- as it is planned

pub refused_one_key : (file : Text) (key : Meant) (to : Text) (fault : Fault) → is_new_key to ≡ true → IsMeantFault file key fault → IsRefusalFor (change key (RenamesKey to)) file fault
refused_one_key file key to fault is (none_meant none) = λ db reads. rekey-one-missing (which_seen key) to db is (none db reads)
refused_one_key file key to fault is (unclear there two) = λ db reads. let it = there db reads in rekey-one-unclear (which_seen key) to db is it.0 it.1 (two db reads)
