-- Why the removal of one entry among several is refused, and that it is not.
use Rattle.bib_edit.proofs.Words.{◌≡◌, ◌||◌, ℕ, true, false, [], ◌∷◌, Some, None, is_some, refl, sym, ◌∙◌, ap, subst, true≢false, both_ways, All-nil, name_limit, Text, EntryTree, IsValue, Reading, months, too_long_at, Opens, entries_of, BadKey, BadName, BadValue, BadPosition, NotFound, Ambiguous, KeyInUse, NameInUse, Referred, WouldMerge}
use Rattle.bib_edit.proofs.Words.{FileTooLong, TextTooLong, holders, IsAccepted, IsFirstRefusal, pieces_of, made_base, JoinsCleanly, removal_of, kept_items}
use Rattle.std.specs.Option.{option_map_or}
use Rattle.edit_spec.specs.Edits as edits
use Rattle.edit_spec.specs.Edits.{Which, ChangeEntry, Removes, item_meant, is_unclear, entry_changed, change_entry, without_item, HasCleanTexts}
use Rattle.edit_spec.specs.EditChunks.{entry_chunked}
use Rattle.bib_spec.specs.Pieces.{Kept, pieces_of_chunks}
use Rattle.bib_edit.proofs.PieceLengths.{makes-no-longer}
use Rattle.bib_edit.proofs.OpenFiles.{none-long}
use Rattle.bib_edit.proofs.LongTexts.{any_long, too_long-any}
use Rattle.bib_edit.proofs.MeantItems.{item_at, removal-pieces_at, joins-clean_at, clean-joins_at, removed-short_at}
use Rattle.bib_edit.proofs.MeantTexts.{IsMeantEntry, meant-entry, meant-missing, lacks-is, repeats-is}
use Rattle.bib_edit.specs.declared.numbers.Which.{Which as Meant}
use Rattle.bib_edit.specs.declared.fault.EditFault.{EditFault as Fault}
use Rattle.bib_edit.specs.Numbers.{which_seen}
use Rattle.bib_edit.specs.OneOfSeveral.{IsRefusalFor, IsMeantFault, none_meant, unclear, change}
use Rattle.bib_edit.proofs.Ranks.{Passes, no_reason, more, is_first, all_clear}

module _ (key : Which) (db : Reading) where
  abbrev removal : edits.Edit
  removal = ChangeEntry key Removes

  passes_given : Passes made_base db removal 4
  passes_given =
      more BadPosition (λ h. h) (more BadValue (λ h. h (All-nil (IsValue name_limit))) (more BadName (λ h. true≢false h) (more BadKey (λ h. true≢false h) no_reason)))

  pub remove-one-missing : item_meant key db.items ≡ None → IsFirstRefusal made_base db removal NotFound
  remove-one-missing none = is_first NotFound (meant-missing made_base key Removes db none) passes_given

  module _ (n : ℕ) (found : item_meant key db.items ≡ Some n) where
    it : IsMeantEntry key db n
    it = meant-entry key db n found

    passes_there : Passes made_base db removal 5
    passes_there = more NotFound (λ none. true≢false (sym none ∙ lacks-is made_base key Removes db n it)) passes_given

    pub remove-one-unclear : is_unclear key (holders key.name db) ≡ true → IsFirstRefusal made_base db removal Ambiguous
    remove-one-unclear two = is_first Ambiguous (repeats-is made_base key Removes db n it ∙ ap (λ b. b || false) two) passes_there

    module _ (clear : is_unclear key (holders key.name db) ≡ false) where
      passes_found : Passes made_base db removal 8
      passes_found = more NameInUse (λ h. h) (more KeyInUse (λ h. h)
          (more Ambiguous (λ two. true≢false (sym two ∙ repeats-is made_base key Removes db n it ∙ ap (λ b. b || false) clear)) passes_there))

      abbrev new : Reading
      new = without_item n db.front db.items

      made : change_entry key Removes db ≡ new
      made = ap (λ o. option_map_or (λ n. entry_changed key Removes n db) o db) found

      pub remove-one-pieces : pieces_of made_base db removal ≡ removal_of db n ∷ []
      remove-one-pieces = ap (λ o. pieces_of_chunks (Kept db.front ∷ option_map_or (entry_chunked key Removes db) o (kept_items db.items))) found
          ∙ removal-pieces_at db n (item_at (EntryTree it.entry) it.trail) it.at

      pub remove-one-referred_by : edits.IsParentMeant key (entries_of db) → IsFirstRefusal made_base db removal Referred
      remove-one-referred_by refers = is_first Referred refers passes_found

      module _ (unreferred : edits.IsParentMeant key (entries_of db) → ⊥) where
        passes_unreferred : Passes made_base db removal 9
        passes_unreferred = more Referred unreferred passes_found

        pub remove-one-merges : (JoinsCleanly db n → ⊥) → IsFirstRefusal made_base db removal WouldMerge
        remove-one-merges unclean = is_first WouldMerge (λ clean. unclean (clean-joins_at db n (item_at (EntryTree it.entry) it.trail) it.at (subst HasCleanTexts made clean))) passes_unreferred

        pub remove-one-accepted : (file : Text) → Opens file db → JoinsCleanly db n → IsAccepted made_base db removal
        remove-one-accepted file opens joins = all_clear
            (more TextTooLong (λ long. both_ways (any_long months new.items)
            (removed-short_at months key.name n db.front db.items (item_at (EntryTree it.entry) it.trail) it.at it.named (none-long file db opens)) (sym (too_long-any new) ∙ sym (ap (λ (r : Reading). is_some (too_long_at r)) made) ∙ long))
            (more FileTooLong (makes-no-longer removal file db opens.reads _ (sym remove-one-pieces) refl opens.short)
            (more WouldMerge (λ merges. merges (subst HasCleanTexts (sym made) (joins-clean_at db n (item_at (EntryTree it.entry) it.trail) it.at file opens.reads joins))) passes_unreferred)))

-- ---- as it is planned

pub refused_one_address : (file : Text) (key : Meant) (fault : Fault) → IsMeantFault file key fault → IsRefusalFor (change key Removes) file fault
refused_one_address file key fault (none_meant none) = λ db reads. remove-one-missing (which_seen key) db (none db reads)
refused_one_address file key fault (unclear there two) = λ db reads. let it = there db reads in remove-one-unclear (which_seen key) db it.0 it.1 (two db reads)
