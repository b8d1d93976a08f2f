-- Why a removal is refused, and that it is not.
use Rattle.std.proofs.Common.{false}
use Rattle.bib_edit.proofs.Words.{◌≡◌, ℕ, ◌<◌, [], ◌∷◌, refl, sym, ◌∙◌, arith, true≢false, both_ways, All-nil, name_limit, Text, IsValue, Reading, months, Opens, entries_of, RemoveEntry, BadKey, BadName, BadValue, BadPosition, NotFound, Ambiguous, KeyInUse, NameInUse, Referred, WouldMerge}
use Rattle.bib_edit.proofs.Words.{FileTooLong, TextTooLong, holders, is_entry, remove_entry, IsReferred, IsAccepted, IsFirstRefusal, pieces_of, made_base, IsRefusal, IsHeldAt, IsHolderFault, none_holds, many_hold, JoinsCleanly, removal_of}
use Rattle.bib_data.specs.declared.edit.Edit.TheVariants as asked
use Rattle.bib_edit.specs.declared.fault.EditFault.{EditFault as Fault}
use Rattle.bib_edit.proofs.PiecePlaces.{removal-pieces}
use Rattle.bib_edit.proofs.FoundItems.{held-at}
use Rattle.bib_edit.proofs.PieceLengths.{makes-no-longer}
use Rattle.bib_edit.proofs.OpenFiles.{none-long}
use Rattle.bib_edit.proofs.JoinedTexts.{joins-clean, clean-joins}
use Rattle.bib_edit.proofs.LongTexts.{any_long, too_long-any}
use Rattle.bib_edit.proofs.PlacedTexts.{removed-short}
use Rattle.bib_edit.specs.Numbers.{is_numbered}
use Rattle.bib_edit.proofs.AskedEdits.{of-remove_entry}
use Rattle.bib_edit.proofs.Ranks.{Passes, no_reason, more, is_first, all_clear}

module _ (key : Text) (db : Reading) where
  passes_given : Passes made_base db (RemoveEntry key) 4
  passes_given =
      more BadPosition (λ h. h) (more BadValue (λ h. h (All-nil (IsValue name_limit))) (more BadName (λ h. true≢false h) (more BadKey (λ h. true≢false h) no_reason)))

  pub remove-missing : holders key db ≡ 0 → IsFirstRefusal made_base db (RemoveEntry key) NotFound
  remove-missing none = is_first NotFound none passes_given

  pub remove-ambiguous : 1 < holders key db → IsFirstRefusal made_base db (RemoveEntry key) Ambiguous
  remove-ambiguous twice = is_first Ambiguous twice (more NotFound (λ none. omega (arith, none, twice)) passes_given)

  module _ (n : ℕ) (lone : IsHeldAt key db n) where
    passes_found : Passes made_base db (RemoveEntry key) 8
    passes_found = let once = lone.once in more NameInUse (λ h. h) (more KeyInUse (λ h. h) (more Ambiguous (λ twice. omega (arith, twice, once)) (more NotFound (λ none. omega (arith, none, once)) passes_given)))

    pub remove-pieces : pieces_of made_base db (RemoveEntry key) ≡ removal_of db n ∷ []
    remove-pieces = removal-pieces (is_entry key) db n (held-at key db n lone)

    pub remove-referred : IsReferred key (entries_of db) → IsFirstRefusal made_base db (RemoveEntry key) Referred
    remove-referred refers = is_first Referred refers passes_found

    module _ (unreferred : IsReferred key (entries_of db) → ⊥) where
      passes_unreferred : Passes made_base db (RemoveEntry key) 9
      passes_unreferred = more Referred unreferred passes_found

      pub remove-merges : (JoinsCleanly db n → ⊥) → IsFirstRefusal made_base db (RemoveEntry key) WouldMerge
      remove-merges unclean = is_first WouldMerge (λ clean. unclean (clean-joins (is_entry key) db n (held-at key db n lone) clean)) passes_unreferred

      pub remove-accepted : (file : Text) → Opens file db → JoinsCleanly db n → IsAccepted made_base db (RemoveEntry key)
      remove-accepted file opens joins = all_clear
          (more TextTooLong (λ long. both_ways (any_long months (remove_entry key db).items) (removed-short key months db.front db.items (none-long file db opens)) (sym (too_long-any (remove_entry key db)) ∙ long))
          (more FileTooLong (makes-no-longer (RemoveEntry key) file db opens.reads _ (sym remove-pieces) refl opens.short)
          (more WouldMerge (λ merges. merges (joins-clean (is_entry key) db n (held-at key db n lone) file opens.reads joins)) passes_unreferred)))

-- ---- as it is asked for

pub refused_address : (key file : Text) → is_numbered key ≡ false → (fault : Fault) → IsHolderFault file key fault → IsRefusal file (asked.RemoveEntry key) fault
refused_address key file plain fault (none_holds h) = λ db reads. of-remove_entry key plain (λ e. IsFirstRefusal made_base db e NotFound) (remove-missing key db (h db reads))
refused_address key file plain fault (many_hold h) = λ db reads. of-remove_entry key plain (λ e. IsFirstRefusal made_base db e Ambiguous) (remove-ambiguous key db (h db reads))
