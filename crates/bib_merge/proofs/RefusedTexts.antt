-- Why a merged text is refused, and that renamed files are not.
use Rattle.std.proofs.Common.{◌≡◌, ◌≢◌, ℕ, ◌≤◌, None, refl, subst, arith, inl, inr}
use Rattle.bib_spec.specs.Text.{Text}
use Rattle.bib_spec.specs.Texts.{IsOpenable}
use Rattle.bib_spec.specs.Fault.{ReadingFault, Unended, ExpectedName, ExpectedEquals, ExpectedCommaOrClose, ExpectedValue, UnbalancedBrace, KeyTooLong, fault_number, IsReadFault, too_long, no_reading, no_memory}
use Rattle.bib_store.specs.Readings.{IsOpenFault}
use Rattle.bib_journal.specs.OpenSteps.{idle}
use Rattle.bib_journal.specs.Session.{started}
use Rattle.bib_journal.proofs.SeveralRuns.{opened_is_sound, all_keep_sound}
use Rattle.bib_renames.specs.declared.following.Followed.{Followed}
use Rattle.bib_renames.specs.Renamed.{IsRenamed, IsFollowed}
use Rattle.bib_merge.specs.declared.fault.MergeFault.TheVariants.{TextTooLong, FileTooLong, WouldMerge}
use Rattle.bib_merge.specs.declared.fault.MergeFault.{MergeFault}
use Rattle.bib_merge.specs.Merges.{IsUnopened, IsOrMemory, AllDiffer, RefusesMergeOfFiles, IsThreeFault}

-- ---- reasons

-- a reason that follows from another
pub weaker : (P Q : MergeFault → Type 0) → ((fault : MergeFault) → P fault → Q fault) → (fault : MergeFault) → IsOrMemory P fault → IsOrMemory Q fault
weaker P Q weak fault (IsOrMemory.reason other p) = IsOrMemory.reason other (weak other p)
weaker P Q weak fault IsOrMemory.no_memory = IsOrMemory.no_memory

-- why three files that differ are not merged
pub three_fault : (base ours theirs : Text) → AllDiffer base ours theirs → (fault : MergeFault) → IsOrMemory (RefusesMergeOfFiles base ours theirs) fault → IsThreeFault base ours theirs fault
three_fault base ours theirs differ fault (IsOrMemory.reason other refuses) = IsThreeFault.changed other differ refuses
three_fault base ours theirs differ fault IsOrMemory.no_memory = IsThreeFault.no_memory

-- ---- faults by their numbers

low : (fault : ReadingFault) → fault_number fault ≤ 7
low Unended = omega arith
low ExpectedName = omega arith
low ExpectedEquals = omega arith
low ExpectedCommaOrClose = omega arith
low ExpectedValue = omega arith
low UnbalancedBrace = omega arith
low KeyTooLong = omega arith

pub fault_8 : (text : Text) (kind place : ℕ) → kind ≡ 8 → IsOpenFault text kind place → IsUnopened text TextTooLong
fault_8 text kind place is (inl fault) = of_read kind place is fault
  where
    of_read : (k at : ℕ) → k ≡ 8 → IsReadFault text k at → IsUnopened text TextTooLong
    of_read k at eight (too_long over) = absurd (omega (arith, eight))
    of_read k at eight (no_reading fault place within failing wrong) = let few = low fault in absurd (omega (arith, few, eight))
    of_read k at eight (no_memory within) = absurd (omega (arith, eight))
fault_8 text kind place is (inr fault) = IsUnopened.raw_too_long fault.db fault.reads place fault.first

pub fault_9 : (text : Text) (kind place : ℕ) → kind ≡ 9 → IsOpenFault text kind place → IsUnopened text FileTooLong
fault_9 text kind place is (inl fault) = of_read kind place is fault
  where
    of_read : (k at : ℕ) → k ≡ 9 → IsReadFault text k at → IsUnopened text FileTooLong
    of_read k at nine (too_long over) = IsUnopened.too_long over
    of_read k at nine (no_reading fault place within failing wrong) = let few = low fault in absurd (omega (arith, few, nine))
    of_read k at nine (no_memory within) = absurd (omega (arith, nine))
fault_9 text kind place is (inr fault) = let eight = fault.number in absurd (omega (arith, is, eight))

pub other_fault : (text : Text) (kind place : ℕ) → kind ≢ 8 → kind ≢ 9 → kind ≢ 10 → IsOpenFault text kind place → IsUnopened text WouldMerge
other_fault text kind place not_8 not_9 not_10 (inl fault) = of_read kind place not_9 not_10 fault
  where
    of_read : (k at : ℕ) → k ≢ 9 → k ≢ 10 → IsReadFault text k at → IsUnopened text WouldMerge
    of_read k at not_nine not_ten (too_long over) = absurd (not_nine refl)
    of_read k at not_nine not_ten (no_reading fault place within failing wrong) = IsUnopened.no_file (λ rm reads. failing.fails (rm, reads))
    of_read k at not_nine not_ten (no_memory within) = absurd (not_ten refl)
other_fault text kind place not_8 not_9 not_10 (inr fault) = absurd (not_8 fault.number)

-- ---- renamed files

-- what renamings make of a file that can be opened can be opened
renamed_opens : (side base old new : Text) → IsOpenable old → IsRenamed side base old new → IsOpenable new
renamed_opens side base old new opens is =
    subst IsOpenable is.text (all_keep_sound is.renamed.renames (idle (started old)) is.state (opened_is_sound old None (started old) (opens, refl), tt) is.renamed.did).0.present

pub base_opens : (base ours theirs : Text) (files : Followed) → IsOpenable base → IsFollowed base ours theirs files → IsOpenable files.base
base_opens base ours theirs files opens is =
    renamed_opens theirs base is.names.between files.base (renamed_opens ours base base is.names.between opens is.names.ours_in_base) is.names.theirs_in_base

pub ours_opens : (base ours theirs : Text) (files : Followed) → IsOpenable ours → IsFollowed base ours theirs files → IsOpenable files.ours
ours_opens base ours theirs files opens is = renamed_opens theirs base ours files.ours opens is.names.theirs_in_ours

pub theirs_opens : (base ours theirs : Text) (files : Followed) → IsOpenable theirs → IsFollowed base ours theirs files → IsOpenable files.theirs
theirs_opens base ours theirs files opens is = renamed_opens ours base theirs files.theirs opens is.names.ours_in_theirs
