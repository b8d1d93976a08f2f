-- What the text of a merge is, and why there is none.
use Rattle.std.specs.Prelude.{ℕ, ◌≡◌, ◌≢◌, ◌<◌, true, List, [], length, map, Some}
use Rattle.bib_spec.specs.Bytes.{file_limit}
use Rattle.bib_spec.specs.Text.{Text, folded}
use Rattle.bib_spec.specs.Reading.{Reading, Reads, bytes_of}
use Rattle.bib_spec.specs.Texts.{Opens, IsOpenable, too_long_at}
use Rattle.bib_spec.specs.Records.{entries_of}
use Rattle.bib_scan.specs.declared.fault.ReadFault.{ReadFault}
use Rattle.bib_store.specs.Readings.{IsOpenFault}
use Rattle.merge_spec.specs.Units.{Label, EntryLabel, MacroLabel, units_of}
use Rattle.merge_spec.specs.Merged.{Place, merged_bytes, is_merge}
use Rattle.merge_spec.specs.Parents.{lost_keys}
use Rattle.merge_spec.specs.Conflicts.{Conflict, conflicts_of}
use Rattle.bib_renames.specs.declared.conflict.KeyConflict.{KeyConflict}
use Rattle.bib_renames.specs.declared.given.GivenName.{GivenName}
use Rattle.bib_renames.specs.declared.rename.Named.{Named}
use Rattle.bib_renames.specs.declared.rename.Named.TheVariants as named
use Rattle.bib_renames.specs.Renamed.{FollowNames, AreKeyConflicts, AreGiven}
use Rattle.bib_uses.specs.Lost.{lost_uses}
use Rattle.bib_uses.specs.declared.losing.LostUse.{LostUse}
use Rattle.bib_places.specs.declared.place.File.{File}
use Rattle.bib_places.specs.declared.place.File.TheVariants as file
use Rattle.bib_merge.specs.Bodies.{bodies_of, merged_bodies}
use Rattle.bib_merge.specs.declared.unchanged.Alike.{Alike}
use Rattle.bib_merge.specs.declared.unchanged.Alike.TheVariants as alike
use Rattle.bib_merge.specs.declared.fault.MergeFault.{MergeFault}
use Rattle.bib_merge.specs.declared.fault.MergeFault.TheVariants.{Base, Ours, Theirs, Memory, TextTooLong, FileTooLong, WouldMerge}

-- the label of an entry or a definition with this name
abbrev pub label_named : Named → Text → Label
label_named named.Entry name = EntryLabel (folded name)
label_named named.Macro name = MacroLabel (folded name)

-- the label of what got this name
abbrev pub label_given : GivenName → Label
label_given given = label_named given.what given.name

-- The merged file is that of places that are a merge of the three files, in which the sides gave units these labels: it has their bytes,
-- and its items are those that the places have, in order, with the same bodies. These are its conflicts.
pub record IsMergeOf (given : List Label) (base ours theirs merged : Reading) (conflicts : List Conflict) : Type 0 where
  pub places : List Place
  pub space : Text
  pub merge : is_merge given (units_of base) (units_of ours) (units_of theirs) places ≡ true
  pub bytes : merged_bytes (units_of ours) (units_of theirs) space places ≡ bytes_of merged
  pub items : merged_bodies (units_of ours) (units_of theirs) places ≡ bodies_of merged
  pub told : conflicts_of (units_of base) (units_of ours) (units_of theirs) places ≡ conflicts

-- The text, its conflicts, the keys of the entries that have lost their parents, and the uses of macros that have lost their meaning
-- are those of a merge of three files, in which the sides gave units these labels. Each of the files can be opened, and so can the text.
pub record IsMergeOfThree (given : List Label) (base ours theirs text : Text) (conflicts : List Conflict) (lost : List Text) (uses : List LostUse) : Type 0 where
  pub rb : Reading
  pub ro : Reading
  pub rt : Reading
  pub rm : Reading
  pub base_opens : Opens base rb
  pub ours_opens : Opens ours ro
  pub theirs_opens : Opens theirs rt
  pub text_opens : Opens text rm
  pub merge : IsMergeOf given rb ro rt rm conflicts
  pub lose : lost ≡ lost_keys (entries_of ro) (entries_of rt) (entries_of rm)
  pub change : uses ≡ lost_uses ro rt rm

-- the text is this file, and there is no conflict
pub record IsFile (file text : Text) (conflicts : List Conflict) : Type 0 where
  pub text_is : text ≡ file
  pub none : conflicts ≡ []

-- If one side left the common file as it was, byte for byte, the text is the file of the other side. If both sides have the same file,
-- the text is that file.
pub record LeavesTheOther (base ours theirs text : Text) (conflicts : List Conflict) : Type 0 where
  pub ours_left : ours ≡ base → IsFile theirs text conflicts
  pub theirs_left : theirs ≡ base → IsFile ours text conflicts
  pub same : ours ≡ theirs → IsFile ours text conflicts

-- each of the three files differs from the others
pub record AllDiffer (base ours theirs : Text) : Type 0 where
  pub ours_changed : ours ≢ base
  pub theirs_changed : theirs ≢ base
  pub differ : ours ≢ theirs

-- the three files are alike in this way
abbrev pub IsAlike : Alike → Text → Text → Text → Type 0
IsAlike alike.OursLeft base ours theirs = ours ≡ base
IsAlike alike.TheirsLeft base ours theirs = theirs ≡ base
IsAlike alike.SidesSame base ours theirs = ours ≡ theirs
IsAlike alike.NoneSame base ours theirs = AllDiffer base ours theirs

-- The same of three files after renamings of entries and macros, by which each follows the names that the sides gave. These are keys
-- over which the sides are in conflict, and what one side named and the other took away has these names.
pub record IsMergeOfFiles (base ours theirs text : Text) (keys : List KeyConflict) (conflicts : List Conflict) (lost : List Text) (uses : List LostUse) : Type 0 where
  pub base_file : Text
  pub ours_file : Text
  pub theirs_file : Text
  pub names : FollowNames base ours theirs base_file ours_file theirs_file
  pub given : List GivenName
  pub named : AreGiven base ours theirs given
  pub merge : IsMergeOfThree (map label_given given) base_file ours_file theirs_file text conflicts lost uses
  pub told : AreKeyConflicts base ours theirs keys

-- the fault of a file that cannot be opened for this reason
abbrev pub fault_in : File → ReadFault → MergeFault
fault_in file.Base fault = Base fault
fault_in file.Ours fault = Ours fault
fault_in file.Theirs fault = Theirs fault

-- this file, which has these bytes, cannot be opened, and this is why
pub data IsOpeningFault (which : File) (bytes : Text) : MergeFault → Type 0 where
  unopened : (fault : ReadFault) → fault.kind ≢ 10 → IsOpenFault bytes fault.kind fault.place → IsOpeningFault which bytes (fault_in which fault)
  no_memory : IsOpeningFault which bytes Memory

-- ---- why files that can be opened are not merged

-- The text is no file that opens: it is too long; or it has no reading; or a raw text of it is too long.
pub data IsUnopened (text : Text) : MergeFault → Type 0 where
  too_long : file_limit < length text → IsUnopened text FileTooLong
  no_file : ((rm : Reading) → ¬ Reads text rm) → IsUnopened text WouldMerge
  raw_too_long : (rm : Reading) → Reads text rm → (place : ℕ) → too_long_at rm ≡ Some place → IsUnopened text TextTooLong

-- The text is no file that opens; or it is one, and its items are not those that these places have, since texts of both sides were
-- joined.
pub data RefusesText (ours theirs : Reading) (places : List Place) (text : Text) : MergeFault → Type 0 where
  unopened : (fault : MergeFault) → IsUnopened text fault → RefusesText ours theirs places text fault
  other_items : (rm : Reading) → Reads text rm → merged_bodies (units_of ours) (units_of theirs) places ≢ bodies_of rm → RefusesText ours theirs places text WouldMerge

-- Places are a merge of the three files, in which the sides gave units these labels, and their text is refused.
pub record RefusesMerge (given : List Label) (base ours theirs : Reading) (fault : MergeFault) : Type 0 where
  pub places : List Place
  pub space : Text
  pub merge : is_merge given (units_of base) (units_of ours) (units_of theirs) places ≡ true
  pub text : Text
  pub bytes : merged_bytes (units_of ours) (units_of theirs) space places ≡ text
  pub refused : RefusesText ours theirs places text fault

-- the same by the bytes of the three files, each of which can be opened
pub record RefusesMergeOfThree (given : List Label) (base ours theirs : Text) (fault : MergeFault) : Type 0 where
  pub rb : Reading
  pub ro : Reading
  pub rt : Reading
  pub base_opens : Opens base rb
  pub ours_opens : Opens ours ro
  pub theirs_opens : Opens theirs rt
  pub refused : RefusesMerge given rb ro rt fault

-- the same of three files after renamings of entries and macros, by which each follows the names that the sides gave
pub record RefusesMergeOfFiles (base ours theirs : Text) (fault : MergeFault) : Type 0 where
  pub base_file : Text
  pub ours_file : Text
  pub theirs_file : Text
  pub names : FollowNames base ours theirs base_file ours_file theirs_file
  pub given : List GivenName
  pub named : AreGiven base ours theirs given
  pub refused : RefusesMergeOfThree (map label_given given) base_file ours_file theirs_file fault

-- the fault has such a reason, or memory ran out
pub data IsOrMemory (IsReason : MergeFault → Type 0) : MergeFault → Type 0 where
  reason : (fault : MergeFault) → IsReason fault → IsOrMemory IsReason fault
  no_memory : IsOrMemory IsReason Memory

-- why three files that can be opened are not merged; if a side changed nothing, or both made the same, only memory may run out
pub data IsThreeFault (base ours theirs : Text) : MergeFault → Type 0 where
  changed : (fault : MergeFault) → AllDiffer base ours theirs → RefusesMergeOfFiles base ours theirs fault → IsThreeFault base ours theirs fault
  no_memory : IsThreeFault base ours theirs Memory

-- why there is no merge of three files: the first of them that cannot be opened is at fault, or all can be opened
pub data IsMergeFault (base ours theirs : Text) (fault : MergeFault) : Type 0 where
  in_base : IsOpeningFault file.Base base fault → IsMergeFault base ours theirs fault
  in_ours : IsOpenable base → IsOpeningFault file.Ours ours fault → IsMergeFault base ours theirs fault
  in_theirs : IsOpenable base → IsOpenable ours → IsOpeningFault file.Theirs theirs fault → IsMergeFault base ours theirs fault
  in_merged : IsOpenable base → IsOpenable ours → IsOpenable theirs → IsThreeFault base ours theirs fault → IsMergeFault base ours theirs fault
