-- Which requests lead from one file to another, and why none are given.
use Rattle.std.specs.Prelude.{◌≢◌, List}
use Rattle.bib_spec.specs.Text.{Text}
use Rattle.bib_spec.specs.Texts.{IsOpenable}
use Rattle.bib_store.specs.Readings.{IsOpenFault}
use Rattle.bib_data.specs.declared.request.Request.{Request}
use Rattle.bib_journal.specs.OpenSteps.{SessionState, idle}
use Rattle.bib_journal.specs.Session.{started, DoesAll}
use Rattle.diff_spec.specs.Agreement.{FilesAgree}
use Rattle.bib_diff.specs.declared.fault.DiffFault.{DiffFault}
use Rattle.bib_diff.specs.declared.fault.DiffFault.TheVariants.{Old, New, NoScript, Memory}

-- A session of the old file accepts the requests one after another, and the file that it then has agrees with the new one.
pub record LeadTo (requests : List Request) (old new : Text) : Type 0 where
  pub state : SessionState
  pub did : DoesAll requests (idle (started old)) state
  pub agree : FilesAgree state.steps.present new

-- both files can be opened, and the requests lead from the old to the new
pub record Leads (requests : List Request) (old new : Text) : Type 0 where
  pub old_opens : IsOpenable old
  pub new_opens : IsOpenable new
  pub leads : LeadTo requests old new

-- Why no requests are given: the old file can't be opened; or the new one can't; or none were found, where both can be opened and do
-- not agree as they are. Memory may be refused at any time.
abbrev pub RefusesDiff : DiffFault → Text → Text → Type 0
RefusesDiff (Old fault) old new = (fault.kind ≢ 10) × IsOpenFault old fault.kind fault.place
RefusesDiff (New fault) old new = IsOpenable old × (fault.kind ≢ 10) × IsOpenFault new fault.kind fault.place
RefusesDiff (NoScript key) old new = IsOpenable old × IsOpenable new × (FilesAgree old new → ⊥)
RefusesDiff Memory old new = Unit {0}
