-- What a session saved, when it is loaded. (dialect)
use Rattle.std.specs.Prelude.{◌≡◌}
use Rattle.history_spec.specs.Steps.{KeptSteps, IsSound}
use Rattle.bib_journal.specs.declared.fault.SessionFault.{SessionFault}
use Rattle.bib_journal.specs.declared.fault.SessionFault.TheVariants.{Memory}
use Rattle.bib_journal.specs.declared.saving.Saved.{Saved}
use Rattle.bib_journal.specs.Loading.{Loads, Saves}
use Rattle.bib_journal.specs.Session.{RefusesLoad}

-- What a session saves is loaded as what it kept, and refused for want of memory alone.
abbrev pub what_is_saved_is_loaded : Type 0
what_is_saved_is_loaded = (kept : KeptSteps) (saved : Saved) → IsSound kept → Saves kept saved →
    Loads saved.file saved.journal kept × ((fault : SessionFault) → RefusesLoad fault saved.file saved.journal → fault ≡ Memory)
