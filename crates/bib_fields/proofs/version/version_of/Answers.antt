use Rattle.std.proofs.Common.{sym, ◌∙◌, ap}
use Rattle.bib_scan.specs.View.{View}
use Rattle.bib_definitions.specs.MacrosSeen.{macros_seen}
use Rattle.bib_fields.proofs.VersionsRead.{entry-item}
use Rattle.bib_fields.proofs.version.version_of.Goals as goal

pub returns-in_ok-version-in-Entry : goal.returns-in_ok-version-in-Entry
returns-in_ok-version-in-Entry c i is seen =
    entry-item i c.args.item.now (macros_seen c.args.macros) c.in_ok-version-in-Entry.version is seen (sym (ap (λ (v : View). v.kind) seen) ∙ sym c.kind.ensures ∙ c.in-Entry.is) c.in_ok-version-in-Entry.ensures
