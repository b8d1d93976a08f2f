use Rattle.std.proofs.Common.{subst}
use Rattle.bib_spec.specs.Bytes.{name_limit}
use Rattle.bib_spec.specs.Tree.{IsPart}
use Rattle.bib_scan.specs.declared.value.Part.{Part}
use Rattle.bib_scan.specs.PartView.{part_view}
use Rattle.bib_scan.proofs.PartLaws.{name_parts}
use Rattle.bib_extract.proofs.awaited.add_name.Goals as goal

pub insert-requires : goal.insert-requires
insert-requires c = let parts = name_parts name_limit c.in-Macro.name.now (subst (λ (p : Part). IsPart name_limit (part_view p)) c.in-Macro.is c.requires) in parts.short
