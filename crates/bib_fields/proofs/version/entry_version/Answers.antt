use Rattle.std.proofs.Common.{◌∙◌, ap, subst}
use Rattle.bib_scan.specs.View.{View}
use Rattle.bib_definitions.specs.MacrosSeen.{macros_seen}
use Rattle.bib_sayings.specs.FieldTables.{IsTableFound}
use Rattle.bib_fields.proofs.VersionsRead.{seen-fields, twice, once}
use Rattle.bib_fields.proofs.version.entry_version.Goals as goal

pub returns-in_default : goal.returns-in_default
returns-in_default c e trail is seen =
    twice e (macros_seen c.args.macros) c.fields.result c.in_ok-table.field-0 is (seen-fields c.args.item.now c.fields.result e trail c.fields.ensures.fields seen) c.in_default.is c.in_ok-table.ensures

pub returns : goal.returns
returns c e trail is seen =
    once e _ c.fields.result is (c.type_name.ensures ∙ ap (λ (v : View). v.type_name) seen) (c.in_ok-all.ensures ∙ seen-fields c.args.item.now c.fields-2.result e trail c.fields-2.ensures.fields seen)
    (seen-fields c.args.item.now c.fields.result e trail c.fields.ensures.fields seen) (subst (λ o. IsTableFound o c.fields.result) c.in-Some.is c.in_ok-table.ensures)
