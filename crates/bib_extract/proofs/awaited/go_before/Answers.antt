use Rattle.std.proofs.Common.{List, ◌++◌, ◌∙◌, ap, subst}
use Rattle.std.specs.List.{flat_map}
use Rattle.bib_spec.specs.Texts.{values_of}
use Rattle.bib_scan.specs.View.{View, Field}
use Rattle.extract_spec.specs.Extract.{names_in}
use Rattle.bib_extract.specs.Awaited.{HasNames, GainsFrom}
use Rattle.bib_extract.proofs.NamesAwaited.{tree-gains, names-gained, names-before}
use Rattle.bib_extract.proofs.awaited.go_before.Goals as goal

pub returns : goal.returns
returns c i ns ok seen has =
    let gained = tree-gains i.tree c.args.names.now c.add_in_fields.new.names ok
    (subst (λ (fs : List Field). GainsFrom fs c.args.names.now c.add_in_fields.new.names) (c.fields.ensures.fields ∙ ap (λ (v : View). v.fields) seen) c.in_ok-add_in_fields.ensures) in
    subst (HasNames c.remove_defined.new.names) (names-before i.tree ns)
    (c.remove_defined.ensures i (flat_map names_in (values_of i.tree) ++ ns) seen (names-gained (flat_map names_in (values_of i.tree)) ns c.args.names.now c.add_in_fields.new.names has gained))
