use Rattle.std.proofs.Common.{List, refl, sym, subst}
use Rattle.bib_scan.specs.View.{Field}
use Rattle.bib_extract.specs.Awaited.{GainsFrom, HaveValues}
use Rattle.bib_extract.proofs.awaited.add_in_fields.Goals as goal

pub fields-init : goal.fields-init
fields-init c = (c.requires, λ new gains. gains)

pub add_in_value-requires : goal.add_in_value-requires
add_in_value-requires c = (subst HaveValues c.in-Some.ensures.steps c.fields.invariant.0).0

pub fields-preserved : goal.fields-preserved
fields-preserved c = (
  (subst HaveValues c.in-Some.ensures.steps c.fields.invariant.0).1,
  λ new gains. c.fields.invariant.1 new
      (subst (λ (fs : List Field). GainsFrom fs c.fields.names new) (sym c.in-Some.ensures.steps) (c.add_in_value.new.names, c.in_ok-add_in_value.ensures, gains)),
)

pub returns : goal.returns
returns c = c.fields.invariant.1 c.fields.names (subst (λ (fs : List Field). GainsFrom fs c.fields.names c.fields.names) (sym c.in_default.ensures.steps.0) refl)
