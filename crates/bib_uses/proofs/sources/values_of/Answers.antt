use Rattle.std.proofs.Common.{List, [], ◌∷◌, ◌++◌, refl, sym, ◌∙◌, ap, subst, append-nil, append_assoc}
use Rattle.std.specs.Option.{option_copied}
use Rattle.bib_spec.specs.Text.{folded}
use Rattle.bib_scan.specs.View.{Field, field_seen}
use Rattle.bib_sayings.specs.FieldTables.{IsTableOf}
use Rattle.bib_uses.proofs.sources.values_of.Goals as goal

pub fields-init : goal.fields-init
fields-init c = ([], refl, λ name. ap option_copied (c.new-table.ensures (folded name)))

pub fields-preserved : goal.fields-preserved
fields-preserved c =
    let so_far = c.fields.invariant in (
      so_far.0 ++ field_seen c.in-Some.field ∷ [],
      so_far.1 ∙ ap (λ (l : List Field). so_far.0 ++ l) c.in-Some.ensures.steps ∙ sym (append_assoc so_far.0 (field_seen c.in-Some.field ∷ []) c.next.new.self),
      c.in_ok-add_value.ensures so_far.0 so_far.2,
    )

pub returns : goal.returns
returns c =
    let so_far = c.fields.invariant in
    subst (IsTableOf c.fields.table) (sym (so_far.1 ∙ ap (λ (l : List Field). so_far.0 ++ l) c.in_default.ensures.steps.0 ∙ append-nil so_far.0)) so_far.2
