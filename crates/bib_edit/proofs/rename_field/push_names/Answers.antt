use Rattle.bib_edit.proofs.Words.{◌++◌, List, refl, sym, ◌∙◌, ap, subst, append-nil, Field, field_seen, tokens_seen}
use Rattle.bib_edit.specs.RenamedFields.{AreNamesPlaced, names_at}
use Rattle.bib_edit.proofs.NamedFields.{names-step}
use Rattle.bib_edit.proofs.rename_field.push_names.Goals as goal

pub fields-init : goal.fields-init
fields-init c = (c.requires, refl)

pub push_name-requires : goal.push_name-requires
push_name-requires c = (subst (AreNamesPlaced c.args.start) c.in-Some.ensures.steps c.fields.invariant.0).0

pub fields-preserved : goal.fields-preserved
fields-preserved c = (
  (subst (AreNamesPlaced c.args.start) c.in-Some.ensures.steps c.fields.invariant.0).1,
  names-step c.args.from.now c.args.start c.fields.rest _ (field_seen c.in-Some.field) _ (tokens_seen c.fields.names.items) _ c.in-Some.ensures.steps c.in_ok-push_name.ensures c.fields.invariant.1,
)

pub returns : goal.returns
returns c =
    sym (append-nil (tokens_seen c.fields.names.items))
    ∙ ap (λ (l : List Field). tokens_seen c.fields.names.items ++ names_at c.args.start c.args.from.now l) (sym c.in_default.ensures.steps.0)
    ∙ c.fields.invariant.1
