use Rattle.std.proofs.Common.{List, [], ◌++◌, map, refl, sym, ◌∙◌, ap, subst}
use Rattle.bib_spec.specs.Tree.{opening_bytes}
use Rattle.bib_scan.specs.View.{Field, View}
use Rattle.bib_uses.specs.declared.uses.UseView.{UseView}
use Rattle.bib_uses.specs.Seen.{AreAdded, use_seen}
use Rattle.bib_uses.proofs.UsesRead.{rows-added}
use Rattle.bib_uses.proofs.uses.uses_of.Goals as goal

pub fields-init : goal.fields-init
fields-init c new are = subst (λ (uses : List UseView). AreAdded c.fields-rest.result (map use_seen uses) new) c.new-uses.ensures.items are

pub fields-preserved : goal.fields-preserved
fields-preserved c new are =
    c.fields.invariant new
    (subst (λ (fs : List Field). AreAdded fs (map use_seen c.fields.uses.items) new) (sym c.in-Some.ensures.steps) (map use_seen c.add_in_field.new.uses.items, c.in_ok-add_in_field.ensures, are))

pub returns : goal.returns
returns c e trail is seen =
    rows-added (opening_bytes e.opening ++ e.key ++ e.space_after_key) e.rows [] (map use_seen c.fields.uses.items) is.rows
    (subst (λ (fs : List Field). AreAdded fs [] (map use_seen c.fields.uses.items)) (c.fields-rest.ensures.fields ∙ ap (λ (v : View). v.fields) seen)
    (c.fields.invariant (map use_seen c.fields.uses.items) (subst (λ (fs : List Field). AreAdded fs (map use_seen c.fields.uses.items) (map use_seen c.fields.uses.items)) (sym c.in_default.ensures.steps.0) refl)))
