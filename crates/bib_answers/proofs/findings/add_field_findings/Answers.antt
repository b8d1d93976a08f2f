use Rattle.bib_answers.proofs.Words.{◌∙◌, [], ◌∷◌, List, Option, ap, subst, sym, option_copied, Text, Field, field_seen, defined_in, crossref_findings, value_findings, with_findings, NameFilter, AreTold, IsAt}
use Rattle.bib_answers.specs.Recurring.{names_of}
use Rattle.bib_answers.specs.Lint.{first_findings}
use Rattle.bib_answers.specs.Plain.{ArePlain}
use Rattle.bib_answers.proofs.FindingSteps.{IsFinding, finding_start, finding_more, finding_all}
use Rattle.bib_answers.proofs.findings.add_field_findings.Goals as goal

pub fields-init : goal.fields-init
fields-init g c = (
  subst (λ (fields : List Field). IsFinding (defined_in c.args.it.view.now.kind) (g.M.MacroTable.macros c.args.macros.now) (first_findings c.args.it.view.now.kind (g.M.MacroTable.macros c.args.macros.now) c.args.it.redefines (crossref_findings c.args.it.crossref.empty_parents c.args.it.crossref.key.now c.args.it.crossref.n (option_copied c.args.it.crossref.text) c.args.it.crossref.target c.args.it.crossref.grandparent)) c.args.it.view.now.fields c.args.lines.now c.args.lines.now (λ names. IsAt c.clear.new.self (names_of c.args.it.view.now.fields) names (names_of fields)) fields) (sym c.fields-fields.ensures.fields)
      (finding_start (defined_in c.args.it.view.now.kind) (g.M.MacroTable.macros c.args.macros.now) (first_findings c.args.it.view.now.kind (g.M.MacroTable.macros c.args.macros.now) c.args.it.redefines (crossref_findings c.args.it.crossref.empty_parents c.args.it.crossref.key.now c.args.it.crossref.n (option_copied c.args.it.crossref.text) c.args.it.crossref.target c.args.it.crossref.grandparent)) c.args.it.view.now.fields c.args.lines.now
      (λ names. IsAt c.clear.new.self (names_of c.args.it.view.now.fields) names (names_of c.args.it.view.now.fields)) c.requires.sound (c.clear.ensures (names_of c.args.it.view.now.fields))),
  (λ known. subst ArePlain (sym c.fields-fields.ensures.fields) (c.requires.plain known)),
)

pub fields-preserved : goal.fields-preserved
fields-preserved g c =
    let filled : (names : List Text) → IsAt c.fields.earlier (names_of c.args.it.view.now.fields) names (c.in-Some.field.name.now ∷ names_of c.next.new.self)
    → IsAt c.fill_filter.new.self (names_of c.args.it.view.now.fields) names (c.in-Some.field.name.now ∷ names_of c.next.new.self)
    = λ names is. c.in_ok-fill_filter.ensures names (c.in-Some.field.name.now ∷ names_of c.next.new.self) is in (
      finding_more (defined_in c.args.it.view.now.kind) (g.M.MacroTable.macros c.args.macros.now) (first_findings c.args.it.view.now.kind (g.M.MacroTable.macros c.args.macros.now) c.args.it.redefines (crossref_findings c.args.it.crossref.empty_parents c.args.it.crossref.key.now c.args.it.crossref.n (option_copied c.args.it.crossref.text) c.args.it.crossref.target c.args.it.crossref.grandparent)) c.args.it.view.now.fields c.args.lines.now
          c.fields.lines c.add_name.new.lines c.add_uses.new.lines
          (λ names. IsAt c.fields.earlier (names_of c.args.it.view.now.fields) names (c.in-Some.field.name.now ∷ names_of c.next.new.self))
          (λ names. IsAt c.add.new.self (names_of c.args.it.view.now.fields) names (names_of c.next.new.self))
          (field_seen c.in-Some.field) c.next.new.self
          (λ names is. let at = filled names is in c.in_ok-add_name.ensures names (names_of c.next.new.self) at.have at.told)
          (λ x ok same. c.in_ok-add_uses.ensures x ok same ∙ ap (λ o. with_findings c.add_name.new.lines (value_findings o (g.M.MacroTable.macros c.args.macros.now) c.in-Some.field.value_at x)) (c.defined_in.ensures ∙ ap (λ k. defined_in k c.in-Some.field.name.now) c.kind.ensures))
          (λ names is. let at = filled names is in record {
            have = c.in_ok-add.ensures.seen names at.have;
            told = subst (λ (filter : Option NameFilter). AreTold filter (c.in-Some.field.name.now ∷ names) (names_of c.next.new.self)) (sym c.add.ensures.filter) at.told.1;
            joined = at.joined;
          })
          (subst (λ (fields : List Field). IsFinding (defined_in c.args.it.view.now.kind) (g.M.MacroTable.macros c.args.macros.now) (first_findings c.args.it.view.now.kind (g.M.MacroTable.macros c.args.macros.now) c.args.it.redefines (crossref_findings c.args.it.crossref.empty_parents c.args.it.crossref.key.now c.args.it.crossref.n (option_copied c.args.it.crossref.text) c.args.it.crossref.target c.args.it.crossref.grandparent)) c.args.it.view.now.fields c.args.lines.now c.fields.lines (λ names. IsAt c.fields.earlier (names_of c.args.it.view.now.fields) names (names_of fields)) fields) c.in-Some.ensures.steps c.fields.invariant.0),
      λ known. (subst ArePlain c.in-Some.ensures.steps (c.fields.invariant.1 known)).1,
    )

pub returns : goal.returns
returns g c values are =
    finding_all (defined_in c.args.it.view.now.kind) (g.M.MacroTable.macros c.args.macros.now) (first_findings c.args.it.view.now.kind (g.M.MacroTable.macros c.args.macros.now) c.args.it.redefines (crossref_findings c.args.it.crossref.empty_parents c.args.it.crossref.key.now c.args.it.crossref.n (option_copied c.args.it.crossref.text) c.args.it.crossref.target c.args.it.crossref.grandparent)) c.args.it.view.now.fields c.args.lines.now c.fields.lines (λ names. IsAt c.fields.earlier (names_of c.args.it.view.now.fields) names [])
    (subst (λ (fields : List Field). IsFinding (defined_in c.args.it.view.now.kind) (g.M.MacroTable.macros c.args.macros.now) (first_findings c.args.it.view.now.kind (g.M.MacroTable.macros c.args.macros.now) c.args.it.redefines (crossref_findings c.args.it.crossref.empty_parents c.args.it.crossref.key.now c.args.it.crossref.n (option_copied c.args.it.crossref.text) c.args.it.crossref.target c.args.it.crossref.grandparent)) c.args.it.view.now.fields c.args.lines.now c.fields.lines (λ names. IsAt c.fields.earlier (names_of c.args.it.view.now.fields) names (names_of fields)) fields) c.in_default.ensures.steps.0 c.fields.invariant.0)
    values are
