use Rattle.bib_answers.proofs.Words.{◌∙◌, [], ◌∷◌, ◌++◌, List, Option, ap, subst, sym, Text, Field, field_seen, defined_in, extra_report, use_reports, NameFilter, AreTold, IsAt}
use Rattle.bib_answers.specs.Recurring.{names_of}
use Rattle.bib_answers.proofs.ReportSteps.{IsReporting, reporting_start, reporting_more, reporting_all}
use Rattle.bib_answers.proofs.reporting.add_field_reports.Goals as goal

pub fields-init : goal.fields-init
fields-init g c =
    subst (λ (fields : List Field). IsReporting (defined_in c.args.item.now.kind) (g.M.MacroTable.macros c.args.macros.now) c.args.item.now.key c.args.item.now.fields c.args.out.now.items c.args.out.now.items (λ names. IsAt c.clear.new.self (names_of c.args.item.now.fields) names (names_of fields)) fields) (sym c.fields-fields.ensures.fields)
    (reporting_start (defined_in c.args.item.now.kind) (g.M.MacroTable.macros c.args.macros.now) c.args.item.now.key c.args.item.now.fields c.args.out.now.items
    (λ names. IsAt c.clear.new.self (names_of c.args.item.now.fields) names (names_of c.args.item.now.fields)) c.requires (c.clear.ensures (names_of c.args.item.now.fields)))

pub fields-preserved : goal.fields-preserved
fields-preserved g c =
    let filled : (names : List Text) → IsAt c.fields.earlier (names_of c.args.item.now.fields) names (c.in-Some.field.name.now ∷ names_of c.next.new.self)
    → IsAt c.fill_filter.new.self (names_of c.args.item.now.fields) names (c.in-Some.field.name.now ∷ names_of c.next.new.self)
    = λ names is. c.in_ok-fill_filter.ensures names (c.in-Some.field.name.now ∷ names_of c.next.new.self) is in
    reporting_more (defined_in c.args.item.now.kind) (g.M.MacroTable.macros c.args.macros.now) c.args.item.now.key c.args.item.now.fields c.args.out.now.items
    c.fields.out.items c.add_extra.new.out.items c.add_uses.new.out.items
    (λ names. IsAt c.fields.earlier (names_of c.args.item.now.fields) names (c.in-Some.field.name.now ∷ names_of c.next.new.self))
    (λ names. IsAt c.add.new.self (names_of c.args.item.now.fields) names (names_of c.next.new.self))
    (field_seen c.in-Some.field) c.next.new.self
    (λ names is. let at = filled names is in c.in_ok-add_extra.ensures names (names_of c.next.new.self) at.have at.told ∙ ap (λ k. c.fields.out.items ++ extra_report k names c.in-Some.field.name.now) c.key.ensures)
    (λ x ok same. c.in_ok-add_uses.ensures x ok same ∙ ap (λ o. c.add_extra.new.out.items ++ use_reports o (g.M.MacroTable.macros c.args.macros.now) x) (c.defined_in.ensures ∙ ap (λ k. defined_in k c.in-Some.field.name.now) c.kind.ensures))
    (λ names is. let at = filled names is in record {
      have = c.in_ok-add.ensures.seen names at.have;
      told = subst (λ (filter : Option NameFilter). AreTold filter (c.in-Some.field.name.now ∷ names) (names_of c.next.new.self)) (sym c.add.ensures.filter) at.told.1;
      joined = at.joined;
    })
    (subst (λ (fields : List Field). IsReporting (defined_in c.args.item.now.kind) (g.M.MacroTable.macros c.args.macros.now) c.args.item.now.key c.args.item.now.fields c.args.out.now.items c.fields.out.items (λ names. IsAt c.fields.earlier (names_of c.args.item.now.fields) names (names_of fields)) fields) c.in-Some.ensures.steps c.fields.invariant)

pub returns : goal.returns
returns g c values are =
    reporting_all (defined_in c.args.item.now.kind) (g.M.MacroTable.macros c.args.macros.now) c.args.item.now.key c.args.item.now.fields c.args.out.now.items c.fields.out.items (λ names. IsAt c.fields.earlier (names_of c.args.item.now.fields) names [])
    (subst (λ (fields : List Field). IsReporting (defined_in c.args.item.now.kind) (g.M.MacroTable.macros c.args.macros.now) c.args.item.now.key c.args.item.now.fields c.args.out.now.items c.fields.out.items (λ names. IsAt c.fields.earlier (names_of c.args.item.now.fields) names (names_of fields)) fields) c.in_default.ensures.steps.0 c.fields.invariant)
    values are
