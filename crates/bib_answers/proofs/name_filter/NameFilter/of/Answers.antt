use Rattle.bib_answers.proofs.Words.{List, subst, sym, Text, Field}
use Rattle.bib_answers.specs.Recurring.{names_of}
use Rattle.bib_answers.proofs.Recurrences.{AreCounting, counting_more, told_counted}
use Rattle.bib_answers.proofs.name_filter.NameFilter.of.Goals as goal

pub fields-preserved : goal.fields-preserved
fields-preserved c =
    subst (λ (counts : Text). AreCounting (names_of c.args.fields) c.args.count counts (names_of c.next.new.self)) (sym c.count_name.ensures)
    (counting_more (names_of c.args.fields) c.args.count c.fields.counts.items c.in-Some.field.name.now (names_of c.next.new.self)
    (subst (λ (fields : List Field). AreCounting (names_of c.args.fields) c.args.count c.fields.counts.items (names_of fields)) c.in-Some.ensures.steps c.fields.invariant))

pub returns : goal.returns
returns c = told_counted (record { counts = c.fields.counts }) (names_of c.args.fields) c.args.count
    (subst (λ (fields : List Field). AreCounting (names_of c.args.fields) c.args.count c.fields.counts.items (names_of fields)) c.in_default.ensures.steps.0 c.fields.invariant)
