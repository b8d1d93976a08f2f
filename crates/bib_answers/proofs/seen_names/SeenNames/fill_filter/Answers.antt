use Rattle.bib_answers.proofs.Words.{[], Some, List, rules, sym, subst, Field, AreTold}
use Rattle.bib_answers.specs.Recurring.{names_of}
use Rattle.bib_answers.proofs.Recurrences.{told_at}
use Rattle.bib_answers.proofs.seen_names.SeenNames.fill_filter.Goals as goal

pub returns : goal.returns
returns c earlier rest is = record {
  have = λ name may. is.have name (search rules);
  told = told_at (Some c.in_ok-of.field-0) earlier rest
      (subst (AreTold (Some c.in_ok-of.field-0) []) (sym is.joined)
      (subst (λ (fields : List Field). AreTold (Some c.in_ok-of.field-0) [] (names_of fields)) c.fields.ensures.fields c.in_ok-of.ensures));
  joined = is.joined;
}
