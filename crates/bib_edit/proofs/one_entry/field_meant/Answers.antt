use Rattle.bib_edit.proofs.Words.{ℕ, ◌&&◌, nat_lt, is_none, count_by, sym, ◌∙◌, ap, Option, is_field}
use Rattle.std.proofs.Common.{unwrap_or}
use Rattle.bib_edit.specs.MeantFields.{nth_field}
use Rattle.bib_edit.proofs.MeantFields.{nth-first}
use Rattle.bib_edit.proofs.one_entry.field_meant.Goals as goal

pub returns-in-None : goal.returns-in-None
returns-in-None c = record {
  field = c.sought_fields-sought.ensures.first ∙ sym (nth-first c.args.which.name.now c.args.view.now.fields)
      ∙ ap (λ (o : Option ℕ). nth_field c.args.which.name.now (unwrap_or o 0) c.args.view.now.fields) (sym c.in-None.is);
  unclear = c.sought_fields-sought.ensures.repeated
      ∙ ap (λ (o : Option ℕ). is_none o && nat_lt 1 (count_by (is_field c.args.which.name.now) c.args.view.now.fields)) (sym c.in-None.is);
}
