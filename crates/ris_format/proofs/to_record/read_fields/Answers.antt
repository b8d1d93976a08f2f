use Rattle.ris_format.proofs.Words.{◌∙◌, ◌++◌, ap, Fields, has_text}
use Rattle.std.specs.Prelude.{filter}
use Rattle.ris_format.specs.Mapping.{read_names, read_booktitle, read_titles, read_numbers, read_publishers, read_notes}
use Rattle.ris_format.proofs.SectionLaws.{six_lists}
use Rattle.ris_format.proofs.to_record.read_fields.Goals as goal

pub returns : goal.returns
returns c =
    let kind = c.args.kind in
    let lines = c.args.lines.now in
    let names = read_names lines in
    six_lists names (read_booktitle kind lines) (read_titles kind lines) (read_numbers lines) (read_publishers kind lines) (read_notes lines)
    c.push_names.new.fields.items c.push_booktitle.new.fields.items c.push_titles.new.fields.items c.push_numbers.new.fields.items c.push_publishers.new.fields.items c.push_notes.new.fields.items
    (c.in_ok-push_names.ensures ∙ ap (λ (fs : Fields). fs ++ filter has_text names) c.in_ok-fields.ensures.items)
    c.in_ok-push_booktitle.ensures c.in_ok-push_titles.ensures c.in_ok-push_numbers.ensures c.in_ok-push_publishers.ensures c.in_ok-push_notes.ensures
