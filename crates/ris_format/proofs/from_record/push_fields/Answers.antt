use Rattle.ris_format.proofs.Words.{on_ok_weaker, written_titles, written_numbers, written_publishers, written_notes}
use Rattle.ris_format.specs.Mapping.{written_names}
use Rattle.ris_format.proofs.SectionLaws.{five_sections}
use Rattle.ris_format.proofs.from_record.push_fields.Goals as goal

pub returns : goal.returns
returns g c =
    let fields = c.args.fields.now in
    let kind = c.args.kind in
    on_ok_weaker c.push_notes.result
    (λ h. five_sections g.T.Kept.kept (written_names fields) (written_titles kind fields) (written_numbers fields) (written_publishers kind fields) (written_notes fields)
    c.args.lines.now.items c.push_names.new.lines.items c.push_titles.new.lines.items c.push_numbers.new.lines.items c.push_publishers.new.lines.items c.push_notes.new.lines.items
    c.in_ok-push_names.ensures c.in_ok-push_titles.ensures c.in_ok-push_numbers.ensures c.in_ok-push_publishers.ensures h)
    c.push_notes.ensures
