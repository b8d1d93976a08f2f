use Rattle.ris_format.proofs.Words.{◌∙◌, ◌++◌, ap, flat_map, on_ok_weaker, Text, tagged, tagged_lines, written_people, text_of}
use Rattle.std.proofs.Common.{codes}
use Rattle.ris_format.proofs.SectionLaws.{two_groups}
use Rattle.ris_format.proofs.from_record.push_names.Goals as goal

pub returns : goal.returns
returns g c =
    let fields = c.args.fields.now in
    let before = c.args.lines.now.items in
    let between = c.push_people.new.lines.items in
    on_ok_weaker c.push_people-2.result
    (λ h. two_groups g.T.Kept.kept before between c.push_people-2.new.lines.items
    (tagged (codes "AU") (written_people (text_of fields (codes "author")))) (tagged (codes "A2") (written_people (text_of fields (codes "editor"))))
    (c.in_ok-push_people.ensures ∙ ap (λ (t : Text). before ++ flat_map g.T.Kept.kept (tagged_lines (tagged (codes "AU") (written_people t)))) c.text_of.ensures)
    (h ∙ ap (λ (t : Text). between ++ flat_map g.T.Kept.kept (tagged_lines (tagged (codes "A2") (written_people t)))) c.text_of-2.ensures))
    c.push_people-2.ensures
