use Rattle.ris_format.proofs.Words.{◌≡◌, ◌∙◌, ◌++◌, ap, rules, flat_map, on_ok_weaker, Text, single, tagged, tagged_lines, lines_of, Fields, written_fields}
use Rattle.std.proofs.Common.{codes}
use Rattle.ris_format.proofs.SectionLaws.{section_and_group}
use Rattle.ris_format.proofs.from_record.push_record.Goals as goal

pub returns : goal.returns
returns g c =
    let entry = c.args.entry.now in
    let kind = c.args.kind in
    let before = c.args.lines.now.items in
    let between = c.push_fields.new.lines.items in
    let fields : c.as_slice.result.now ≡ entry.fields = search rules in
    let key : c.as_slice-2.result.now ≡ entry.key = search rules in
    on_ok_weaker c.push_single.result
    (λ h. section_and_group g.T.Kept.kept (written_fields kind entry.fields) (tagged (codes "ID") (single entry.key)) before between c.push_single.new.lines.items
    (c.in_ok-push_fields.ensures ∙ ap (λ (fs : Fields). before ++ flat_map g.T.Kept.kept (lines_of (written_fields kind fs))) fields)
    (h ∙ ap (λ (t : Text). between ++ flat_map g.T.Kept.kept (tagged_lines (tagged (codes "ID") (single t)))) key))
    c.push_single.ensures
