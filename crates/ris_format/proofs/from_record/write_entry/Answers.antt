use Rattle.ris_format.proofs.Words.{◌≡◌, ◌∙◌, ◌++◌, ap, rules, Text, Kind, kind_of_entry, ris_type, lines_of, ris}
use Rattle.ris_text.specs.Tags.{begin_tag}
use Rattle.ris_text.specs.Writing.{written, ended}
use Rattle.ris_text.proofs.WriteLemmas.{kept_text, record_after}
use Rattle.ris_format.specs.Mapping.{written as written_groups}
use Rattle.ris_format.proofs.from_record.write_entry.Goals as goal

pub returns-clause-text : goal.returns-clause-text
returns-clause-text c =
    let entry = c.args.entry.now in
    let text : Text = c.args.text.now.items in
    let first : Text = c.write_line.new.text.items in
    let name : c.as_slice.result.now ≡ entry.kind_name = search rules in
    let kind : c.of_entry-kind.result ≡ kind_of_entry entry.kind_name = c.of_entry-kind.ensures ∙ ap kind_of_entry name in
    record_after (ris entry) text first c.push_record.new.lines.items c.write_line-2.new.text.items
    (c.in_ok-write_line.ensures.line ∙ ap (λ (t : Text). text ++ ended (written begin_tag t)) (c.ris_type.ensures ∙ ap ris_type kind))
    (c.in_ok-push_record.ensures ∙ ap (λ (k : Kind). first ++ kept_text (lines_of (written_groups k entry))) kind)
    c.in_ok-write_line-2.ensures.line
