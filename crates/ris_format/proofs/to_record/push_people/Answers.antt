use Rattle.ris_format.proofs.Words.{◌≡◌, ◌∙◌, ap, on_ok_weaker, values_at, read_people}
use Rattle.std.proofs.Common.{map}
use Rattle.ris_format.proofs.SectionLaws.{field_put}
use Rattle.ris_format.proofs.to_record.push_people.Goals as goal

pub returns : goal.returns
returns c =
    let name = c.args.name.now in
    let names = read_people (values_at c.args.tags.now c.args.lines.now) in
    let told : c.in_ok-people.people ≡ names = c.in_ok-people.ensures ∙ ap read_people (ap (map (λ v. v.now)) c.as_slice.ensures.value ∙ c.in_ok-values.ensures) in
    on_ok_weaker c.push_text.result (λ h. field_put c.args.fields.now.items c.push_text.new.fields.items name c.in_ok-people.people names h told) c.push_text.ensures
