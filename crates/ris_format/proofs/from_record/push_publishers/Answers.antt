use Rattle.ris_format.proofs.Words.{on_ok_weaker, publisher_field, serial_field, single, tagged, text_of}
use Rattle.std.proofs.Common.{codes}
use Rattle.ris_format.proofs.SectionLaws.{three_groups}
use Rattle.ris_format.proofs.from_record.push_publishers.Goals as goal

pub returns : goal.returns
returns g c =
    let fields = c.args.fields.now in
    let publisher = rw (c.text_of.ensures, c.publisher_field.ensures) at c.in_ok-push_single.ensures in
    let address = rw c.text_of-2.ensures at c.in_ok-push_single-2.ensures in
    on_ok_weaker c.push_single-3.result
    (λ h. let serial = rw (c.text_of-3.ensures, c.serial_field.ensures) at h in three_groups g.T.Kept.kept _ _ _ _ (tagged (codes "PB") (single (text_of fields (publisher_field c.args.kind))))
    (tagged (codes "CY") (single (text_of fields (codes "address")))) (tagged (codes "SN") (single (text_of fields (serial_field c.args.kind)))) publisher address serial)
    c.push_single-3.ensures
