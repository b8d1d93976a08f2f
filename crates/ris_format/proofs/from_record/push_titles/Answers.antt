use Rattle.ris_format.proofs.Words.{on_ok_weaker, single, tagged, booktitle_text, text_of}
use Rattle.std.proofs.Common.{codes}
use Rattle.ris_format.proofs.SectionLaws.{four_groups}
use Rattle.ris_format.proofs.from_record.push_titles.Goals as goal

pub returns : goal.returns
returns g c =
    let fields = c.args.fields.now in
    let title = rw c.text_of.ensures at c.in_ok-push_single.ensures in
    let booktitle = rw c.booktitle.ensures at c.in_ok-push_single-2.ensures in
    let series = rw c.text_of-2.ensures at c.in_ok-push_single-3.ensures in
    on_ok_weaker c.push_single-4.result
    (λ h. let journal = rw c.text_of-3.ensures at h in four_groups g.T.Kept.kept _ _ _ _ _ (tagged (codes "TI") (single (text_of fields (codes "title")))) (tagged (codes "T2") (single (booktitle_text c.args.kind fields)))
    (tagged (codes "T3") (single (text_of fields (codes "series")))) (tagged (codes "JF") (single (text_of fields (codes "journal")))) title booktitle series journal)
    c.push_single-4.ensures
