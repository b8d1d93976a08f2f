use Rattle.ris_format.proofs.Words.{on_ok_weaker, single, tagged, written_date, written_start, written_end, text_of}
use Rattle.std.proofs.Common.{codes}
use Rattle.ris_format.proofs.SectionLaws.{five_groups}
use Rattle.ris_format.proofs.from_record.push_numbers.Goals as goal

pub returns : goal.returns
returns g c =
    let fields = c.args.fields.now in
    let pages = text_of fields (codes "pages") in
    let date = rw (c.text_of-year.ensures, c.text_of.ensures) at c.in_ok-push_date.ensures in
    let volume = rw c.text_of-2.ensures at c.in_ok-push_single.ensures in
    let number = rw c.text_of-3.ensures at c.in_ok-push_single-2.ensures in
    let start = rw c.text_of-pages.ensures at c.in_ok-push_start.ensures in
    on_ok_weaker c.push_end.result
    (λ h. let end = rw c.text_of-pages.ensures at h in five_groups g.T.Kept.kept _ _ _ _ _ _ (tagged (codes "PY") (written_date (text_of fields (codes "year")) (text_of fields (codes "month"))))
    (tagged (codes "VL") (single (text_of fields (codes "volume")))) (tagged (codes "IS") (single (text_of fields (codes "number")))) (tagged (codes "SP") (written_start pages)) (tagged (codes "EP") (written_end pages))
    date volume number start end)
    c.push_end.ensures
