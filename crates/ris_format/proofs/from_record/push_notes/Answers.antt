use Rattle.ris_format.proofs.Words.{on_ok_weaker, single, tagged, written_keywords, text_of}
use Rattle.std.proofs.Common.{codes}
use Rattle.ris_format.proofs.SectionLaws.{five_groups}
use Rattle.ris_format.proofs.from_record.push_notes.Goals as goal

pub returns : goal.returns
returns g c =
    let fields = c.args.fields.now in
    let url = rw c.text_of.ensures at c.in_ok-push_single.ensures in
    let doi = rw c.text_of-2.ensures at c.in_ok-push_single-2.ensures in
    let summary = rw c.text_of-3.ensures at c.in_ok-push_single-3.ensures in
    let note = rw c.text_of-4.ensures at c.in_ok-push_single-4.ensures in
    on_ok_weaker c.push_keywords.result
    (λ h. let words = rw c.text_of-5.ensures at h in five_groups g.T.Kept.kept _ _ _ _ _ _ (tagged (codes "UR") (single (text_of fields (codes "url")))) (tagged (codes "DO") (single (text_of fields (codes "doi"))))
    (tagged (codes "AB") (single (text_of fields (codes "abstract")))) (tagged (codes "N1") (single (text_of fields (codes "note")))) (tagged (codes "KW") (written_keywords (text_of fields (codes "keywords"))))
    url doi summary note words)
    c.push_keywords.ensures
