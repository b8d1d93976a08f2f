use Rattle.bib_scan.proofs.Words.{◌∙◌, sym, subst, IsLayoutOf}
use Rattle.bib_scan.proofs.LayoutLaws.{front_is}
use Rattle.bib_scan.proofs.layout.Layout.front.Goals as goal

pub returns : goal.returns
returns c db reads =
    let fits = subst (IsLayoutOf c.args.bytes.now) (sym c.self.view_is) c.requires in
    c.split_at.ensures.front ∙ front_is c.args.bytes.now _ db fits reads
