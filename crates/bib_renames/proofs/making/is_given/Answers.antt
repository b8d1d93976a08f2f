use Rattle.std.proofs.Common.{◌≡◌, subst}
use Rattle.std.proofs.lemmas.Bool.{eqb-true}
use Rattle.bib_spec.specs.Text.{Text}
use Rattle.bib_renames.specs.Changes.{count_named}
use Rattle.bib_renames.proofs.Renamings.{counted}
use Rattle.bib_renames.proofs.making.is_given.Goals as goal

pub returns-then-count-eq1 : goal.returns-then-count-eq1
returns-then-count-eq1 g c none rs reads_s rb reads_b =
    let what = c.args.change.now.what in
    counted what c.args.change.now.old c.args.change.now.new rs rb c.count.result c.count-then-count-eq1.result c.if-count-eq1.true (eqb-true _ _ none)
    (subst (λ (t : Text). c.count.result ≡ count_named what t rs) c.as_slice-new.ensures (c.count.ensures rs reads_s))
    (subst (λ (t : Text). c.count-then-count-eq1.result ≡ count_named what t rb) c.as_slice-new.ensures (c.count-then-count-eq1.ensures rb reads_b))
