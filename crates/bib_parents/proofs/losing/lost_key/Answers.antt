use Rattle.std.proofs.Common.{Bool, [], ◌∷◌, if◌then◌else◌, sym, ◌∙◌, ap}
use Rattle.bib_spec.specs.Text.{Text}
use Rattle.bib_spec.specs.Records.{entries_of}
use Rattle.merge_spec.specs.Parents.{key_at}
use Rattle.bib_parents.proofs.LostParents.{key_here}
use Rattle.bib_parents.proofs.losing.lost_key.Goals as goal

pub returns-then-is_lost : goal.returns-then-is_lost
returns-then-is_lost g c ro reads_o rt reads_t rm reads_m =
    ap (λ (k : Text). k ∷ []) (key_here rm c.args.n (c.requires rm reads_m) c.key.result.now c.entry.result c.key.ensures (c.entry.ensures rm reads_m))
    ∙ sym (ap (λ (b : Bool). if b then key_at (entries_of rm) c.args.n ∷ [] else []) (sym (c.is_lost.ensures ro reads_o rt reads_t rm reads_m) ∙ c.if-is_lost.true))

pub returns : goal.returns
returns g c ro reads_o rt reads_t rm reads_m =
    sym (ap (λ (b : Bool). if b then key_at (entries_of rm) c.args.n ∷ [] else []) (sym (c.is_lost.ensures ro reads_o rt reads_t rm reads_m) ∙ c.if-is_lost.false))
