use Rattle.std.proofs.Common.{◌≡◌, slice_get, sym, subst}
use Rattle.bib_fields.specs.MixSeen.{of_side}
use Rattle.bib_fields.proofs.checking.field_at.Goals as goal

pub returns-in-Ours : goal.returns-in-Ours
returns-in-Ours c = subst (λ s. c.field_with.result ≡ slice_get (of_side s c.args.ours.now c.args.theirs.now) c.args.row.n) (sym c.in-Ours.is) c.field_with.ensures

pub returns-in-Theirs : goal.returns-in-Theirs
returns-in-Theirs c = subst (λ s. c.field_with-in-Theirs.result ≡ slice_get (of_side s c.args.ours.now c.args.theirs.now) c.args.row.n) (sym c.in-Theirs.is) c.field_with-in-Theirs.ensures
