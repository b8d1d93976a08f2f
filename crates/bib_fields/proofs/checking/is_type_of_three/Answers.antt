use Rattle.std.proofs.Common.{◌≡◌, true, ◌&&◌, ◌||◌, bytes_eq, sym, ◌∙◌, subst}
use Rattle.bib_spec.specs.Text.{same}
use Rattle.merge_spec.specs.ThreeWay.{is_type_of_three}
use Rattle.bib_fields.specs.MixSeen.{of_side}
use Rattle.bib_fields.proofs.MixChecked.{type-ours, type-theirs}
use Rattle.bib_fields.proofs.checking.is_type_of_three.Goals as goal

pub returns-in-Ours : goal.returns-in-Ours
returns-in-Ours c yes' =
    subst (λ s. is_type_of_three c.args.b.now c.args.o.now c.args.t.now (of_side s c.args.o.now c.args.t.now) ≡ true) (sym c.in-Ours.is)
    (type-ours c.args.b.now c.args.o.now c.args.t.now (same c.args.b.now c.args.t.now) (same c.args.o.now c.args.t.now) (same c.args.b.now c.args.o.now) (sym c.may_be_our_type.ensures ∙ yes'))

pub returns-in-Theirs : goal.returns-in-Theirs
returns-in-Theirs c yes' =
    subst (λ s. is_type_of_three c.args.b.now c.args.o.now c.args.t.now (of_side s c.args.o.now c.args.t.now) ≡ true) (sym c.in-Theirs.is)
    (type-theirs c.args.b.now c.args.o.now c.args.t.now (bytes_eq c.args.t.now c.args.o.now && (same c.args.b.now c.args.t.now || same c.args.o.now c.args.t.now)) (same c.args.b.now c.args.o.now) (sym c.same_folded.ensures ∙ yes'))
