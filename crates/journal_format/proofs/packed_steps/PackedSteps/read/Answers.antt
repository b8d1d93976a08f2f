use Rattle.journal_format.proofs.Words.{◌≡◌, ◌<◌, ◌≤◌, ◌∙◌, ◌++◌, List, ℕ, arith, length, drop, get_or, sym, subst, ap, Text, Step, BeginsWithStep, IsWrongStep, StopsWhere}
use Rattle.std.proofs.Common.{Some, slice_get}
use Rattle.journal_format.specs.Packed.{steps_in}
use Rattle.journal_format.proofs.Packing.{step_here, length-packed}
use Rattle.journal_format.proofs.JournalLaws.{one_step, no_wrong_step}
use Rattle.journal_format.proofs.packed_steps.PackedSteps.read.Goals as goal

pub offset_bounds-as_slice-n : goal.offset_bounds-as_slice-n
offset_bounds-as_slice-n c =
    let within : c.args.n < length c.args.self.now = c.requires in
    omega (arith, within, c.as_slice.type_inv.1, ap (λ (ss : List Step). length ss) c.self.view_is, length-packed _ _ _ _ c.self.invariant, ap (λ (ns : List ℕ). length ns) c.as_slice.ensures.value)

pub bounds-as_slice-n : goal.bounds-as_slice-n
bounds-as_slice-n c =
    let within : c.args.n < length c.args.self.now = c.requires in
    omega (arith, within, ap (λ (ss : List Step). length ss) c.self.view_is, length-packed _ _ _ _ c.self.invariant, ap (λ (ns : List ℕ). length ns) c.as_slice.ensures.value)

pub split_at-requires : goal.split_at-requires
split_at-requires c =
    let within : c.args.n < length (steps_in c.self.inside.version (length c.self.inside.places.items) c.self.inside.text.now) =
    subst (λ (ss : List Step). c.args.n < length ss) (sym c.self.view_is) c.requires in
    (step_here c.self.inside.version c.self.inside.text.now c.self.inside.places.items _ c.args.n c.as_slice.result.now c.self.invariant within c.as_slice.ensures.value).3

pub unreachable-requires : goal.unreachable-requires
unreachable-requires c =
    let within : c.args.n < length (steps_in c.self.inside.version (length c.self.inside.places.items) c.self.inside.text.now) =
    subst (λ (ss : List Step). c.args.n < length ss) (sym c.self.view_is) c.requires in
    let there = step_here c.self.inside.version c.self.inside.text.now c.self.inside.places.items _ c.args.n c.as_slice.result.now c.self.invariant within c.as_slice.ensures.value in
    let wrong : IsWrongStep c.self.inside.version c.split_at.result.1.now c.in-Err-Wrong.field-0-0 =
    subst (StopsWhere (IsWrongStep c.self.inside.version c.split_at.result.1.now)) c.in-Err-Wrong.field-0-is c.in-Err-Wrong.ensures.wrong in
    no_wrong_step _ _ there.0 there.1 _ there.4 (subst (λ (t : Text). IsWrongStep c.self.inside.version t c.in-Err-Wrong.field-0-0) c.split_at.ensures.back wrong)

pub returns-in-Ok : goal.returns-in-Ok
returns-in-Ok c =
    let within : c.args.n < length (steps_in c.self.inside.version (length c.self.inside.places.items) c.self.inside.text.now) =
    subst (λ (ss : List Step). c.args.n < length ss) (sym c.self.view_is) c.requires in
    let there = step_here c.self.inside.version c.self.inside.text.now c.self.inside.places.items _ c.args.n c.as_slice.result.now c.self.invariant within c.as_slice.ensures.value in
    let read : BeginsWithStep c.self.inside.version (drop (get_or c.as_slice.result.now c.args.n 0) c.self.inside.text.now) c.in-Ok.step c.in-Ok.field-0-1.now =
    subst (λ (t : Text). BeginsWithStep c.self.inside.version t c.in-Ok.step c.in-Ok.field-0-1.now) c.split_at.ensures.back c.in-Ok.ensures.read in
    ap (λ (ss : List Step). slice_get ss c.args.n) (sym c.self.view_is) ∙ there.2
    ∙ ap (λ (s : Step). Some s) ((one_step c.self.inside.version _ there.0 c.in-Ok.step there.1 c.in-Ok.field-0-1.now there.4 read).0)
