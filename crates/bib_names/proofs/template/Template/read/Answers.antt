use Rattle.bib_names.proofs.Words.{sym, ◌∙◌, subst, List, ℕ}
use Rattle.bib_names.proofs.TemplateLaws.{IsReadSoFar, read_front, read_more, read_stuck, read_left, after_byte-found, length-after, not_empty}
use Rattle.bib_names.proofs.template.Template.read.Goals as goal

pub loop-inside-init : goal.loop-inside-init
loop-inside-init c = rw (c.split_plain.ensures.plain, c.split_plain.ensures.rest, c.new-groups.ensures.items) (read_front c.args.bytes.now)

pub returns-in_default-split_group-clause-refused : goal.returns-in_default-split_group-clause-refused
returns-in_default-split_group-clause-refused c =
    let bytes = c.args.bytes.now in
    let rest = after_byte-found 123 c.loop-inside.rest.now c.in-Some.inside.now c.in-Some.ensures.found in
    let far = subst (λ (t : List ℕ). IsReadSoFar bytes c.split_plain.result.0.now c.loop-inside.groups.items t) rest c.loop-inside.invariant in
    λ _. read_stuck bytes c.split_plain.result.0.now c.loop-inside.groups.items c.in-Some.inside.now far c.in_default-split_group.ensures.none

pub loop-inside-smaller : goal.loop-inside-smaller
loop-inside-smaller c =
    let rest = after_byte-found 123 c.loop-inside.rest.now c.in-Some.inside.now c.in-Some.ensures.found in
    length-after c.loop-inside.rest.now c.in-Some.inside.now c.in-Some-split_group.group c.in-Some-split_group.after.now rest c.in-Some-split_group.ensures.found

pub loop-inside-preserved : goal.loop-inside-preserved
loop-inside-preserved c =
    let bytes = c.args.bytes.now in
    let rest = after_byte-found 123 c.loop-inside.rest.now c.in-Some.inside.now c.in-Some.ensures.found in
    let far = subst (λ (t : List ℕ). IsReadSoFar bytes c.split_plain.result.0.now c.loop-inside.groups.items t) rest c.loop-inside.invariant in
    rw c.in_ok-push_group.ensures
    (read_more bytes c.split_plain.result.0.now c.loop-inside.groups.items c.in-Some.inside.now _ c.in-Some-split_group.after.now far c.in-Some-split_group.ensures.found)

pub returns-then-not-is_empty-clause-refused : goal.returns-then-not-is_empty-clause-refused
returns-then-not-is_empty-clause-refused c =
    λ _. read_left c.args.bytes.now c.split_plain.result.0.now c.loop-inside.groups.items c.loop-inside.rest.now c.loop-inside.invariant c.in_default.ensures.none (not_empty c.loop-inside.rest.now (sym c.is_empty.ensures ∙ c.if-not-is_empty.true))
