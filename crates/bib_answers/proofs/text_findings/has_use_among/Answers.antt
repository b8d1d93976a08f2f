use Rattle.bib_answers.proofs.Words.{◌≡◌, ◌∙◌, ◌<◌, ◌≤◌, ℕ, Bool, List, Some, length, slice_get, sym, ap, Part, part_view, parts_counted}
use Rattle.std.proofs.Common.{arith}
use Rattle.bib_spec.specs.Texts.{parts_of}
use Rattle.bib_answers.specs.Lint.{is_use}
use Rattle.bib_answers.proofs.AnyOf.{any_found, any_passed, any_none}
use Rattle.bib_answers.proofs.text_findings.has_use_among.Goals as goal

one_part : (p q : Part) → Some p ≡ Some q → p ≡ q
one_part p q e = cc

told : (parts : List Part) (n : ℕ) (part : Part) (uses : Bool) → uses ≡ is_use part → slice_get parts n ≡ Some part
    → (p : Part) → slice_get parts n ≡ Some p → uses ≡ is_use p
told parts n part uses is at p same = is ∙ ap is_use (one_part part p (sym at ∙ same))

pub returns-then-is_use : goal.returns-then-is_use
returns-then-is_use c = λ v ok same.
    let count = parts_counted c.args.value.now c.args.parts.now c.len-n-end.result c.requires c.len-n-end.ensures.parts v ok same in
    let within : c.uses.n < length (parts_of v) = omega (arith, c.uses-test.true, count) in
    sym (any_found is_use (parts_of v) c.uses.n c.is_use.result within (told (parts_of v) c.uses.n (part_view c.part.result) c.is_use.result c.is_use.ensures (c.part.ensures v ok same)) (c.uses.invariant v ok same) c.if-is_use.true)

pub uses-preserved : goal.uses-preserved
uses-preserved c = λ v ok same.
    let count = parts_counted c.args.value.now c.args.parts.now c.len-n-end.result c.requires c.len-n-end.ensures.parts v ok same in
    let within : c.uses.n < length (parts_of v) = omega (arith, c.uses-test.true, count) in
    any_passed is_use (parts_of v) c.uses.n c.is_use.result within (told (parts_of v) c.uses.n (part_view c.part.result) c.is_use.result c.is_use.ensures (c.part.ensures v ok same)) (c.uses.invariant v ok same) c.if-is_use.false

pub returns : goal.returns
returns c = λ v ok same.
    let count = parts_counted c.args.value.now c.args.parts.now c.len-n-end.result c.requires c.len-n-end.ensures.parts v ok same in
    let all : length (parts_of v) ≤ c.uses.n = omega (arith, c.uses-test.false, count) in
    sym (any_none is_use (parts_of v) c.uses.n all (c.uses.invariant v ok same))
