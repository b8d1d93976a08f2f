use Rattle.std.proofs.Common.{◌∙◌, ◌≤◌, ◌+◌, ◌-◌, ◌&&◌, length, get_or, drop, eqb, Bool, arith, ap, sym, rules}
use Rattle.bib_value.specs.Spacing.{neat}
use Rattle.bib_value.proofs.NeatTexts.{field_text-neat, neat_begins, neat_more, neat_ends}
use Rattle.bib_value.proofs.spacing.is_neat.Goals as goal

pub bytes-init : goal.bytes-init
bytes-init c =
    let text = c.args.text.now in
    let within : 1 ≤ length text = search rules in
    record {
      begun = omega arith;
      within = within;
      neat = ap (λ (b : Bool). b && neat (eqb (get_or text 0 0) 32) (drop 1 text)) c.can_go_on-is_so_far.ensures ∙ neat_begins text within;
    }

pub bytes-preserved : goal.bytes-preserved
bytes-preserved c =
    let text = c.args.text.now in
    let n = c.bytes.n in
    let test = c.bytes-test.true in
    record {
      begun = omega arith;
      within = omega (arith, test);
      neat = ap (λ (b : Bool). (c.bytes.is_so_far && b) && neat (eqb (get_or text (n + 1 - 1) 0) 32) (drop (n + 1) text)) c.can_go_on-is_so_far-in-bytes.ensures
          ∙ neat_more c.bytes.is_so_far text n c.bytes.invariant.begun test c.bytes.invariant.neat;
    }

pub returns-clause-neat : goal.returns-clause-neat
returns-clause-neat c =
    neat_ends c.bytes.is_so_far c.args.text.now c.bytes.n c.bytes.invariant.within c.bytes-test.false c.bytes.invariant.neat

pub returns-clause-own : goal.returns-clause-own
returns-clause-own c is =
    field_text-neat c.args.text.now (sym (neat_ends c.bytes.is_so_far c.args.text.now c.bytes.n c.bytes.invariant.within c.bytes-test.false c.bytes.invariant.neat) ∙ is)
