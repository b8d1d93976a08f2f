use Rattle.bib_steps.proofs.Words.{rules, ◌≡◌, ◌≤◌, ℕ, true, length, subst, arith, BeginAfter, end_at}
use Rattle.bib_steps.proofs.Positions.{as_many_ends, front_ends_before, part_end_short}
use Rattle.bib_steps.proofs.near.near.Goals as goal

pub on-init : goal.on-init
on-init c = (omega arith, omega (arith, c.count_before-from.ensures.within, as_many_ends c.args.pieces.now c.args.ends.now c.requires.ends))

pub is_after-requires-clause-place : goal.is_after-requires-clause-place
is_after-requires-clause-place c = omega (arith, c.end_of-end.ensures, part_end_short c.args.part.now c.requires.short)

pub returns : goal.returns
returns c =
    let found : c.count_before-from.result ≤ length c.args.pieces.now = omega (arith, c.count_before-from.ensures.within, as_many_ends c.args.pieces.now c.args.ends.now c.requires.ends) in
    let is : c.is_after.result ≡ true = search rules in
    record {
      ordered = c.on.invariant.0;
      inside = c.on.invariant.1;
      front = front_ends_before c.args.pieces.now c.args.ends.now c.args.part.now c.count_before-from.result c.requires.ends found
          (λ s. c.begin_of.ensures (end_at c.args.ends.now c.count_before-from.result) (c.count_before-from.ensures.before s));
      back = subst (λ (n : ℕ). BeginAfter c.args.pieces.now c.on.to n) c.end_of-end.ensures (c.is_after.ensures.after is);
    }
