use Rattle.bib_edit.proofs.Words.{◌≤◌, length, sym, ◌∙◌, arith, both_ways}
use Rattle.bib_edit.proofs.Added.{of-addition, add-bad_key, add-bad_name, add-bad_value, add-high, add-twice, add-in_use}
use Rattle.bib_edit.proofs.adding.judge.Goals as goal

pub returns-then-not-have_keys-clause-refused : goal.returns-then-not-have_keys-clause-refused
returns-then-not-have_keys-clause-refused g c asked adds db reads =
    of-addition c.args.db.now asked c.args.position c.args.entries.now adds db reads _ (λ E news it. add-bad_key E c.args.position c.args.entries.now news db it (sym c.have_keys.ensures ∙ c.if-not-have_keys.true))

pub returns-then-not-have_names_and_types-clause-refused : goal.returns-then-not-have_names_and_types-clause-refused
returns-then-not-have_names_and_types-clause-refused g c asked adds db reads =
    of-addition c.args.db.now asked c.args.position c.args.entries.now adds db reads _ (λ E news it. add-bad_name E c.args.position c.args.entries.now news db it (sym c.have_keys.ensures ∙ c.if-not-have_keys.false) (sym c.have_names_and_types.ensures ∙ c.if-not-have_names_and_types.true))

pub returns-then-not-branch-clause-refused : goal.returns-then-not-branch-clause-refused
returns-then-not-branch-clause-refused g c asked adds db reads =
    of-addition c.args.db.now asked c.args.position c.args.entries.now adds db reads _ (λ E news it. add-bad_value E c.args.position c.args.entries.now news db it (sym c.have_keys.ensures ∙ c.if-not-have_keys.false) (sym c.have_names_and_types.ensures ∙ c.if-not-have_names_and_types.false) (λ have. both_ways c.in_ok-have_values.field-0 c.if-not-branch.true (c.in_ok-have_values.ensures.1 have)))

pub returns-then-position-item_count-clause-refused : goal.returns-then-position-item_count-clause-refused
returns-then-position-item_count-clause-refused g c asked adds db reads =
    let count = c.item_count.ensures db reads in
    let bound = c.if-position-item_count.true in
    of-addition c.args.db.now asked c.args.position c.args.entries.now adds db reads _ (λ E news it. add-high E c.args.position c.args.entries.now news db it (sym c.have_keys.ensures ∙ c.if-not-have_keys.false) (sym c.have_names_and_types.ensures ∙ c.if-not-have_names_and_types.false) (c.in_ok-have_values.ensures.0 c.if-not-branch.false) (omega (arith, bound, count)))

pub returns-then-branch-clause-refused : goal.returns-then-branch-clause-refused
returns-then-branch-clause-refused g c asked adds db reads =
    let count = c.item_count.ensures db reads in
    let bound = c.if-position-item_count.false in
    let place : c.args.position ≤ length db.items = omega (arith, bound, count) in
    of-addition c.args.db.now asked c.args.position c.args.entries.now adds db reads _ (λ E news it. add-twice E c.args.position c.args.entries.now news db it (sym c.have_keys.ensures ∙ c.if-not-have_keys.false) (sym c.have_names_and_types.ensures ∙ c.if-not-have_names_and_types.false) (c.in_ok-have_values.ensures.0 c.if-not-branch.false) place (sym c.in_ok-has_field_twice.ensures ∙ c.if-branch.true))

pub returns-then-branch-2-clause-refused : goal.returns-then-branch-2-clause-refused
returns-then-branch-2-clause-refused g c asked adds db reads =
    let count = c.item_count.ensures db reads in
    let bound = c.if-position-item_count.false in
    let place : c.args.position ≤ length db.items = omega (arith, bound, count) in
    of-addition c.args.db.now asked c.args.position c.args.entries.now adds db reads _ (λ E news it. add-in_use E c.args.position c.args.entries.now news db it (sym c.have_keys.ensures ∙ c.if-not-have_keys.false) (sym c.have_names_and_types.ensures ∙ c.if-not-have_names_and_types.false) (c.in_ok-have_values.ensures.0 c.if-not-branch.false) place (sym c.in_ok-has_field_twice.ensures ∙ c.if-branch.false) (sym (c.in_ok-are_keys_taken.ensures db reads) ∙ c.if-branch-2.true))

pub returns-clause-addable : goal.returns-clause-addable
returns-clause-addable g c db reads =
    let count = c.item_count.ensures db reads in
    let bound = c.if-position-item_count.false in
    record {
      keys = sym c.have_keys.ensures ∙ c.if-not-have_keys.false;
      names = sym c.have_names_and_types.ensures ∙ c.if-not-have_names_and_types.false;
      values = c.in_ok-have_values.ensures.0 c.if-not-branch.false;
      place = omega (arith, bound, count);
      fields = sym c.in_ok-has_field_twice.ensures ∙ c.if-branch.false;
      free = sym (c.in_ok-are_keys_taken.ensures db reads) ∙ c.if-branch-2.false;
    }
