use Rattle.std.proofs.Common.{◌≡◌, ◌≢◌, ◌∙◌, false, sym, ap}
use Rattle.std.proofs.lemmas.Bool.{both_ways}
use Rattle.bib_spec.specs.Text.{folded}
use Rattle.bib_index.specs.KeyIndex.{ids_in, is_text, has_text}
use Rattle.bib_index.proofs.Holding.{other_text, renamed, rekeyed}
use Rattle.bib_index.proofs.key_index.KeyIndex.rekey.Goals as goal

pub returns-then-eq_ignore_ascii_case-clause-ok : goal.returns-then-eq_ignore_ascii_case-clause-ok
returns-then-eq_ignore_ascii_case-clause-ok c texts some is =
    renamed texts c.args.order.now (ids_in c.args.self.now) c.args.old.now c.args.new.now c.args.id some (c.eq_ignore_ascii_case.ensures.test.0 c.if-eq_ignore_ascii_case.true) is

pub returns-clause-ok : goal.returns-clause-ok
returns-clause-ok c texts some is =
    let old = c.args.old.now in
    let new = c.args.new.now in
    let apart : folded old ≢ folded new = λ e. both_ways c.eq_ignore_ascii_case.result c.if-eq_ignore_ascii_case.false (c.eq_ignore_ascii_case.ensures.test.1 e) in
    let lacks : has_text texts (folded new) c.args.id ≡ false = ap (λ o. is_text o (folded new)) some ∙ other_text (folded new) (folded old) (λ e. apart (sym e)) in
    rekeyed texts c.args.order.now (ids_in c.args.self.now) (ids_in c.put_in.new.self) (ids_in c.take_out.new.self) old new c.args.id some apart is
    (c.in_ok-put_in.ensures.ok (has_text texts (folded new)) lacks (is (folded new))) c.take_out.ensures
