use Rattle.ris_format.proofs.Words.{◌∙◌, sym, ap}
use Rattle.std.proofs.Common.{not}
use Rattle.ris_format.proofs.LeftOut.{dropped_by_rules, empty_is_kept}
use Rattle.ris_format.proofs.from_record.is_dropped.Goals as goal

pub returns-then-not-has_bytes : goal.returns-then-not-has_bytes
returns-then-not-has_bytes c = sym (empty_is_kept c.args.kind (c.args.name.now, c.args.text.now) (sym c.has_bytes.ensures ∙ c.if-not-has_bytes.true))

pub returns : goal.returns
returns c =
    ap not c.in_ok-is_carried.ensures
    ∙ sym (dropped_by_rules c.args.kind (c.args.name.now, c.args.text.now) (sym c.has_bytes.ensures ∙ c.if-not-has_bytes.false))
