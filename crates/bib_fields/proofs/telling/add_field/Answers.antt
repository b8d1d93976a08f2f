use Rattle.std.proofs.Common.{map, ◌∙◌, ap}
use Rattle.bib_fields.specs.PartsSeen.{part_seen}
use Rattle.bib_fields.proofs.Collected.{map-snoc}
use Rattle.bib_fields.proofs.PartsTold.{told-one, told-none}
use Rattle.bib_fields.proofs.telling.add_field.Goals as goal

pub returns-then-branch : goal.returns-then-branch
returns-then-branch c mb mo mt eb eo et is_b is_o is_t =
    told-one mb eb mo eo mt et (map part_seen c.args.parts.now.items) (map part_seen c.push.new.self.items) c.args.field.now.name.now c.in_ok-lower.lower c.in_ok-is_in_conflict.field-0
    (c.in_ok-is_in_conflict.ensures mb mo mt eb eo et is_b is_o is_t) c.if-branch.true c.in_ok-lower.ensures
    (ap (map part_seen) c.in_ok-push.ensures.items ∙ map-snoc part_seen c.args.parts.now.items _)

pub returns : goal.returns
returns c mb mo mt eb eo et is_b is_o is_t =
    told-none mb eb mo eo mt et (map part_seen c.args.parts.now.items) c.args.field.now.name.now c.in_ok-is_in_conflict.field-0 (c.in_ok-is_in_conflict.ensures mb mo mt eb eo et is_b is_o is_t) c.if-branch.false
