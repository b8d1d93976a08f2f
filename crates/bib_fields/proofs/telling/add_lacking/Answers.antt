use Rattle.std.proofs.Common.{map, ◌∙◌}
use Rattle.bib_fields.specs.PartsSeen.{part_seen}
use Rattle.bib_fields.proofs.PartsTold.{none-of, lacks, told-lacking, told-having}
use Rattle.bib_fields.proofs.telling.add_lacking.Goals as goal

pub returns-then-is_none : goal.returns-then-is_none
returns-then-is_none c mb mo mt eb eo et is_b is_o is_t =
    told-lacking mb eb mo eo mt et (map part_seen c.args.parts.now.items) (map part_seen c.add_field.new.parts.items) c.args.field.now.name.now c.is_none.result
    (none-of c.get.result c.is_none.result c.is_none.ensures ∙ lacks c.args.o.now mo eo c.args.field.now.name.now c.get.result is_o c.get.ensures) c.if-is_none.true (c.in_ok-add_field.ensures mb mo mt eb eo et is_b is_o is_t)

pub returns : goal.returns
returns c mb mo mt eb eo et is_b is_o is_t =
    told-having mb eb mo eo mt et (map part_seen c.args.parts.now.items) c.args.field.now.name.now c.is_none.result (none-of c.get.result c.is_none.result c.is_none.ensures ∙ lacks c.args.o.now mo eo c.args.field.now.name.now c.get.result is_o c.get.ensures) c.if-is_none.false
