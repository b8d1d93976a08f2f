use Rattle.bib_definitions.specs.MacrosSeen.{macros_seen}
use Rattle.bib_ris.proofs.JudgedFields.{IsJudging}
use Rattle.bib_ris.proofs.judging.judge_all.Given as goal

abbrev pub invariant-fields : goal.invariant-fields
invariant-fields l =
    record {
      can : (goal.iterator-fields).can_next l.field-iterator;
      finite : (goal.iterator-fields).is_finite l.field-iterator;
      so_far : IsJudging l.kind_name l.key (macros_seen l.macros) l.initial.seen.items l.seen.items l.initial.lines.items l.lines.items l.fn.fields l.field-iterator;
    }
