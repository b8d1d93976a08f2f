use Rattle.ris_format.proofs.Words.{◌∙◌, ◌++◌, [], ◌∷◌, ap, flat_map, RisLine, lines_of}
use Rattle.std.specs.Prelude.{List}
use Rattle.ris_format.specs.Mapping.{written}
use Rattle.ris_format.proofs.SectionLaws.{kept_whole}
use Rattle.ris_format.proofs.from_record.record_lines.Goals as goal

pub returns : goal.returns
returns c =
    c.in_ok-push_record.ensures
    ∙ ap (λ (ls : List RisLine). ls ++ flat_map (λ l. l ∷ []) (lines_of (written c.args.kind c.args.entry.now))) c.in_ok-lines.ensures.items
    ∙ kept_whole (lines_of (written c.args.kind c.args.entry.now))
