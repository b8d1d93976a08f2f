use Rattle.std.proofs.Common.{Bool, List, length, filter, ◌∙◌, ap}
use Rattle.std.specs.List.{range_with_len}
use Rattle.extract_spec.specs.Extract.{kept, keeps_for}
use Rattle.bib_extract.specs.Marks.{is_marked}
use Rattle.bib_extract.proofs.WalkedItems.{length-kept}
use Rattle.bib_extract.proofs.extracting.kept.Goals as goal

pub returns-clause-numbers : goal.returns-clause-numbers
returns-clause-numbers g c r reads =
    let marks = c.as_slice.ensures.value ∙ c.in_ok-marks.ensures.marks r reads in
    c.from_vec.ensures ∙ c.in_ok-marked_numbers.ensures
    ∙ ap (λ (ms : List Bool). filter (is_marked ms) (range_with_len 0 (length ms))) marks
    ∙ ap (λ n. filter (is_marked (kept r c.args.keys.now)) (range_with_len 0 n)) (length-kept (keeps_for r c.args.keys.now) 0 r.items)
