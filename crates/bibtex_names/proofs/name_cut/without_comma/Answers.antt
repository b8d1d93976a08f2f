use Rattle.bib_names.proofs.Words.{◌-◌, ap, ◌∙◌, arith, length}
use Rattle.bibtex_names.specs.Name.{is_von}
use Rattle.bibtex_names.specs.Name.{von_end, von_start}
use Rattle.bib_text.proofs.TrimLemmas.{prefix_len-le-up_to_last}
use Rattle.bibtex_names.proofs.name_cut.without_comma.Goals as goal

pub cut_at-requires-2-clause-ordered : goal.cut_at-requires-2-clause-ordered
cut_at-requires-2-clause-ordered c =
    let words = c.args.words.items in
    let end = c.von_end-end.ensures.end ∙ ap von_end c.as_slice.ensures.value in
    let start = c.von_start-start.ensures.start ∙ ap von_start c.as_slice-2.ensures.value in
    omega (arith, end, start, prefix_len-le-up_to_last is_von (length words - 1) words (omega (arith, end, c.if-end-eq0.false)))
