use Rattle.std.proofs.Common.{◌∷◌, ◌-◌, length, take, drop, arith, ap, sym, ◌∙◌}
use Rattle.bib_spec.specs.Bytes.{line_feed}
use Rattle.bib_spec.specs.Text.{Text}
use Rattle.bib_script.specs.Parting.{lines_of}
use Rattle.bib_script.proofs.PartedLemmas.{parted_more, parted_end, line_more, line_last}
use Rattle.bib_script.proofs.lines.split_line.Goals as goal

pub returns-in-len1-up-clause-lines : goal.returns-in-len1-up-clause-lines
returns-in-len1-up-clause-lines c =
    let next : Text = take (length c.split_at.result.1.now - 1) (drop 1 c.split_at.result.1.now) in
    line_more c.args.text.now c.split_at.result.0.now next
    (parted_more line_feed c.args.text.now c.split_at.result.0.now c.split_at.result.1.now (cc (c.split_at.ensures.front, c.line_len.ensures.len)) (cc (c.split_at.ensures.back, c.line_len.ensures.len)) c.in-len1-up.len_at_least)
    ∙ ap (λ (line : Text). line ∷ lines_of next) (sym c.without_return.ensures)

pub returns-in-empty-clause-lines : goal.returns-in-empty-clause-lines
returns-in-empty-clause-lines c =
    line_last c.args.text.now c.split_at.result.0.now c.split_at.result.1.now
    (parted_end line_feed c.args.text.now c.split_at.result.0.now c.split_at.result.1.now (cc (c.split_at.ensures.front, c.line_len.ensures.len)) (cc (c.split_at.ensures.back, c.line_len.ensures.len)) c.in-empty.len_below)
    (omega (arith, c.requires, c.split_at.ensures.front_len, c.split_at.ensures.back_len, c.in-empty.len_below))
    c.in-empty.len_below
