use Rattle.std.proofs.Common.{rules, [], map, append-nil, sym, ap, ◌∙◌}
use Rattle.std.specs.Borrow.{Bor}
use Rattle.bib_spec.specs.Text.{Text}
use Rattle.bib_spec.specs.Bytes.{tab}
use Rattle.bib_script.proofs.PartedLemmas.{parted_more, parted_end, words_more}
use Rattle.bib_script.proofs.lines.words_of.Goals as goal

pub returns-in-empty : goal.returns-in-empty
returns-in-empty c =
    let all = words_more c.part.words.items c.push.new.self.items c.split_at.result.0 _ [] _ c.part.invariant
    (parted_end tab c.part.rest.now c.split_at.result.0.now c.split_at.result.1.now (cc (c.split_at.ensures.front, c.word_len.ensures.len)) (cc (c.split_at.ensures.back, c.word_len.ensures.len)) c.in-empty.len_below)
    (search rules) in
    ap (map (λ (w : Bor Text). w.now)) c.from_vec.ensures ∙ sym (append-nil (map (λ (w : Bor Text). w.now) c.push.new.self.items)) ∙ all

pub part-preserved : goal.part-preserved
part-preserved c = words_more c.part.words.items c.push.new.self.items c.split_at.result.0 _ _ _ c.part.invariant
    (parted_more tab c.part.rest.now c.split_at.result.0.now c.split_at.result.1.now (cc (c.split_at.ensures.front, c.word_len.ensures.len)) (cc (c.split_at.ensures.back, c.word_len.ensures.len)) c.in-len1-up.len_at_least)
    (search rules)
