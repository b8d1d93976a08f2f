use Rattle.std.proofs.Common.{◌+◌, ◌≤◌, Some, List, ◌++◌, ◌∷◌, [], length, get_or, drop, ◌∙◌, sym, ap, ap₂, arith}
use Rattle.bib_spec.specs.Text.{Text}
use Rattle.bib_c.specs.Words.{words_of}
use Rattle.bib_c.proofs.FlatWords.{found_before, before_all, words_of-more, words_of-stops, words_of-all}
use Rattle.bib_c.proofs.words.words_of.Goals as goal

pub word-init : goal.word-init
word-init c = before_all (words_of c.args.text.now c.args.lens.now) ∙ ap (λ (found : List Text). found_before found (words_of c.args.text.now c.args.lens.now)) (sym c.new-words.ensures.items)

pub returns-then-len-rest : goal.returns-then-len-rest
returns-then-len-rest c = sym (c.word.invariant ∙ words_of-stops c.word.words.items c.word.rest.now c.args.lens.now c.word.len-index c.word-test.true c.if-len-rest.true)

pub word-preserved : goal.word-preserved
word-preserved c =
    let lens = c.args.lens.now in
    let k = c.word.len-index in
    let rest = c.word.rest.now in
    let found = c.word.words.items in
    let within : get_or lens k 0 ≤ length rest = omega (arith, c.if-len-rest.false) in
    c.word.invariant
    ∙ words_of-more found rest lens k c.word-test.true within
    ∙ ap₂ (λ (words : List Text) (more : Text). found_before words (words_of more (drop (k + 1) lens)))
    (ap (λ (word : Text). found ++ word ∷ []) (sym c.split_at.ensures.front ∙ sym c.in_ok-copied.ensures) ∙ sym (c.in_ok-push.ensures.items))
    (sym c.split_at.ensures.back)

pub returns : goal.returns
returns c = sym (c.word.invariant ∙ words_of-all c.word.words.items c.word.rest.now c.args.lens.now c.word.len-index (omega (arith, c.word-test.false)) ∙ ap Some (sym c.from_vec.ensures))
