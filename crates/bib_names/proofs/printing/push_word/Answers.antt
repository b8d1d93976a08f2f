use Rattle.bib_names.proofs.Words.{◌≡◌, ◌∙◌, ℕ, ◌+◌, eqb, length, rules, refl, ap, arith, Text, shown, joined}
use Rattle.std.proofs.lemmas.Result.{on_ok_weaker}
use Rattle.bib_names.proofs.PrintLemmas.{word_then, word_last}
use Rattle.bib_names.proofs.printing.push_word.Goals as goal

pub returns-then-n-words : goal.returns-then-n-words
returns-then-n-words c =
    let group = c.args.group.now in
    let words = c.args.words.now in
    let n = c.args.n in
    let text : c.shown-shown.result.now ≡ shown group.form c.index-words-n.result.text = search rules in
    let out : Text = c.push_text.new.self in
    let is_last = eqb (n + 2) (length words) in
    let sep : c.next.inside.sep ≡ c.index-words-n-then-n-words.result.sep = search rules in
    on_ok_weaker c.push_between.result
    (λ h. word_then group c.args.out.now out c.push_between.new.out words n c.index-words-n.result c.index-words-n-then-n-words.result c.shown-shown.result.now is_last (omega arith)
    c.index-words-n.is c.index-words-n-then-n-words.is text c.in_ok-push_text.ensures refl (h ∙ ap (λ (s : ℕ). joined group out c.shown-shown.result.now s is_last) sep))
    c.push_between.ensures

pub returns : goal.returns
returns c =
    let group = c.args.group.now in
    let words = c.args.words.now in
    let n = c.args.n in
    let text : c.shown-shown.result.now ≡ shown group.form c.index-words-n.result.text = search rules in
    word_last group c.args.out.now c.push_text.new.self words n c.index-words-n.result c.shown-shown.result.now (omega arith) (omega arith) c.index-words-n.is text c.in_ok-push_text.ensures
