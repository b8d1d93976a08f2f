use Rattle.std.proofs.Common.{◌≡◌, ◌++◌, not, map, take, filter}
use Rattle.bib_spec.specs.Texts.{is_empty}
use Rattle.aux_text.proofs.citations.add_words.Given as goal

abbrev pub invariant-words : goal.invariant-words
invariant-words l = l.words.items ≡ l.initial.words.items ++ filter (λ word. not (is_empty word)) (map (λ word. word.now) (take l.word-index l.word-items))
