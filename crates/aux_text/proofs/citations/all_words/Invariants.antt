use Rattle.std.proofs.Common.{◌≡◌, map, take}
use Rattle.std.specs.List.{flat_map}
use Rattle.aux_text.specs.Citations.{words_in}
use Rattle.aux_text.proofs.citations.all_words.Given as goal

abbrev pub invariant-lines : goal.invariant-lines
invariant-lines l = l.words.items ≡ flat_map (words_in l.start) (map (λ line. line.now) (take l.line-index l.line-items))
