use Rattle.bib_names.proofs.Words.{◌≡◌, ◌∙◌, ◌++◌, List, sym, ap, append-nil, flat_map, drop_all, IfOk-weaker, NameWord, initial, finished}
use Rattle.bib_names.proofs.LabelNameLaws.{group_initials}
use Rattle.bib_names.proofs.label.initials.Goals as goal

pub returns : goal.returns
returns c =
    let words : List NameWord = c.args.words.now in
    let all : c.loop-word.out.items ≡ flat_map (λ (w : NameWord). initial w.text) words =
    sym (append-nil c.loop-word.out.items)
    ∙ ap (λ (ws : List NameWord). c.loop-word.out.items ++ flat_map (λ (w : NameWord). initial w.text) ws) (sym (drop_all c.loop-word.word-index words c.loop-word-test.false))
    ∙ c.loop-word.invariant in
    IfOk-weaker c.finished.result _ _ (λ r h part. h ∙ ap finished all ∙ sym (group_initials part words)) c.finished.ensures
