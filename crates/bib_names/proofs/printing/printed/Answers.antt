use Rattle.bib_names.proofs.Words.{◌≡◌, ◌∙◌, ◌<◌, ◌≤◌, List, length, get_or, refl, ap, arith, flat_map, printed_with_trail, Group}
use Rattle.bib_names.proofs.LoopSteps.{made_more, made_all}
use Rattle.bib_names.proofs.printing.printed.Goals as goal

pub loop-group-preserved : goal.loop-group-preserved
loop-group-preserved c =
    let groups = c.args.template.now.groups in
    let n = c.loop-group.group-index in
    let within : n < length groups = omega (arith, c.loop-group-test.true, ap (length {A = Group}) c.groups-group-items.ensures) in
    let item : c.group-item.result ≡ get_or groups n c.group-item.result = c.group-item.is ∙ ap (λ (gs : List Group). get_or gs n c.group-item.result) c.groups-group-items.ensures in
    rw (c.in_ok-push_printed.ensures, item)
    (made_more (flat_map (printed_with_trail c.args.name.now)) (printed_with_trail c.args.name.now) groups n _ c.loop-group.out.items _ (λ x rest. refl) within c.loop-group.invariant)

pub returns : goal.returns
returns c =
    let groups = c.args.template.now.groups in
    let end : length groups ≤ c.loop-group.group-index = omega (arith, c.loop-group-test.false, ap (length {A = Group}) c.groups-group-items.ensures) in
    c.from_vec.ensures ∙ made_all (flat_map (printed_with_trail c.args.name.now)) groups c.loop-group.group-index c.loop-group.out.items _ refl end c.loop-group.invariant
