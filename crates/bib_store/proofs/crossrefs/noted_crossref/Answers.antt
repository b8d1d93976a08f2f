use Rattle.bib_store.proofs.Words.{Some, None, sym, ap, ◌∙◌, field_text, View, field_seen}
use Rattle.bib_store.proofs.SaidTexts.{entry_says}
use Rattle.bib_store.proofs.FirstCrossrefs.{entry_finds, entry_finds_none}
use Rattle.bib_store.proofs.SettledCrossrefs.{settled_none, settled_fields}
use Rattle.bib_store.proofs.crossrefs.noted_crossref.Goals as goal

pub returns-in_ok-text-in-Some-clause-text : goal.returns-in_ok-text-in-Some-clause-text
returns-in_ok-text-in-Some-clause-text g c i is entry seen =
    let m = g.M.MacroTable.macros c.args.macros.now in
    let v = c.args.entry.now in
    let found = c.in-Some.ensures i.tree is (sym (c.body.ensures ∙ ap (λ (w : View). w.body) seen)) (c.requires i is seen) in
    entry_says m v (Some c.in_ok-text-in-Some.text) (entry_finds m v i (field_seen c.in-Some.field) c.in_ok-text-in-Some.text entry seen found c.in_ok-text-in-Some.ensures.text) i is entry seen

pub returns-in_ok-text-in-Some-clause-settled : goal.returns-in_ok-text-in-Some-clause-settled
returns-in_ok-text-in-Some-clause-settled g c settled m i is entry seen says =
    let v = c.args.entry.now in
    let found = c.in-Some.ensures i.tree is (sym (c.body.ensures ∙ ap (λ (w : View). w.body) seen)) (c.requires i is seen) in
    let text = c.is_settled_value.ensures settled in
    settled_fields v (Some (field_text text.0))
    (λ before rows are fields n. entry_finds n v i (field_seen c.in-Some.field) (field_text text.0) entry seen found (λ w good e. ap field_text (sym (text.1 w good e n))) before rows are fields)
    i is entry seen

pub returns-in-None-clause-text : goal.returns-in-None-clause-text
returns-in-None-clause-text g c i is entry seen =
    let m = g.M.MacroTable.macros c.args.macros.now in
    let v = c.args.entry.now in
    let none = c.in-None.ensures i.tree is (sym (c.body.ensures ∙ ap (λ (w : View). w.body) seen)) (c.requires i is seen) in
    entry_says m v None (entry_finds_none m v i entry seen none) i is entry seen

pub returns-in-None-clause-settled : goal.returns-in-None-clause-settled
returns-in-None-clause-settled g c settled m i is entry seen says = settled_none m i entry says
