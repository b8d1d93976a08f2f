use Rattle.bib_edit.proofs.Words.{◌≡◌, ◌<◌, is_some, if◌then◌else◌, length, sym, ◌∙◌, ap, IfOk-weaker, OfReading, IsHolderFault, IsHeldAt}
use Rattle.std.proofs.Common.{unwrap_or}
use Rattle.std.proofs.lemmas.Result.{IfErr-weaker}
use Rattle.edit_spec.specs.Edits.{Which, item_meant}
use Rattle.bib_edit.specs.Numbers.{which_of}
use Rattle.bib_edit.specs.Positions.{items_before_meant, count_meant, IsCountFault}
use Rattle.bib_edit.proofs.EntryPlaces.{before-named}
use Rattle.bib_edit.proofs.FoundItems.{held-within}
use Rattle.bib_edit.proofs.MeantItems.{meant-within}
use Rattle.bib_edit.proofs.MeantPlaces.{plain-place, plain-count, plain-fault, numbered-place, numbered-count}
use Rattle.bib_edit.proofs.positions.place_before.Goals as goal

pub returns-then-not-is_numbered-clause-place : goal.returns-then-not-is_numbered-clause-place
returns-then-not-is_numbered-clause-place g c =
    IfOk-weaker c.lone_entry.result (λ n. OfReading c.args.db.now (λ r. IsHeldAt c.args.key.now r n))
    (λ n. OfReading c.args.db.now (λ r. (count_meant c.args.key.now r ≡ 1) × (n ≡ items_before_meant c.args.key.now r.items)))
    (λ n told db reads.
    let plain = sym c.is_numbered.ensures ∙ c.if-not-is_numbered.true in
    let lone = told db reads in
    (plain-count c.args.key.now db plain ∙ lone.once, sym (plain-place c.args.key.now db plain ∙ before-named c.args.key.now db n lone.item)))
    c.lone_entry.ensures.lone

pub returns-then-not-is_numbered-clause-within : goal.returns-then-not-is_numbered-clause-within
returns-then-not-is_numbered-clause-within g c =
    IfOk-weaker c.lone_entry.result (λ n. OfReading c.args.db.now (λ r. IsHeldAt c.args.key.now r n)) (λ n. OfReading c.args.db.now (λ r. n < length r.items))
    (λ n told db reads. held-within c.args.key.now db n (told db reads)) c.lone_entry.ensures.lone

pub returns-then-not-is_numbered-clause-refused : goal.returns-then-not-is_numbered-clause-refused
returns-then-not-is_numbered-clause-refused g c =
    IfErr-weaker c.lone_entry.result (IsHolderFault c.args.db.now c.args.key.now) (IsCountFault c.args.db.now c.args.key.now)
    (λ fault told. plain-fault c.args.key.now c.args.db.now fault (sym c.is_numbered.ensures ∙ c.if-not-is_numbered.true) told) c.lone_entry.ensures.refused

pub returns-in-Some-clause-place : goal.returns-in-Some-clause-place
returns-in-Some-clause-place g c db reads =
    let numbered = sym c.is_numbered.ensures ∙ c.if-not-is_numbered.false in
    let is = c.in-Some.ensures db reads ∙ ap (λ (w : Which). item_meant w db.items) c.which_of.ensures in (
      numbered-count c.args.key.now db numbered ∙ ap (λ o. if is_some o then 1 else 0) (sym is),
      ap (λ o. unwrap_or o (length db.items)) is ∙ sym (numbered-place c.args.key.now db numbered),
    )

pub returns-in-Some-clause-within : goal.returns-in-Some-clause-within
returns-in-Some-clause-within g c db reads =
    meant-within (which_of c.args.key.now) db c.in-Some.n (sym (c.in-Some.ensures db reads ∙ ap (λ (w : Which). item_meant w db.items) c.which_of.ensures))

pub returns-in-None-clause-refused : goal.returns-in-None-clause-refused
returns-in-None-clause-refused g c = IsCountFault.none_meant (λ db reads.
    let numbered = sym c.is_numbered.ensures ∙ c.if-not-is_numbered.false in
    let is = c.in-None.ensures db reads ∙ ap (λ (w : Which). item_meant w db.items) c.which_of.ensures in
    numbered-count c.args.key.now db numbered ∙ ap (λ o. if is_some o then 1 else 0) (sym is))
