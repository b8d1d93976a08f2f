use Rattle.std.proofs.Common.{sym, ◌∙◌, ap}
use Rattle.bib_scan.specs.View.{View}
use Rattle.bib_definitions.specs.MacrosSeen.{macros_seen}
use Rattle.bib_sayings.proofs.EntriesAgree.{entry-items, definition-items}
use Rattle.bib_sayings.proofs.items.views_agree.Goals as goal

pub returns-in_ok-same-in-Entry-Entry : goal.returns-in_ok-same-in-Entry-Entry
returns-in_ok-same-in-Entry-Entry c ia ib is_a is_b seen_a seen_b =
    entry-items (macros_seen c.args.macros_a.now) (macros_seen c.args.macros_b.now) ia ib c.args.a.now c.args.b.now c.in_ok-same-in-Entry-Entry.same is_a is_b seen_a seen_b
    (sym (ap (λ (v : View). v.kind) seen_a) ∙ sym c.kind.ensures ∙ c.in-Entry-Entry.is-0) (sym (ap (λ (v : View). v.kind) seen_b) ∙ sym c.kind-2.ensures ∙ c.in-Entry-Entry.is-1)
    c.in_ok-same-in-Entry-Entry.ensures

pub returns-in_ok-same-in-Macro-Macro : goal.returns-in_ok-same-in-Macro-Macro
returns-in_ok-same-in-Macro-Macro c ia ib is_a is_b seen_a seen_b =
    definition-items (macros_seen c.args.macros_a.now) (macros_seen c.args.macros_b.now) ia ib c.args.a.now c.args.b.now c.in_ok-same-in-Macro-Macro.same is_a is_b seen_a seen_b
    (sym (ap (λ (v : View). v.kind) seen_a) ∙ sym c.kind.ensures ∙ c.in-Macro-Macro.is-0) (sym (ap (λ (v : View). v.kind) seen_b) ∙ sym c.kind-2.ensures ∙ c.in-Macro-Macro.is-1)
    c.in_ok-same-in-Macro-Macro.ensures
