use Rattle.bib_ris.proofs.Words.{◌∙◌, ◌++◌, ◌∷◌, [], List, sym, ap, subst, Text}
use Rattle.std.proofs.Common.{cond}
use Rattle.bib_spec.specs.Text.{folded}
use Rattle.bib_spec.specs.Texts.{raw_text, field_text}
use Rattle.bib_spec.specs.Records.{Field}
use Rattle.bib_definitions.specs.MacrosSeen.{macros_seen}
use Rattle.bib_store.specs.Gathering.{with_field}
use Rattle.ris_format.specs.Kinds.{kind_of_entry}
use Rattle.ris_format.specs.Mapping.{is_dropped}
use Rattle.bib_ris.specs.Dropped.{dropped_line}
use Rattle.bib_ris.specs.Judging.{is_passed, IsJudged}
use Rattle.bib_ris.proofs.JudgedFields.{passed-over, judged-more}
use Rattle.bib_ris.proofs.judging.judge.Goals as goal

pub returns-then-is_passed : goal.returns-then-is_passed
returns-then-is_passed c v is same all h =
    passed-over c.args.kind_name.now c.args.key.now all c.args.seen.now.items c.args.lines.now.items h (record { name = c.args.name.now; raw = raw_text (macros_seen c.args.macros.now) v })
    (ap (λ (names : List Text). is_passed names c.args.name.now) (sym c.as_slice.ensures.value) ∙ sym c.is_passed.ensures ∙ c.if-is_passed.true)

pub returns : goal.returns
returns c v is same all h =
    let kind = c.args.kind_name.now in
    let key = c.args.key.now in
    let x : Field = record { name = c.args.name.now; raw = raw_text (macros_seen c.args.macros.now) v } in
    let before = c.args.lines.now.items in
    let old : List Text = c.args.seen.now.items in
    let told = c.in_ok-add_dropped.ensures v is same
    ∙ ap (λ (n : Text). before ++ cond (is_dropped (kind_of_entry kind) (n, field_text x.raw)) (dropped_line key n) []) (c.as_slice-2.ensures ∙ c.in_ok-name.ensures) in
    let seen = c.in_ok-push.ensures.items ∙ ap (λ (n : Text). old ++ n ∷ []) c.in_ok-name.ensures in
    subst (λ (names : List Text). IsJudged kind key (with_field all x) names c.add_dropped.new.lines.items) (sym seen)
    (subst (IsJudged kind key (with_field all x) (old ++ folded c.args.name.now ∷ [])) (sym told)
    (judged-more kind key all old before h x (ap (λ (names : List Text). is_passed names c.args.name.now) (sym c.as_slice.ensures.value) ∙ sym c.is_passed.ensures ∙ c.if-is_passed.false)))
