use Rattle.bib_scan.proofs.Words.{ℕ, List, ◌≡◌, ◌-◌, ◌<◌, ◌∙◌, sym, ap, subst, length, take, arith, Some, length-drop, Part, Value, parts_of, IsPartsOf, PartSpan}
use Rattle.std.specs.Prelude.{slice_get}
use Rattle.bib_scan.proofs.TakenApart.{kept_part, part_low, part_text, one_value}
use Rattle.bib_scan.proofs.parts.Parts.part.Goals as goal

pub text_from-requires : goal.text_from-requires
text_from-requires c =
    let spans = c.self.inside.spans.items in
    let value = subst (IsPartsOf c.args.bytes.now) (sym c.self.view_is) c.requires.value in
    let low = subst (λ (ss : List PartSpan). c.args.n < length ss) (sym c.self.view_is) c.requires.n_in_range in
    let here = part_low _ _ _ _ (kept_part c.args.bytes.now spans c.args.n c.index-span.result.now value.0 value.3 value.2 low c.index-span.ensures) in
    omega (arith, here.0, here.1)

pub overflow_sub-span : goal.overflow_sub-span
overflow_sub-span c =
    let spans = c.self.inside.spans.items in
    let value = subst (IsPartsOf c.args.bytes.now) (sym c.self.view_is) c.requires.value in
    let low = subst (λ (ss : List PartSpan). c.args.n < length ss) (sym c.self.view_is) c.requires.n_in_range in
    (part_low _ _ _ _ (kept_part c.args.bytes.now spans c.args.n c.index-span.result.now value.0 value.3 value.2 low c.index-span.ensures)).0

pub split_at-requires : goal.split_at-requires
split_at-requires c =
    let spans = c.self.inside.spans.items in
    let value = subst (IsPartsOf c.args.bytes.now) (sym c.self.view_is) c.requires.value in
    let low = subst (λ (ss : List PartSpan). c.args.n < length ss) (sym c.self.view_is) c.requires.n_in_range in
    let here = part_low _ _ _ _ (kept_part c.args.bytes.now spans c.args.n c.index-span.result.now value.0 value.3 value.2 low c.index-span.ensures) in
    omega (arith, here.0, here.1, ap (length {A = ℕ}) c.text_from.ensures, length-drop c.index-span.result.now.start c.args.bytes.now)

pub returns : goal.returns
returns c v is whole =
    let spans = c.self.inside.spans.items in
    let span = c.index-span.result.now in
    let value = subst (IsPartsOf c.args.bytes.now) (sym c.self.view_is) c.requires.value in
    let low = subst (λ (ss : List PartSpan). c.args.n < length ss) (sym c.self.view_is) c.requires.n_in_range in
    let at = kept_part c.args.bytes.now spans c.args.n span value.0 value.3 value.2 low c.index-span.ensures in
    let text = c.split_at.ensures.front ∙ ap (take (span.end - span.start)) c.text_from.ensures ∙ part_text _ _ _ _ at in
    let part = c.part_in.ensures at.part (sym (ap (λ (x : PartSpan). x.kind) at.is)) (sym text) in
    let same : value.0 ≡ v = one_value value.0 v value.1 is (value.2 ∙ sym whole) in
    ap (λ (w : Value). slice_get (parts_of w) c.args.n) (sym same) ∙ at.found ∙ ap (λ (p : Part). Some p) (sym part)
