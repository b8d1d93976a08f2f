use Rattle.bib_names.proofs.Words.{◌≡◌, ◌∙◌, Bor, refl, ap, option_or, Text, LabelParts}
use Rattle.std.proofs.Common.{Option, Some, None}
use Rattle.std.specs.Option.{option_copied}
use Rattle.bib_names.proofs.label_fields.Inherited.with.Goals as goal

-- the first of two that are lent
copied-or : {X : Type 0} (a b r : Option (Bor X)) (first second : Option X) → r ≡ option_or a b → option_copied a ≡ first → option_copied b ≡ second → option_copied r ≡ option_or first second
copied-or a b r first second is one other = ap option_copied is ∙ either a b ∙ ap (λ (o : Option _). option_or o (option_copied b)) one ∙ ap (option_or first) other
  where
    either : {X : Type 0} (a b : Option (Bor X)) → option_copied (option_or a b) ≡ option_or (option_copied a) (option_copied b)
    either None b = refl
    either (Some x) b = refl

abbrev made : Option (Option Text) → Option (Option Text) → Option Text → Option Text → LabelParts
made author editor key year = record { author = author; editor = editor; key = key; year = year }

pub returns : goal.returns
returns c =
    let is = c.self.view_is in
    λ i. made
    (copied-or c.self.inside.author c.as_ref.result c.or.result c.args.self.author c.args.parts.now.author c.or.ensures (ap (λ (p : LabelParts). p.author) is) c.as_ref.ensures.value i)
    (copied-or c.self.inside.editor c.as_ref-2.result c.or-2.result c.args.self.editor c.args.parts.now.editor c.or-2.ensures (ap (λ (p : LabelParts). p.editor) is) c.as_ref-2.ensures.value i)
    (copied-or c.self.inside.key c.as_ref-3.result c.or-3.result c.args.self.key c.args.parts.now.key c.or-3.ensures (ap (λ (p : LabelParts). p.key) is) c.as_ref-3.ensures.value i)
    (copied-or c.self.inside.year c.as_ref-4.result c.or-4.result c.args.self.year c.args.parts.now.year c.or-4.ensures (ap (λ (p : LabelParts). p.year) is) c.as_ref-4.ensures.value i)
