use Rattle.std.proofs.Common.{◌≡◌, ℕ, ◌-◌, List, length, take, sym, ap, ◌∙◌, arith}
use Rattle.std.specs.Prelude.{not}
use Rattle.std.proofs.lemmas.List.{take_all}
use Rattle.bib_spec.specs.Text.{is_space}
use Rattle.bib_text.specs.Trimming.{up_to_last}
use Rattle.bib_text.proofs.TrimLemmas.{IsTrimming-less, IsTrimming-done, IsTrimming-none}
use Rattle.bib_units.proofs.spaces.words_len.Goals as goal

pub end-preserved : goal.end-preserved
end-preserved c =
    IsTrimming-less (λ b. not (is_space b)) _ _ c.end.end _ 0 (omega arith) c.end.invariant (ap not (sym c.is_space.ensures ∙ c.if-is_space.true))

-- the whole text is looked at
whole : (text : List ℕ) → up_to_last (λ b. not (is_space b)) (take (length text) text) ≡ up_to_last (λ b. not (is_space b)) text
whole text = ap (up_to_last (λ b. not (is_space b))) (take_all (length text) text (omega arith))

pub returns-else-is_space-clause-len : goal.returns-else-is_space-clause-len
returns-else-is_space-clause-len c =
    IsTrimming-done (λ b. not (is_space b)) c.args.text.now _ c.end.end (c.end.end - 1) 0 (omega arith) c.end.invariant (ap not (sym c.is_space.ensures ∙ c.if-is_space.false)) ∙ whole c.args.text.now

pub returns-after-end-clause-len : goal.returns-after-end-clause-len
returns-after-end-clause-len c = IsTrimming-none (λ b. not (is_space b)) c.args.text.now _ c.end.end (omega arith) c.end.invariant ∙ whole c.args.text.now
