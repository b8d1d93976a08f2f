use Rattle.ris_text.proofs.Words.{◌+◌, Bool, ◌∷◌, sym, ap, ◌∙◌, arith, Text, Line}
use Rattle.ris_text.specs.Code.{seen}
use Rattle.ris_text.specs.Skipping.{skips_at}
use Rattle.ris_text.proofs.SkipLemmas.{IsTaken, IsNumbered-more, skips_at-yes, skips_at-no, skips_at-end}
use Rattle.ris_text.proofs.skipping.SkippedLines.next.Goals as goal

pub line-init : goal.line-init
line-init c = record { same = c.self.view_is; numbered = c.self.invariant }

pub invariant_of-after : goal.invariant_of-after
invariant_of-after c =
    IsNumbered-more c.self.inside.file.now c.bytes_at-bytes.result.now c.line.place c.line.number (c.line.place + c.min-place.result)
    c.line.invariant.numbered (omega arith) c.bytes_at-bytes.ensures (ap (λ n. c.line.place + n) c.min-place.ensures)

pub returns-then-skipped-clause-some : goal.returns-then-skipped-clause-some
returns-then-skipped-clause-some c =
    let file : Text = c.self.inside.file.now in
    let bytes : Text = c.bytes_at-bytes.result.now in
    let line : Line = seen c.line_at-class.result in
    let taken : IsTaken file bytes c.line.place c.line.number (c.line.place + c.min-place.result) line =
    record {
      numbered = c.line.invariant.numbered;
      some = omega arith;
      here = c.bytes_at-bytes.ensures;
      next = ap (λ n. c.line.place + n) c.min-place.ensures;
      seen = c.line_at-class.ensures;
    } in
    sym c.line.invariant.same
    ∙ skips_at-yes file bytes c.line.inside c.line.place c.line.number (c.line.place + c.min-place.result) line taken (sym c.is_skipped-skipped.ensures ∙ c.if-skipped.true)
    ∙ ap (λ (inside : Bool). record { number = c.line.number; place = c.line.place; bytes = bytes } ∷ skips_at file inside (c.line.place + c.min-place.result)) (sym c.inside_after-inside.ensures)

pub line-preserved : goal.line-preserved
line-preserved c =
    let file : Text = c.self.inside.file.now in
    let bytes : Text = c.bytes_at-bytes.result.now in
    let line : Line = seen c.line_at-class.result in
    let taken : IsTaken file bytes c.line.place c.line.number (c.line.place + c.min-place.result) line =
    record {
      numbered = c.line.invariant.numbered;
      some = omega arith;
      here = c.bytes_at-bytes.ensures;
      next = ap (λ n. c.line.place + n) c.min-place.ensures;
      seen = c.line_at-class.ensures;
    } in
    record {
      same =
          ap (λ (inside : Bool). skips_at file inside (c.line.place + c.min-place.result)) c.inside_after-inside.ensures
          ∙ sym (skips_at-no file bytes c.line.inside c.line.place c.line.number (c.line.place + c.min-place.result) line taken (sym c.is_skipped-skipped.ensures ∙ c.if-skipped.false))
          ∙ c.line.invariant.same;
      numbered =
          IsNumbered-more file bytes c.line.place c.line.number (c.line.place + c.min-place.result) c.line.invariant.numbered (omega arith) c.bytes_at-bytes.ensures
          (ap (λ n. c.line.place + n) c.min-place.ensures);
    }

pub returns-clause-none : goal.returns-clause-none
returns-clause-none c = sym c.line.invariant.same ∙ skips_at-end c.self.inside.file.now c.line.inside c.line.place (omega arith)
