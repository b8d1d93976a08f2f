use Rattle.bib_scan.proofs.Words.{◌≡◌, ◌≢◌, ℕ, ◌-◌, length, sym, ap, subst, ◌∙◌, arith, eqb-true, eqb-false, length-append, name_limit, IsReadFault, Text, halt_of, Span, Progress, IsItemOf, AreAllOf}
use Rattle.bib_spec.specs.Fault.{no_memory}
use Rattle.bib_scan.proofs.LayoutLemmas.{commands_fault, commands_more}
use Rattle.bib_scan.proofs.NoteLemmas.{key_within, noted_more}
use Rattle.bib_scan.proofs.FailsAtLaws.{stops_at}
use Rattle.bib_scan.proofs.KindLaws.{read_fault}
use Rattle.bib_scan.proofs.ReaderLaws.{item_here, note_here, all_here}
use Rattle.bib_scan.proofs.reader.Reader.next_item.Goals as goal

pub overflow_sub-result : goal.overflow_sub-result
overflow_sub-result c =
    let file : Text = c.self.inside.bytes.now in
    let some : length c.self.inside.rest.now ≢ 0 = eqb-false _ _ (sym c.is_empty.ensures ∙ c.if-is_empty.false) in
    let fails = commands_fault name_limit file c.self.inside.rest.now (halt_of c.in-Err.stop) _ c.self.invariant.2 (omega arith) c.in-Err.ensures.read in
    let at = stops_at name_limit (omega arith) file (halt_of c.in-Err.stop) fails in
    omega (arith, ap (length {A = ℕ}) at.split, length-append at.front c.in-Err.stop.rest.now)

pub returns-in-Err-clause-fault : goal.returns-in-Err-clause-fault
returns-in-Err-clause-fault c =
    let file : Text = c.self.inside.bytes.now in
    let some : length c.self.inside.rest.now ≢ 0 = eqb-false _ _ (sym c.is_empty.ensures ∙ c.if-is_empty.false) in
    let fails = commands_fault name_limit file c.self.inside.rest.now (halt_of c.in-Err.stop) _ c.self.invariant.2 (omega arith) c.in-Err.ensures.read in
    let fault = read_fault file (halt_of c.in-Err.stop) c.self.invariant.0 fails in
    let same : file ≡ c.args.self.now.file = ap (λ (p : Progress). p.file) c.self.view_is in
    subst (λ (t : Text). IsReadFault t c.number.result (length file - length c.in-Err.stop.rest.now)) same (rw c.number.ensures fault)

pub of-note-requires-clause-key : goal.of-note-requires-clause-key
of-note-requires-clause-key c = key_within c.self.inside.rest.now c.in-Ok.read.1 c.in-Ok.ensures.head

pub returns-in-Err-keep-clause-fault : goal.returns-in-Err-keep-clause-fault
returns-in-Err-keep-clause-fault c = subst (λ (t : Text). IsReadFault t 10 0) (ap (λ (p : Progress). p.file) c.self.view_is) (no_memory c.self.invariant.0)

pub invariant_of-self-2 : goal.invariant_of-self-2
invariant_of-self-2 c =
    let some : length c.self.inside.rest.now ≢ 0 = eqb-false _ _ (sym c.is_empty.ensures ∙ c.if-is_empty.false) in
    let next = rw c.next_command.ensures.read at c.text_from-self-inside.ensures in
    let more = commands_more name_limit _ _ _ _ _ c.self.invariant.2 c.in-Ok.ensures.read c.in-Ok.ensures.shorter next in
    let start : c.of_left-span.result.start ≡ length c.self.inside.bytes.now - length c.self.inside.rest.now = ap (λ (s : Span). s.start) c.of_left-span.ensures in
    let noted = noted_more _ _ _ _ _ _ c.of_left-span.result c.of-note.result c.in-Ok.read.1 c.self.invariant.3 (omega arith) c.in-Ok.ensures.read next start c.in-Ok.ensures.head c.of-note.ensures in
    (c.self.invariant.0, c.self.invariant.1, rw (c.in-Ok-keep.ensures.spans, c.of_left-span.ensures) more, rw (c.in-Ok-keep.ensures.notes, c.in-Ok-keep.ensures.spans) noted)

pub returns-clause-item : goal.returns-clause-item
returns-clause-item c =
    let some : length c.self.inside.rest.now ≢ 0 = eqb-false _ _ (sym c.is_empty.ensures ∙ c.if-is_empty.false) in
    let next = rw c.next_command.ensures.read at c.text_from-self-inside.ensures in
    subst (λ (p : Progress). IsItemOf p.file p.count c.split_at.result.0.now c.of_left-span.result.start) c.self.view_is
    (item_here c.self.inside.bytes.now c.self.inside.rest.now c.in-Ok.read.0.now _ _ c.self.invariant.2 c.self.invariant.3 (omega arith) c.in-Ok.ensures.read
    c.text_from-self-inside.result.now c.of_left-span.result c.in-Ok.ensures.shorter next c.of_left-span.ensures c.split_at.result.0.now c.split_at.ensures.front)

pub returns-clause-note : goal.returns-clause-note
returns-clause-note c =
    let some : length c.self.inside.rest.now ≢ 0 = eqb-false _ _ (sym c.is_empty.ensures ∙ c.if-is_empty.false) in
    note_here c.self.inside.bytes.now c.self.inside.rest.now c.in-Ok.read.0.now _ _ c.self.invariant.2 c.self.invariant.3 (omega arith) c.in-Ok.ensures.read
    c.split_at.result.0.now c.of-note.result c.in-Ok.read.1 c.split_at.ensures.front c.in-Ok.ensures.head c.of-note.ensures

pub returns-then-is_empty-clause-done : goal.returns-then-is_empty-clause-done
returns-then-is_empty-clause-done c =
    let none : length c.self.inside.rest.now ≡ 0 = eqb-true _ _ (sym c.is_empty.ensures ∙ c.if-is_empty.true) in
    λ _. subst (λ (p : Progress). (p.left ≡ 0) × AreAllOf p.file p.count) c.self.view_is (none, all_here c.self.inside.bytes.now c.self.inside.rest.now _ c.self.invariant.2 none)
