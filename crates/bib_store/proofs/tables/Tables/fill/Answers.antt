use Rattle.bib_store.proofs.Words.{◌+◌, ℕ, length, inl, inr, ⊎_elim, refl, ◌∙◌, ap, subst, arith, no_memory, Text, ok_always, IsLayoutOf, IsItemOf, AreAllOf}
use Rattle.bib_store.specs.Readings.{IsTextFault}
use Rattle.bib_store.proofs.WalkedFiles.{read_same, read_more, read_over, read_all, with_len, fault_cases}
use Rattle.bib_store.proofs.tables.Tables.fill.Goals as goal

pub returns-in-Err-clause-fault : goal.returns-in-Err-clause-fault
returns-in-Err-clause-fault c =
    let file : Text = c.args.bytes.now in
    let short = c.walk.invariant.3 in
    let item = rw c.in-Some.is at c.in_ok-item.ensures.item in
    let here : IsItemOf file c.walk.n c.in-Some.item.body.now c.in-Some.item.start = subst (λ (n : ℕ). IsItemOf file n c.in-Some.item.body.now c.in-Some.item.start) c.walk.invariant.1 (rw c.walk.invariant.0 at item) in
    let layout : IsLayoutOf file c.in_ok-finish.field-0 = subst (λ (t : Text). IsLayoutOf t c.in_ok-finish.field-0) (c.in_ok-item.ensures.file ∙ c.walk.invariant.0) c.in_ok-finish.ensures.found in
    ⊎_elim
    (λ memory.
    let is = c.in_file.ensures.memory memory in
    inl (rw (is.0, is.1) (no_memory short)))
    (λ long.
    let told = c.in_file.ensures.too_long long.0 long.1 in
    let fault : IsTextFault file c.in_file.result.kind c.in_file.result.place = record {
      number = told.0;
      short = short;
      db = layout.0;
      reads = layout.1;
      first = read_over file c.walk.n c.in-Some.item.body.now c.in-Some.item.start here c.walk.self long.0 c.in_file.result.place told.1 (c.in-Err.ensures.too_long long.0 long.1) short c.walk.invariant.4 layout.0 layout.1;
    } in
    inr fault)
    (fault_cases c.in-Err.fault)

pub walk-preserved-then-n-eq-SAMPLE : goal.walk-preserved-then-n-eq-SAMPLE
walk-preserved-then-n-eq-SAMPLE c =
    let file : Text = c.args.bytes.now in
    let n = c.walk.n in
    let item = rw c.in-Some.is at c.in_ok-item.ensures.item in
    let count = rw c.in-Some.is at c.in_ok-item.ensures.count in
    let here : IsItemOf file n c.in-Some.item.body.now c.in-Some.item.start = subst (λ (m : ℕ). IsItemOf file m c.in-Some.item.body.now c.in-Some.item.start) c.walk.invariant.1 (rw c.walk.invariant.0 at item) in (
      c.in_ok-item.ensures.file ∙ c.walk.invariant.0,
      count.0 ∙ ap (λ (m : ℕ). m + 1) c.walk.invariant.1,
      omega (arith, count.1, c.walk.invariant.2),
      c.walk.invariant.3,
      read_same file (n + 1) c.add.new.self c.prepare.new.self c.prepare.ensures
          (read_more file n c.in-Some.item.body.now c.in-Some.item.start here c.walk.self c.add.new.self c.in_default-add.ensures.step c.walk.invariant.4),
    )

pub walk-preserved : goal.walk-preserved
walk-preserved c =
    let file : Text = c.args.bytes.now in
    let n = c.walk.n in
    let item = rw c.in-Some.is at c.in_ok-item.ensures.item in
    let count = rw c.in-Some.is at c.in_ok-item.ensures.count in
    let here : IsItemOf file n c.in-Some.item.body.now c.in-Some.item.start = subst (λ (m : ℕ). IsItemOf file m c.in-Some.item.body.now c.in-Some.item.start) c.walk.invariant.1 (rw c.walk.invariant.0 at item) in (
      c.in_ok-item.ensures.file ∙ c.walk.invariant.0,
      count.0 ∙ ap (λ (m : ℕ). m + 1) c.walk.invariant.1,
      omega (arith, count.1, c.walk.invariant.2),
      c.walk.invariant.3,
      read_more file n c.in-Some.item.body.now c.in-Some.item.start here c.walk.self c.add.new.self c.in_default-add.ensures.step c.walk.invariant.4,
    )

pub returns-clause-tables : goal.returns-clause-tables
returns-clause-tables c =
    let file : Text = c.args.bytes.now in
    let done = (rw c.in_default.is at c.in_ok-item.ensures.done) refl in
    let all : AreAllOf file c.walk.n = subst (λ (m : ℕ). AreAllOf file m) c.walk.invariant.1 (rw c.walk.invariant.0 at done.1) in
    let read = read_all file c.walk.n c.walk.self all c.walk.invariant.4 in
    ok_always c.finish-2.result (record {
      tables = λ db reads. with_len db.items c.walk.self (length file) (read db reads).0;
      len = refl;
      texts = λ db reads. (read db reads).1;
    })
