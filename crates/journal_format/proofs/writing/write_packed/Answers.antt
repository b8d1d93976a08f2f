use Rattle.journal_format.proofs.Words.{◌≡◌, ◌∙◌, ◌-◌, ◌+◌, ◌++◌, ℕ, arith, ap, length, counts}
use Rattle.journal_format.specs.JournalText.{head_text}
use Rattle.journal_format.proofs.Written.{taken_back_written}
use Rattle.journal_format.proofs.writing.write_packed.Goals as goal

pub overflow_add-redos : goal.overflow_add-redos
overflow_add-redos c = omega (arith, c.len.ensures.small, c.len-2.ensures.small)

pub returns : goal.returns
returns c =
    let redos : c.len.result - c.args.undos + c.len-2.result ≡ length c.args.past.now - c.args.undos + length c.args.future.now = cc (c.len.ensures.count, c.len-2.ensures.count) in
    c.from_vec.ensures
    ∙ taken_back_written c.args.digest.now c.args.undos c.args.past.now c.args.future.now c.in_ok-out.out.items c.put_head.new.out.items c.put.new.out.items c.put-2.new.out.items
    c.requires c.in_ok-out.ensures.items
    (c.in_ok-put_head.ensures ∙ ap (λ (n : ℕ). c.in_ok-out.out.items ++ head_text c.args.digest.now (counts c.args.undos n)) redos)
    c.in_ok-put.ensures c.in_ok-put-2.ensures
