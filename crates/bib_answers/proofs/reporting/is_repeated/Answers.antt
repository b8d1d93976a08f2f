use Rattle.bib_answers.proofs.Words.{ℕ, false, Option, sym, ap, ◌∙◌, option_map_or, entries_of, entry_named}
use Rattle.std.proofs.Common.{nat_lt}
use Rattle.bib_store.proofs.RepeatedKeys.{repeated-first, apart-unrepeated}
use Rattle.bib_answers.proofs.reporting.is_repeated.Goals as goal

pub returns-in-Ok : goal.returns-in-Ok
returns-in-Ok c r reads =
    let k = c.requires r reads in
    ap (λ (o : Option ℕ). option_map_or (λ m. nat_lt m c.args.number) o false) (sym (c.in-Ok.ensures.found r reads) ∙ ap (entry_named (entries_of r)) (sym k.2))
    ∙ sym (repeated-first (entries_of r) c.args.number k.0 k.1)

pub returns-in-Err : goal.returns-in-Err
returns-in-Err c r reads =
    let k = c.requires r reads in
    ap (λ (o : Option ℕ). option_map_or (λ m. nat_lt m c.args.number) o false) (sym (c.in-Err.ensures.none.1 r reads) ∙ ap (entry_named (entries_of r)) (sym k.2))
    ∙ sym (repeated-first (entries_of r) c.args.number k.0 k.1)

pub returns-then-are_keys_apart : goal.returns-then-are_keys_apart
returns-then-are_keys_apart c r reads =
    let k = c.requires r reads in
    sym (apart-unrepeated (entries_of r) c.args.number k.0 k.1 (c.are_keys_apart.ensures c.if-are_keys_apart.true r reads))
