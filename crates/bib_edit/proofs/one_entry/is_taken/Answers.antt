use Rattle.bib_edit.proofs.Words.{◌≡◌, ◌||◌, nat_lt, true, false, list_any, sym, ◌∙◌, ap, lt-ltb, le-ltb, same, entries_of, keys_of, is_awaited}
use Rattle.bib_edit.proofs.HeldKeys.{held-any}
use Rattle.bib_edit.proofs.one_entry.is_taken.Goals as goal

pub returns-then-holders-gt0 : goal.returns-then-holders-gt0
returns-then-holders-gt0 g c db reads =
    let held : list_any (same c.args.key.now) (keys_of (entries_of db)) ≡ true = sym (held-any c.args.key.now db c.requires) ∙ ap (nat_lt 0) (sym (c.holders.ensures db reads)) ∙ lt-ltb 0 c.holders.result c.if-holders-gt0.true in
    lt-ltb 0 c.holders.result c.if-holders-gt0.true ∙ sym (ap (λ b. b || is_awaited c.args.key.now (entries_of db)) held)

pub returns-else-holders-gt0 : goal.returns-else-holders-gt0
returns-else-holders-gt0 g c db reads =
    let held : list_any (same c.args.key.now) (keys_of (entries_of db)) ≡ false = sym (held-any c.args.key.now db c.requires) ∙ ap (nat_lt 0) (sym (c.holders.ensures db reads)) ∙ le-ltb 0 c.holders.result c.if-holders-gt0.false in
    c.is_awaited.ensures db reads ∙ sym (ap (λ b. b || is_awaited c.args.key.now (entries_of db)) held)
