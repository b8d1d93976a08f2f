use Rattle.bib_edit.proofs.Words.{◌≡◌, false, true, is_some, sym, ◌∙◌, ap, folded, value_at, copied-some, new_key-length}
use Rattle.bib_edit.proofs.SeenNames.{seen-found, seen-more}
use Rattle.bib_edit.proofs.ManyEntries.{key-at}
use Rattle.bib_edit.proofs.new_entries.has_same_key.Goals as goal

pub returns-then-is_some : goal.returns-then-is_some
returns-then-is_some c =
    let found : is_some (value_at c.entries.seen (folded c.entry-item.result.key)) ≡ true =
    ap (λ t. is_some (value_at c.entries.seen (folded t))) (sym c.as_slice-key.ensures) ∙ ap is_some (sym c.get.ensures) ∙ copied-some c.get.result ∙ sym c.is_some.ensures ∙ c.if-is_some.true in
    sym (seen-found (λ new. new.key) c.args.entries.now c.entries.entry-index c.entries.seen c.entry-item.result c.entries.invariant c.entries-test.true c.entry-item.is found)

pub insert-requires : goal.insert-requires
insert-requires c = new_key-length c.as_slice-key.result.now
    (rw c.as_slice-key.ensures (key-at c.args.entries.now c.entries.entry-index c.entry-item.result c.entries-test.true c.entry-item.is c.requires))

pub entries-preserved : goal.entries-preserved
entries-preserved c =
    let missing : is_some (value_at c.entries.seen (folded c.entry-item.result.key)) ≡ false =
    ap (λ t. is_some (value_at c.entries.seen (folded t))) (sym c.as_slice-key.ensures) ∙ ap is_some (sym c.get.ensures) ∙ copied-some c.get.result ∙ sym c.is_some.ensures ∙ c.if-is_some.false in
    seen-more (λ new. new.key) c.args.entries.now c.entries.entry-index c.entries.seen c.entry-item.result c.entries.invariant c.entries-test.true c.entry-item.is true c.insert.new.self missing
    (rw c.as_slice-key.ensures at c.in_ok-insert.ensures.ok)
