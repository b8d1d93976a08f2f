use Rattle.bib_numbers.proofs.Words.{◌≡◌, ◌+◌, ◌-◌, ◌∙◌, ◌++◌, ◌∷◌, ℕ, List, [], length, insert, ap, ap₂, sym, subst, arith, zero-add, get_or_read, on_ok_weaker, on_err_weaker, joined, page_at, IsGap, insert_at, settled, starts, AreFilled}
use Rattle.bib_numbers.proofs.FilledPages.{starts-added, starts-last, filled_put, last_gap, insert-last, both_ok, both_err}
use Rattle.bib_numbers.proofs.leaves.put_last.Goals as goal

pub returns-then-not-has_room-clause-firsts : goal.returns-then-not-has_room-clause-firsts
returns-then-not-has_room-clause-firsts c =
    let old : List (List ℕ) = c.args.leaves.now.items in
    let added : starts 0 (old ++ (c.args.n ∷ []) ∷ []) ≡ c.args.firsts.now.items ++ c.args.count ∷ []
    = starts-added 0 old (c.args.n ∷ []) ∙ ap₂ (λ (l : List ℕ) (k : ℕ). l ++ k ∷ []) (sym c.requires.told) (zero-add (length (joined old)) ∙ sym c.requires.count_is) in
    settled c.add_leaf.result
    (both_ok c.add_leaf.result (λ leaves firsts. firsts ∙ sym (ap (starts 0) leaves ∙ added)) c.add_leaf.ensures.ok c.add_leaf.ensures.firsts)
    (both_err c.add_leaf.result (λ leaves firsts. firsts ∙ c.requires.told ∙ sym (ap (starts 0) leaves)) c.add_leaf.ensures.err c.add_leaf.ensures.firsts_err)

last_page : (c : goal.After-put_in) → (c.len-last.result - 1) + 1 ≡ length c.args.leaves.now.items
last_page c = omega (arith, c.len-last.ensures, c.args.leaves.now.ok.0, c.if-not-has_room.ensures, ap (length {A = List ℕ}) c.deref.ensures.value)

here : (c : goal.After-put_in) → c.len-k.result ≡ length (page_at c.args.leaves.now.items (c.len-last.result - 1))
here c =
    let last = last_page c in
    c.len-k.ensures ∙ ap (length {A = ℕ}) (get_or_read c.args.leaves.now.items (c.len-last.result - 1) c.index.result.now (omega (arith, last)) c.index.ensures [])

pub returns-clause-ok : goal.returns-clause-ok
returns-clause-ok c =
    let old : List (List ℕ) = c.args.leaves.now.items in
    let gap = subst (IsGap old (length (joined old)) (c.len-last.result - 1)) (sym (here c)) (last_gap old (c.len-last.result - 1) (last_page c)) in
    on_ok_weaker c.put_in.result
    (λ e. ap joined e ∙ insert_at old (length (joined old)) (c.len-last.result - 1) c.len-k.result c.args.n gap ∙ insert-last (joined old) c.args.n)
    c.put_in.ensures.ok

pub returns-clause-firsts : goal.returns-clause-firsts
returns-clause-firsts c =
    let old : List (List ℕ) = c.args.leaves.now.items in
    let last = c.len-last.result - 1 in
    settled c.put_in.result
    (on_ok_weaker c.put_in.result (λ e. c.requires.told ∙ sym (ap (starts 0) e ∙ starts-last 0 old last (insert (page_at old last) c.len-k.result c.args.n) (last_page c))) c.put_in.ensures.ok)
    (on_err_weaker c.put_in.result (λ e. c.requires.told ∙ sym (ap (starts 0) e)) c.put_in.ensures.err)

pub returns-clause-filled : goal.returns-clause-filled
returns-clause-filled c =
    let old : List (List ℕ) = c.args.leaves.now.items in
    let last = c.len-last.result - 1 in
    let within = last_page c in
    let place = here c in
    settled c.put_in.result
    (on_ok_weaker c.put_in.result (λ e. subst AreFilled (sym e) (filled_put old last c.len-k.result c.args.n c.requires.filled (omega (arith, within)) (omega (arith, place)))) c.put_in.ensures.ok)
    (on_err_weaker c.put_in.result (λ e. subst AreFilled (sym e) c.requires.filled) c.put_in.ensures.err)
