use Rattle.bib_numbers.proofs.Words.{◌∙◌, ℕ, List, length, insert, ap, sym, subst, arith, on_ok_weaker, on_err_weaker, joined, IsPlace, IsGap, insert_at, settled, AreFilled}
use Rattle.bib_numbers.proofs.FilledPages.{length-starts, filled_put}
use Rattle.bib_numbers.proofs.leaves.put.Goals as goal

pub room-requires-clause-each : goal.room-requires-clause-each
room-requires-clause-each c = ap (length {A = ℕ}) c.requires.firsts ∙ length-starts 0 c.args.leaves.now.items

room : (c : goal.After-put_in) → IsGap c.room.new.leaves.items c.args.k c.in_ok-p.p c.in_ok-p.j
room c =
    let place : IsPlace c.args.leaves.now.items c.args.k c.locate-p.result.0 c.locate-p.result.1 = subst (λ (l : List (List ℕ)). IsPlace l c.args.k c.locate-p.result.0 c.locate-p.result.1) c.deref.ensures.value c.locate-p.ensures in
    c.in_ok-p.ensures.room c.args.k (record { page = place.page; within = omega (arith, place.within); at = place.at })

pub returns-clause-ok : goal.returns-clause-ok
returns-clause-ok c =
    on_ok_weaker c.put_in.result
    (λ e. ap joined e ∙ insert_at c.room.new.leaves.items c.args.k c.in_ok-p.p c.in_ok-p.j c.args.n (room c) ∙ ap (λ (l : List ℕ). insert l c.args.k c.args.n) c.in_ok-p.ensures.same)
    c.put_in.ensures.ok

pub returns-clause-filled : goal.returns-clause-filled
returns-clause-filled c =
    settled c.put_in.result
    (on_ok_weaker c.put_in.result (λ e. subst AreFilled (sym e) (filled_put c.room.new.leaves.items c.in_ok-p.p c.in_ok-p.j c.args.n c.in_ok-p.ensures.filled (room c).page (room c).within)) c.put_in.ensures.ok)
    (on_err_weaker c.put_in.result (λ e. subst AreFilled (sym e) c.in_ok-p.ensures.filled) c.put_in.ensures.err)
