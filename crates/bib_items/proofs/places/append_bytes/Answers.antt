use Rattle.bib_items.proofs.Words.{◌≡◌, ◌<◌, ◌+◌, ◌∙◌, List, [], length, ap, arith, ◌++◌, get_or_read, on_ok_weaker, flat_map, between, Item, kept_bytes, page_at}
use Rattle.bib_items.proofs.Appended.{front_stands, appended_begins, page_skipped, page_appended, all_appended, none_left}
use Rattle.bib_items.proofs.places.append_bytes.Goals as goal
use Rattle.bib_items.proofs.places.append_bytes.Goals.{then-len-skip, else-len-skip+else-left-len+in_ok-append_bytes}

pub pass-init : goal.pass-init
pass-init c =
    let begins = c.near_item-first.ensures.begins c.args.pages.now c.requires.starts in
    appended_begins c.args.pages.now c.near_item-first.result.0 c.args.from c.args.to c.near_item-first.result.1.item c.args.out.now.items c.requires.ordered begins.item c.near_item-first.ensures.before

pub returns-then-left-len-clause-bytes : goal.returns-then-left-len-clause-bytes
returns-then-left-len-clause-bytes c =
    let inside : c.pass.p < length c.args.pages.now = omega (arith, c.pass-test.true) in
    let seen : c.index-pages-p.result ≡ page_at c.args.pages.now c.pass.p = get_or_read c.args.pages.now c.pass.p c.index-pages-p.result inside c.index-pages-p.is [] in
    let len : c.len-len.result ≡ length (page_at c.args.pages.now c.pass.p) = c.len-len.ensures ∙ ap (length {A = Item}) seen in
    on_ok_weaker c.append_bytes.result
    (λ put. all_appended c.args.pages.now c.pass.p c.args.from c.args.to c.pass.skip c.pass.left c.len-len.result c.args.out.now.items c.pass.out.items _ inside c.requires.ordered len (omega (arith, c.if-len-skip.false)) c.if-left-len.true
    (put ∙ ap (λ (l : List Item). c.pass.out.items ++ flat_map kept_bytes (between c.pass.skip (c.pass.skip + c.pass.left) l)) seen) c.pass.invariant)
    c.append_bytes.ensures.bytes

pub pass-preserved : goal.pass-preserved
pass-preserved c =
    let inside : c.pass.p < length c.args.pages.now = omega (arith, c.pass-test.true) in
    let seen : c.index-pages-p.result ≡ page_at c.args.pages.now c.pass.p = get_or_read c.args.pages.now c.pass.p c.index-pages-p.result inside c.index-pages-p.is [] in
    let len : c.len-len.result ≡ length (page_at c.args.pages.now c.pass.p) = c.len-len.ensures ∙ ap (length {A = Item}) seen in
    elim c.if-len-skip.branch [
      | then-len-skip w ↦ rw (w.skip-is, w.left-is, w.out-is) (page_skipped c.args.pages.now c.pass.p c.args.from c.args.to c.pass.skip c.pass.left c.len-len.result c.args.out.now.items c.pass.out.items inside len w.if-len-skip.true c.pass.invariant)
      | else-len-skip+else-left-len+in_ok-append_bytes w ↦ rw (w.skip-is, w.left-is, w.out-is) (page_appended c.args.pages.now c.pass.p c.args.from c.args.to c.pass.skip c.pass.left c.len-len.result c.args.out.now.items c.pass.out.items _ inside c.requires.ordered len (omega (arith, w.if-len-skip.false)) (omega (arith, w.if-left-len.false)) (w.in_ok-append_bytes.ensures.bytes ∙ ap (λ (l : List Item). c.pass.out.items ++ flat_map kept_bytes (between c.pass.skip c.len-len.result l)) seen) c.pass.invariant)
    ]

pub returns-clause-bytes : goal.returns-clause-bytes
returns-clause-bytes c = none_left c.args.pages.now c.pass.p c.args.from c.args.to c.pass.skip c.pass.left c.args.out.now.items c.pass.out.items (omega (arith, c.pass-test.false)) c.requires.ordered c.requires.within c.pass.invariant

pub returns-then-left-len-clause-front : goal.returns-then-left-len-clause-front
returns-then-left-len-clause-front c = front_stands c.args.out.now.items c.pass.out.items _ c.append_bytes.new.out.items c.pass.invariant.is c.append_bytes.ensures.front

pub returns-in_err-append_bytes-clause-front : goal.returns-in_err-append_bytes-clause-front
returns-in_err-append_bytes-clause-front c =
    front_stands c.args.out.now.items c.pass.out.items _ c.append_bytes-else-left-len.new.out.items c.pass.invariant.is c.append_bytes-else-left-len.ensures.front
