use Rattle.bib_items.proofs.Words.{◌≡◌, ◌<◌, ◌+◌, ◌∙◌, ◌++◌, ◌∷◌, [], refl, length, sym, ap, arith, Err, get_or_read, Item, page_at, weight}
use Rattle.std.proofs.Common.{true≢false}
use Rattle.std.specs.Bool.{if◌then◌else◌}
use Rattle.std.specs.Prelude.{Result, Ok, false}
use Rattle.std.specs.Result.{is_ok, is_err}
use Rattle.bib_items.proofs.PageStarts.{taken_next}
use Rattle.bib_items.proofs.starts.take_down.Goals as goal

-- what is said of a call that did not fail
pushed : {T E X : Type 0} (r : Result T E) (a b : X) → is_err r ≡ false → (if is_ok r then a else b) ≡ a
pushed (Ok x) a b h = refl
pushed (Err e) a b h = absurd (true≢false h)

pub pass-preserved : goal.pass-preserved
pass-preserved c =
    let inside : c.pass.p < length c.args.pages.now = omega (arith, c.pass-test.true) in
    let seen : c.index-pages-p.result ≡ page_at c.args.pages.now c.pass.p = get_or_read c.args.pages.now c.pass.p c.index-pages-p.result inside c.index-pages-p.is [] in
    let items : c.push.new.self.items ≡ c.pass.starts.items ++ c.pass.start ∷ []
    = c.push.ensures.items ∙ pushed c.push.result (c.pass.starts.items ++ c.pass.start ∷ []) c.pass.starts.items (sym c.is_err.ensures.value ∙ c.if-is_err.false) in
    let item : c.in-Some-Some.item ≡ c.pass.start.item + length (page_at c.args.pages.now c.pass.p)
    = omega (arith, c.in-Some-Some.ensures.1, c.len.ensures, ap (length {A = Item}) seen) in
    let byte : c.in-Some-Some.byte ≡ c.pass.start.byte + weight (page_at c.args.pages.now c.pass.p)
    = omega (arith, c.in-Some-Some.ensures'.1, c.byte_len.ensures, ap weight seen) in
    taken_next c.args.pages.now c.pass.starts.items c.push.new.self.items c.pass.p c.pass.start (record { item = c.in-Some-Some.item; byte = c.in-Some-Some.byte }) inside items item byte c.pass.invariant
