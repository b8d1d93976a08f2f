use Rattle.bib_store.proofs.Words.{◌≡◌, ℕ, ◌≤◌, true, false, [], length, refl, sym, subst, ◌∙◌, ap, arith, file_limit, Text, Reading, Reads, HasReading, IsLayoutOf, bytes_after}
use Rattle.bib_store.proofs.WindowChanges.{not_served, lent_made, too_long_made, unread_made, len-around}
use Rattle.bib_store.proofs.change.change_of.Goals as goal

pub returns-then-not-fits-clause-none : goal.returns-then-not-fits-clause-none
returns-then-not-fits-clause-none g c = λ _ whole.
    not_served c.args.pieces.now c.args.front.now (g.L.ItemList.items c.args.items.now) c.args.window c.args.window.place c.deref.result.now
    c.requires.window whole c.requires.place (c.deref.ensures.value ∙ c.in_ok-old.ensures) (λ f. let e : false ≡ true = c.if-not-fits.ensures.1 f in cc)

pub overflow_sub-file_len : goal.overflow_sub-file_len
overflow_sub-file_len g c =
    let items = g.L.ItemList.items c.args.items.now in
    omega (arith, c.requires.len, c.len.ensures, ap (length {A = ℕ}) c.in_ok-old.ensures, len-around c.args.window c.args.front.now items c.requires.window)

pub returns-then-file_len-gt-FILE_LIMIT-clause-none : goal.returns-then-file_len-gt-FILE_LIMIT-clause-none
returns-then-file_len-gt-FILE_LIMIT-clause-none g c = λ _ whole.
    let items = g.L.ItemList.items c.args.items.now in
    let around = len-around c.args.window c.args.front.now items c.requires.window in
    let made = lent_made c.args.pieces.now c.args.front.now items c.args.window c.args.window.place c.in_ok-old.old.items c.deref.result.now c.deref-2.result.now c.in_ok-text.text.items
    c.requires.window c.requires.place c.in_ok-old.ensures c.deref.ensures.value (c.if-not-fits.ensures.0 refl) c.deref-2.ensures.value c.in_ok-text.ensures in
    too_long_made c.args.pieces.now c.args.front.now items c.args.window c.args.window.place c.in_ok-text.text.items (length (bytes_after c.args.window items)) made c.requires.place refl
    (omega (arith, c.if-file_len-gt-FILE_LIMIT.true, around, c.requires.len, c.requires.place, c.len.ensures, c.len-2.ensures, ap (length {A = ℕ}) c.in_ok-old.ensures))

pub returns-in-Some-clause-change : goal.returns-in-Some-clause-change
returns-in-Some-clause-change g c =
    let items = g.L.ItemList.items c.args.items.now in
    let text : c.deref-3.result.now ≡ c.from_vec.result = c.deref-3.ensures.value ∙ sym c.from_vec.ensures in
    let made = lent_made c.args.pieces.now c.args.front.now items c.args.window c.args.window.place c.in_ok-old.old.items c.deref.result.now c.deref-2.result.now c.from_vec.result
    c.requires.window c.requires.place c.in_ok-old.ensures c.deref.ensures.value (c.if-not-fits.ensures.0 refl) c.deref-2.ensures.value (c.from_vec.ensures ∙ c.in_ok-text.ensures) in
    let around = len-around c.args.window c.args.front.now items c.requires.window in
    let layout : IsLayoutOf c.deref-3.result.now c.in-Some.layout = rw c.in-Some.is at c.in_ok-layout.ensures.layout in
    record {
      window = c.requires.window;
      fit = made.fit;
      made = made.made;
      len = omega (arith, made.long, around, c.requires.len, c.len.ensures, c.len-2.ensures, ap (length {A = ℕ}) c.in_ok-old.ensures, ap (length {A = ℕ}) c.from_vec.ensures);
      short = omega (arith, made.long, around, c.if-file_len-gt-FILE_LIMIT.false, c.requires.len, c.len.ensures, c.len-2.ensures, ap (length {A = ℕ}) c.in_ok-old.ensures, ap (length {A = ℕ}) c.from_vec.ensures);
      layout = subst (λ (t : Text). IsLayoutOf t c.in-Some.layout) text layout;
      begins = λ inner db reads.
          let begins : c.args.window.with_front ≡ false → (db : Reading) → Reads c.deref-3.result.now db → db.front ≡ [] = rw c.in-Some.is at c.in_ok-layout.ensures.begins in
          begins inner db (subst (λ (t : Text). Reads t db) (sym text) reads);
    }

pub returns-clause-none : goal.returns-clause-none
returns-clause-none g c = λ _ whole.
    let items = g.L.ItemList.items c.args.items.now in
    let made = lent_made c.args.pieces.now c.args.front.now items c.args.window c.args.window.place c.in_ok-old.old.items c.deref.result.now c.deref-2.result.now c.in_ok-text.text.items
    c.requires.window c.requires.place c.in_ok-old.ensures c.deref.ensures.value (c.if-not-fits.ensures.0 refl) c.deref-2.ensures.value c.in_ok-text.ensures in
    unread_made c.args.pieces.now c.args.front.now items c.args.window c.in_ok-text.text.items c.requires.window whole made
    (λ front short reads. c.in_ok-layout.ensures.none c.in-None.is front
    (subst (λ (t : Text). length t ≤ file_limit) (sym c.deref-3.ensures.value) short)
    (subst (λ (t : Text). HasReading t) (sym c.deref-3.ensures.value) reads))
