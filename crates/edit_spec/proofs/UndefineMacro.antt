-- UndefineMacro: what stays reads, and says what it said, since nothing used the macro.
use Rattle.edit_spec.proofs.Words.{◌≡◌, ℕ, false, List, ◌∷◌, ◌++◌, Some, None, refl, sym, ◌∙◌, ap, ap₂, count_by, ⊎_elim, cases_Bool, cond-true, cond-false, or_parts, false_from_ne_true, arith, Text, folded, same, Part, Braced, Quoted, Digits, Macro, Tree}
use Rattle.edit_spec.proofs.Words.{Item, Reading, bytes_of, Reads, months, seen, Record, entries_of, preambles_of, uses, any_part, leaving, items_with, defines, from_first, use_inlined, uses_inlined, without_first, text_of_macro, count-no, there_once, UndefineMacro, NotFound, Ambiguous, Referred, WouldMerge, IsAccepted}
use Rattle.std.proofs.Common.{[]}
use Rattle.part_spec.specs.Parts.{have_part}
use Rattle.edit_spec.specs.Edits.{is_seen, undefine_macro}
use Rattle.edit_spec.specs.Laws.{undefine_macro_keeps}
use Rattle.edit_spec.proofs.Unrefuted.{unrefuted_texts}
use Rattle.edit_spec.proofs.EditedItems.{trees_of, clean_reads, without_first-are}
use Rattle.edit_spec.proofs.KeptTrees.{leaving-leaves, tree-left}
use Rattle.edit_spec.proofs.Seen.{undefined}
use Rattle.edit_spec.proofs.InlineMacro.{count, none_beyond, rest_uncounted, entries_inlined, preambles_inlined, at_inlined}
use Rattle.edit_spec.proofs.MacroLaws.{keeps_entries, keeps_citations}

pub undefine_macro-reads : (key_base : Record → Text) (file : Text) (db : Reading) (name : Text) → Reads file db → IsAccepted key_base db (UndefineMacro name) →
    Reads (bytes_of (undefine_macro name db)) (undefine_macro name db)
undefine_macro-reads key_base file db name reads accepted =
    clean_reads (undefine_macro name db) (without_first-are (defines name) db.front db.items (trees_of db.items reads.items)) (unrefuted_texts (undefine_macro name db) (accepted WouldMerge))

-- ---- without uses, inlining is removing

module _ (name held : Text) where
  no_use : (part : Part) → uses name part ≡ false → use_inlined name held part ≡ None
  no_use (Macro used) h = cond-false (same used name) (Some (Braced held)) None h
  no_use (Braced t) h = refl
  no_use (Quoted t) h = refl
  no_use (Digits t) h = refl

  unused-left : (items : List Item) → have_part (uses name) items ≡ false → items_with leaving (use_inlined name held) items ≡ items
  unused-left [] h = refl
  unused-left (item ∷ items) h =
      let both = or_parts (any_part (uses name) item.tree) (have_part (uses name) items) h in
      ap₂ (λ (tree : Tree) (items : List Item). (let it : Item = record item { tree = tree } in it) ∷ items)
      (tree-left leaving (use_inlined name held) (uses name) no_use item.tree (leaving-leaves item.tree) both.0) (unused-left items both.1)

  pub unseen-left : (items : List Item) → is_seen name items ≡ false → from_first (defines name) (uses_inlined name held) items ≡ items
  unseen-left [] h = refl
  unseen-left (item ∷ items) h = ⊎_elim
      (λ e. cond-true (defines name item.tree) (item ∷ items_with leaving (use_inlined name held) items) (item ∷ from_first (defines name) (uses_inlined name held) items) e
      ∙ ap (λ rest. item ∷ rest) (unused-left items (sym (cond-true (defines name item.tree) (have_part (uses name) items) (is_seen name items) e) ∙ h)))
      (λ e. cond-false (defines name item.tree) (item ∷ items_with leaving (use_inlined name held) items) (item ∷ from_first (defines name) (uses_inlined name held) items) e
      ∙ ap (λ rest. item ∷ rest) (unseen-left items (sym (cond-false (defines name item.tree) (have_part (uses name) items) (is_seen name items) e) ∙ h)))
      (cases_Bool (defines name item.tree))

-- ---- no definition is left

module _ (name : Text) where
  abbrev left : Text → List Item → Reading
  left front items = without_first (defines name) front items

  count-left : (front : Text) (items : List Item) → count name [] items ≡ 1 → count name [] (left front items).items ≡ 0
  count-left front [] h = absurd (omega (arith, h))
  count-left front (item ∷ items) h = ⊎_elim
      (λ e. ap (λ (r : Reading). count name [] r.items) (cond-true (defines name item.tree) found other e) ∙ rest_uncounted name [] item items h e)
      (λ e. ap (λ (r : Reading). count name [] r.items) (cond-false (defines name item.tree) found other e)
      ∙ count-no (λ item. defines name item.tree) (record item { trail = (left item.trail items).front }) (left item.trail items).items e
      ∙ count-left item.trail items (sym (count-no (λ item. defines name item.tree) item items e) ∙ h))
      (cases_Bool (defines name item.tree))
    where
      found : Reading
      found = record { front = front ++ item.trail; items = items }

      other : Reading
      other = record { front = front; items = record item { trail = (left item.trail items).front } ∷ (left item.trail items).items }

-- ---- the law

pub undefine-macro-keeps : undefine_macro_keeps
undefine-macro-keeps key_base db name accepted =
    let held : Text = text_of_macro name db in
    let once = there_once (count_by (λ item. defines name item.tree) db.items) (accepted NotFound) (accepted Ambiguous) in
    let is = sym (ap (without_first (defines name) db.front) (unseen-left name held db.items (false_from_ne_true (is_seen name db.items) (accepted Referred)))) in
    let entries = ap entries_of is ∙ entries_inlined name held months db.front db.items once refl in
    let at = λ (n : ℕ) (m : Text). ap (λ (r : Reading). seen r n m) is in (
      keeps_entries db (undefine_macro name db) entries (ap preambles_of is ∙ preambles_inlined name held months db.front db.items once refl),
      keeps_citations db (undefine_macro name db) entries,
      record {
        before = λ n other e. at n other ∙ ap (λ m. m (folded other)) ((at_inlined name held months db.front db.items once refl n).0 e);
        after = λ n other e p. at n other ∙ (at_inlined name held months db.front db.items once refl n).1 e other p;
        undefined = λ n. undefined name months (undefine_macro name db).items n (none_beyond name [] (undefine_macro name db).items (count-left name db.front db.items once) n);
      },
    )
