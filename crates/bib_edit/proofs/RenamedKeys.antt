-- When renaming a key is refused, and for which reason.
use Rattle.bib_edit.proofs.Words.{◌≡◌, ℕ, ◌+◌, ◌-◌, ◌<◌, ◌≤◌, ◌==◌, ◌&&◌, nat_lt, true, false, List, [], ◌∷◌, Option, Some, None, slice_get, length, ⊎_elim, true≢false, sym, ◌∙◌, ap, ap₂, subst, arith, ne_eqb, fun_ext, cases_Bool, cond-true, cond-false, false≢true, ltb-true, ltb-false, eqb-true}
use Rattle.bib_edit.proofs.Words.{eqb-false, cond_some, slice_get_past, All-nil, name_limit, file_limit, Text, is_new_key, IsValue, Reading, Reads, Opens, entries_of, entry_named, Piece, Kept, pieces_of_chunks, holders, key_for, IsAccepted, IsFirstRefusal, key_chunks, pieces_of}
use Rattle.bib_edit.proofs.Words.{new_key-length, OfReading, made_base, IsRefusal, IsLoneNumber, IsHolderFault, none_holds, many_hold, olds_len, news_len, key_of, rekeying, NewKeys, RenameKey}
use Rattle.edit_spec.specs.Edits as edits
use Rattle.bib_edit.specs.Dangling.{is_in_use}
use Rattle.bib_data.specs.declared.edit.Edit.{Edit}
use Rattle.bib_edit.specs.declared.fault.EditFault.{EditFault}
use Rattle.bib_edit.specs.declared.fault.EditFault.TheVariants.{BadKey, KeyInUse}
use Rattle.bib_edit.specs.Numbers.{is_numbered}
use Rattle.bib_edit.proofs.AskedEdits.{of-rename_key}
use Rattle.bib_edit.proofs.PieceLengths.{makes-long, makes-short}
use Rattle.bib_edit.proofs.Ranks.{Passes, no_reason, more, is_first, all_clear}
use Rattle.bib_edit.proofs.RekeyedTexts.{AreShort, too_long-rekeyed}

-- ---- one entry's new key

one_key : (n : ℕ) (to : Text) (k : ℕ) → (let new : NewKeys = record { first = n; keys = to ∷ [] } in key_of new k) ≡ key_for (Some n) to k
one_key n to k = ⊎_elim
    (λ t. cond-true (nat_lt k n) None (slice_get (to ∷ []) (k - n)) t ∙ sym (cond-false (n == k) (Some to) None (ne_eqb n k (λ e. let lt = ltb-true k n t in omega (arith, lt, e)))))
    (λ t. cond-false (nat_lt k n) None (slice_get (to ∷ []) (k - n)) t ∙ ⊎_elim
    (λ e. let is = eqb-true n k e in ap (slice_get (to ∷ [])) (zeroth k n (sym is)) ∙ sym (cond-true (n == k) (Some to) None e))
    (λ e. let ne = eqb-false n k e in let le = ltb-false k n t in slice_get_past (to ∷ []) (k - n) (later k n ne le) ∙ sym (cond-false (n == k) (Some to) None e))
    (cases_Bool (n == k)))
    (cases_Bool (nat_lt k n))
  where
    zeroth : (k n : ℕ) → k ≡ n → k - n ≡ 0
    zeroth k n e = omega (arith, e)

    later : (k n : ℕ) → (n ≡ k → ⊥) → n ≤ k → 1 ≤ k - n
    later k n ne le = omega (arith, ne, le)

pub key_of-one : (new : NewKeys) (n : ℕ) (to : Text) → new.first ≡ n → new.keys ≡ to ∷ [] → key_of new ≡ key_for (Some n) to
key_of-one new n to first keys =
    ap₂ (λ (f : ℕ) (ks : List Text). let it : NewKeys = record { first = f; keys = ks } in key_of it) first keys ∙ fun_ext (one_key n to)

-- no other gets one
pub one-alone : (new : NewKeys) (n : ℕ) (to : Text) → new.first ≡ n → new.keys ≡ to ∷ [] → (m : ℕ) → (m ≡ n → ⊥) → key_of new m ≡ None
one-alone new n to first keys m other =
    ap (λ (f : ℕ → Option Text). f m) (key_of-one new n to first keys) ∙ cond-false (n == m) (Some to) None (ne_eqb n m (λ e. other (sym e)))

one_short : (n : ℕ) (to : Text) → is_new_key to ≡ true → AreShort (key_for (Some n) to)
one_short n to is k key e = subst (λ (t : Text). length t ≤ name_limit) (cond_some (n == k) to key e).1 (new_key-length to is)

-- ---- the reasons in their order

module _ (db : Reading) (from to : Text) where
  abbrev renaming : edits.Edit
  renaming = edits.RenameKey from to

  module _ (is : is_new_key to ≡ true) where
    clear_found : Passes made_base db renaming 4
    clear_found =
        more edits.BadPosition (λ h. h)
        (more edits.BadValue (λ h. h (All-nil (IsValue name_limit)))
        (more edits.BadName (λ h. true≢false h)
        (more edits.BadKey (λ h. true≢false (sym (ap (λ b. b && true) is) ∙ h)) no_reason)))

    clear_holders : (holders from db ≡ 0 → ⊥) → Passes made_base db renaming 5
    clear_holders found = more edits.NotFound found clear_found

    module _ (once : holders from db ≡ 1) where
      clear_use : Passes made_base db renaming 6
      clear_use = more edits.Ambiguous (λ many. omega (arith, many, once)) (clear_holders (λ none. omega (arith, none, once)))

      clear_long : is_in_use from to (entries_of db) ≡ false → Passes made_base db renaming 10
      clear_long free =
          more edits.WouldMerge (λ h. h)
          (more edits.Referred (λ h. h)
          (more edits.NameInUse (λ h. h)
          (more edits.KeyInUse (λ h. false≢true (sym free ∙ h)) clear_use)))

-- ---- refusals

module _ (file from to : Text) (plain : is_numbered from ≡ false) where
  abbrev asked : Edit
  asked = RenameKey from to

  pub refused-key : is_new_key to ≡ false → IsRefusal file asked BadKey
  refused-key none db reads = of-rename_key from to plain _ (is_first edits.BadKey (ap (λ b. b && true) none) no_reason)

  module _ (is : is_new_key to ≡ true) where
    pub refused-holders : (fault : EditFault) → IsHolderFault file from fault → IsRefusal file asked fault
    refused-holders fault (none_holds none) = λ db reads. of-rename_key from to plain _ (is_first edits.NotFound (none db reads) (clear_found db from to is))
    refused-holders fault (many_hold many) = λ db reads. of-rename_key from to plain _ (let some = many db reads in
        is_first edits.Ambiguous some (clear_holders db from to is (λ none. omega (arith, none, some))))

    module _ (n : ℕ) (lone : OfReading file (λ db. IsLoneNumber from db n)) where
      pub refused-use : OfReading file (λ db. is_in_use from to (entries_of db) ≡ true) → IsRefusal file asked KeyInUse
      refused-use used db reads = of-rename_key from to plain _
          (is_first edits.KeyInUse (used db reads) (clear_use db from to is (lone db reads).once))

      module _ (free : OfReading file (λ db. is_in_use from to (entries_of db) ≡ false)) (new : NewKeys) (first : new.first ≡ n) (keys : new.keys ≡ to ∷ []) where
        -- the new key is that of the entry that the old one names
        news : (db : Reading) → Reads file db → key_of new ≡ key_for (entry_named (entries_of db) from) to
        news db reads = key_of-one new n to first keys ∙ ap (λ o. key_for o to) (sym (lone db reads).named)

        pub pieces-are : (db : Reading) → Reads file db → rekeying new db ≡ pieces_of made_base db (renaming db from to)
        pieces-are db reads = ap (λ (k : ℕ → Option Text). pieces_of_chunks (Kept db.front ∷ key_chunks k db)) (news db reads)

        clear_file : (db : Reading) → Reads file db → Passes made_base db (renaming db from to) 10
        clear_file db reads = clear_long db from to is (lone db reads).once (free db reads)

        pub refused-file : (db : Reading) → Reads file db → (ps : List Piece) → ps ≡ rekeying new db → file_limit + olds_len ps < length file + news_len ps → IsFirstRefusal made_base db (renaming db from to) edits.FileTooLong
        refused-file db reads ps are over = is_first edits.FileTooLong (makes-long (renaming db from to) file db reads ps (are ∙ pieces-are db reads) over) (clear_file db reads)

        pub accepted : (db : Reading) → Opens file db → (ps : List Piece) → ps ≡ rekeying new db → length file + news_len ps ≤ file_limit + olds_len ps → IsAccepted made_base db (renaming db from to)
        accepted db opens ps are short =
            all_clear
            (more edits.TextTooLong
            (λ h. false≢true (sym (too_long-rekeyed (key_for (entry_named (entries_of db) from) to) db
            (subst AreShort (ap (λ o. key_for o to) (sym (lone db opens.reads).named)) (one_short n to is)) opens.texts) ∙ h))
            (more edits.FileTooLong (makes-short (renaming db from to) file db opens.reads ps (are ∙ pieces-are db opens.reads) short) (clear_file db opens.reads)))
