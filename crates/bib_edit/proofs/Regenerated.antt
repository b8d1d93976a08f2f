-- When making all keys anew is refused, and for which reason.
use Rattle.bib_edit.proofs.Words.{◌≡◌, ℕ, zero, suc, ◌+◌, ◌-◌, ◌<◌, ◌≤◌, nat_lt, List, [], ◌∷◌, Option, None, slice_get, length, true≢false, sym, ◌∙◌, ap, ap₂, subst, arith, AllByRecursion, fun_ext, cond-false, false≢true, le-ltb, none-some, same_Some, All-nil, name_limit, file_limit, Text, IsValue}
use Rattle.bib_edit.proofs.Words.{Reading, Reads, Opens, entries_of, Piece, Kept, pieces_of_chunks, IsAccepted, IsFirstRefusal, key_chunks, pieces_of, made_base, olds_len, news_len, key_of, rekeying, NewKeys}
use Rattle.bib_spec.specs.MadeKeys.{new_keys}
use Rattle.edit_spec.specs.Edits as edits
use Rattle.bib_edit.proofs.PieceLengths.{makes-long, makes-short}
use Rattle.bib_edit.proofs.Ranks.{Passes, no_reason, more, is_first, all_clear}
use Rattle.bib_edit.proofs.RekeyedTexts.{AreShort, too_long-rekeyed}

-- from the first entry on, each gets a key
every_key : (keys : List Text) (n : ℕ) → (let new : NewKeys = record { first = 0; keys = keys } in key_of new n) ≡ slice_get keys n
every_key keys n =
    cond-false (nat_lt n 0) None (slice_get keys (n - 0)) (le-ltb n 0 (omega arith)) ∙ ap (slice_get keys) (less n)
  where
    less : (n : ℕ) → n - 0 ≡ n
    less n = omega arith

-- keys that are short, by their numbers
short-at : (keys : List Text) → AllByRecursion (λ k. length k ≤ name_limit) keys → AreShort (slice_get keys)
short-at [] all n key e = absurd (none-some key e)
short-at (k ∷ keys) all zero key e = subst (λ (t : Text). length t ≤ name_limit) (same_Some k key e) all.0
short-at (k ∷ keys) all (suc n) key e = short-at keys all.1 n key e

module _ (depth : ℕ) (file : Text) (db : Reading) (reads : Reads file db) (new : NewKeys) (first : new.first ≡ 0) (keys : new.keys ≡ new_keys made_base depth (entries_of db)) where
  abbrev making : edits.Edit
  making = edits.RegenerateKeys depth

  news : key_of new ≡ slice_get (new_keys made_base depth (entries_of db))
  news = ap₂ (λ (f : ℕ) (ks : List Text). let it : NewKeys = record { first = f; keys = ks } in key_of it) first keys ∙ fun_ext (every_key (new_keys made_base depth (entries_of db)))

  pub pieces-are : rekeying new db ≡ pieces_of made_base db making
  pieces-are = ap (λ (k : ℕ → Option Text). pieces_of_chunks (Kept db.front ∷ key_chunks k db)) news

  clear : Passes made_base db making 10
  clear =
      more edits.WouldMerge (λ h. h)
      (more edits.Referred (λ h. h)
      (more edits.NameInUse (λ h. h)
      (more edits.KeyInUse (λ h. h)
      (more edits.Ambiguous (λ h. h)
      (more edits.NotFound (λ h. h)
      (more edits.BadPosition (λ h. h)
      (more edits.BadValue (λ h. h (All-nil (IsValue name_limit)))
      (more edits.BadName (λ h. true≢false h)
      (more edits.BadKey (λ h. true≢false h) no_reason)))))))))

  module _ (ps : List Piece) (are : ps ≡ rekeying new db) where
    pub refused-file : file_limit + olds_len ps < length file + news_len ps → IsFirstRefusal made_base db making edits.FileTooLong
    refused-file over = is_first edits.FileTooLong (makes-long making file db reads ps (are ∙ pieces-are) over) clear

    pub accepted : Opens file db → AllByRecursion (λ key. length key ≤ name_limit) new.keys → length file + news_len ps ≤ file_limit + olds_len ps → IsAccepted made_base db making
    accepted opens all short =
        all_clear
        (more edits.TextTooLong
        (λ h. false≢true (sym (too_long-rekeyed (slice_get (new_keys made_base depth (entries_of db))) db
        (short-at (new_keys made_base depth (entries_of db)) (subst (AllByRecursion (λ key. length key ≤ name_limit)) keys all)) opens.texts) ∙ h))
        (more edits.FileTooLong (makes-short making file db reads ps (are ∙ pieces-are) short) clear))
