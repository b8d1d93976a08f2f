-- The entries that refer to a key: they are those whose target is its first holder, or whose crossrefs dangle.
use Rattle.bib_edit.proofs.Words.{add-zero, ◌≡◌, ◌↔◌, ℕ, zero, suc, ◌+◌, ◌<◌, ◌≤◌, ◌==◌, Bool, true, false, IsTrue, not, ◌&&◌, ◌||◌, List, [], ◌∷◌, Option, Some, None, is_none, is_some, cond, filter_map, option_and_then, map, slice_get, length, ⊎_elim, refl, sym, ◌∙◌, ap, subst, arith, zero-add, list_any}
use Rattle.bib_edit.proofs.Words.{cons_option, cases_Bool, cond-true, cond-false, both_ways, and_from, and_parts, eqb-true, eqb-false, none-some, same_Some, length-map, name_limit, Text, folded, same, IsTree, Reading, Reads, IsItem, is_empty, EntryTexts, entries_of, keys_of, crossref_text}
use Rattle.bib_edit.proofs.Words.{first_named, entry_named, target_of, target, other_than, parent, dangling_text, option_cases, same-true, true-same, first_is, first_named_same, refers, referrers, numbers_from, numbered_first, numbered_later, entry_at, key_at_entry, named_within, IsParent}
use Rattle.bib_edit.proofs.Words.{is_awaited}
use Rattle.bib_store.proofs.KeptItems.{item_in}

-- ---- numbers of those that pass

pub one-later : (b n : ℕ) → b + 1 + n ≡ b + suc n
one-later b n = omega arith

module _ {X : Type 0} (passes : X → Bool) where
  pub record IsNumbered (b n : ℕ) (xs : List X) : Type 0 where
    pub after : ℕ
    pub at : n ≡ b + after
    pub it : X
    pub stands : slice_get xs after ≡ Some it
    pub passes_it : passes it ≡ true

  later : (b n : ℕ) (x : X) (xs : List X) → IsNumbered (b + 1) n xs → IsNumbered b n (x ∷ xs)
  later b n x xs is = let at = is.at in record { after = suc is.after; at = omega (arith, at); it = is.it; stands = is.stands; passes_it = is.passes_it }

  pub number-passes : (b : ℕ) (xs : List X) (k n : ℕ) → slice_get (numbers_from passes b xs) k ≡ Some n → IsNumbered b n xs
  number-passes b [] k n e = absurd (none-some n e)
  number-passes b (x ∷ xs) k n e = ⊎_elim
      (λ t. here (λ k n. number-passes (b + 1) xs k n) t k n (ap (λ (l : List ℕ). slice_get l k) (sym (numbered_first passes b x xs t)) ∙ e))
      (λ t. later b n x xs (number-passes (b + 1) xs k n (ap (λ (l : List ℕ). slice_get l k) (sym (numbered_later passes b x xs t)) ∙ e)))
      (cases_Bool (passes x))
    where
      here : ((k n : ℕ) → slice_get (numbers_from passes (b + 1) xs) k ≡ Some n → IsNumbered (b + 1) n xs) → passes x ≡ true → (k n : ℕ)
          → slice_get (b ∷ numbers_from passes (b + 1) xs) k ≡ Some n → IsNumbered b n (x ∷ xs)
      here others t zero n e = let is = same_Some b n e in record { after = 0; at = omega (arith, is); it = x; stands = refl; passes_it = t }
      here others t (suc k) n e = later b n x xs (others k n e)

  pub passes-number : (b : ℕ) (xs : List X) (n : ℕ) (x : X) → slice_get xs n ≡ Some x → passes x ≡ true → (k : ℕ) × (slice_get (numbers_from passes b xs) k ≡ Some (b + n))
  passes-number b [] n x e t = absurd (none-some x e)
  passes-number b (y ∷ xs) zero x e t = (0, ap (λ (l : List ℕ). slice_get l 0) (numbered_first passes b y xs (ap passes (same_Some y x e) ∙ t)) ∙ ap Some (sym (add-zero b)))
  passes-number b (y ∷ xs) (suc n) x e t =
      let rest = passes-number (b + 1) xs n x e t in
      ⊎_elim
      (λ s. (suc rest.0, ap (λ (l : List ℕ). slice_get l (suc rest.0)) (numbered_first passes b y xs s) ∙ rest.1 ∙ ap Some (one-later b n)))
      (λ s. (rest.0, ap (λ (l : List ℕ). slice_get l rest.0) (numbered_later passes b y xs s) ∙ rest.1 ∙ ap Some (one-later b n)))
      (cases_Bool (passes y))

  -- they ascend
  pub numbers-ascend : (b : ℕ) (xs : List X) (k j n m : ℕ) → k < j → slice_get (numbers_from passes b xs) k ≡ Some n → slice_get (numbers_from passes b xs) j ≡ Some m → n < m
  numbers-ascend b [] k j n m lt e f = absurd (none-some n e)
  numbers-ascend b (x ∷ xs) k j n m lt e f = ⊎_elim
      (λ t. here (λ k j n m. numbers-ascend (b + 1) xs k j n m) k j n m lt (ap (λ (l : List ℕ). slice_get l k) (sym (numbered_first passes b x xs t)) ∙ e) (ap (λ (l : List ℕ). slice_get l j) (sym (numbered_first passes b x xs t)) ∙ f))
      (λ t. numbers-ascend (b + 1) xs k j n m lt (ap (λ (l : List ℕ). slice_get l k) (sym (numbered_later passes b x xs t)) ∙ e) (ap (λ (l : List ℕ). slice_get l j) (sym (numbered_later passes b x xs t)) ∙ f))
      (cases_Bool (passes x))
    where
      here : ((k j n m : ℕ) → k < j → slice_get (numbers_from passes (b + 1) xs) k ≡ Some n → slice_get (numbers_from passes (b + 1) xs) j ≡ Some m → n < m)
          → (k j n m : ℕ) → k < j → slice_get (b ∷ numbers_from passes (b + 1) xs) k ≡ Some n → slice_get (b ∷ numbers_from passes (b + 1) xs) j ≡ Some m → n < m
      here others k zero n m lt e f = absurd (omega (arith, lt))
      here others zero (suc j) n m lt e f = let it = number-passes (b + 1) xs j m f in let at = it.at in let is = same_Some b n e in omega (arith, at, is)
      here others (suc k) (suc j) n m lt e f = others k j n m (omega (arith, lt)) e f

pub none-after : {X : Type 0} (xs : List X) (k j : ℕ) → k ≤ j → slice_get xs k ≡ None → slice_get xs j ≡ None
none-after [] k j le e = refl
none-after (x ∷ xs) zero j le e = absurd (none-some x (sym e))
none-after (x ∷ xs) (suc k) zero le e = absurd (omega (arith, le))
none-after (x ∷ xs) (suc k) (suc j) le e = none-after xs k j (omega (arith, le)) e

-- ---- keys

-- what names an entry of a file is no longer than a key may be
pub key-short : (file : Text) (db : Reading) → Reads file db → (key : Text) (m : ℕ) → entry_named (entries_of db) key ≡ Some m → length key ≤ name_limit
key-short file db reads key m named =
    let first = first_is key (keys_of (entries_of db)) m named in
    let e = entry_at db m (named_within (entries_of db) key m named) in
    let good : IsItem name_limit e.0 = item_in (IsItem name_limit) db.items e.1.number e.0 reads.items e.1.stands in
    let short = (subst (IsTree name_limit) e.1.is good.tree).key_len in
    let key_is : e.1.entry.key ≡ first.key = same_Some e.1.entry.key first.key (sym (key_at_entry db m e.0 e.1) ∙ first.stands) in
    let parts = and_parts (not (is_empty first.key)) (same first.key key) first.named in
    let long : length first.key ≡ length key = sym (length-map first.key _) ∙ ap (length {A = ℕ}) (same-true first.key key parts.1) ∙ length-map key _ in
    let its = ap (length {A = ℕ}) key_is in
    omega (arith, short, long, its)

module _ (entries : List EntryTexts) (key : Text) where
  abbrev pub crossrefs : List (Option Text)
  crossrefs = map crossref_text entries

  crossref-at : (n : ℕ) (entry : EntryTexts) → slice_get entries n ≡ Some entry → slice_get crossrefs n ≡ Some (crossref_text entry)
  crossref-at n entry at = of entries n at
    where
      of : (entries : List EntryTexts) (n : ℕ) → slice_get entries n ≡ Some entry → slice_get (map crossref_text entries) n ≡ Some (crossref_text entry)
      of [] n at = absurd (none-some entry at)
      of (x ∷ entries) zero at = ap (λ y. Some (crossref_text y)) (same_Some x entry at)
      of (x ∷ entries) (suc n) at = of entries n at

  entry-at : (n : ℕ) (said : Option Text) → slice_get crossrefs n ≡ Some said → (entry : EntryTexts) × (slice_get entries n ≡ Some entry) × (crossref_text entry ≡ said)
  entry-at n said at = of entries n at
    where
      of : (entries : List EntryTexts) (n : ℕ) → slice_get (map crossref_text entries) n ≡ Some said → (entry : EntryTexts) × (slice_get entries n ≡ Some entry) × (crossref_text entry ≡ said)
      of [] n at = absurd (none-some said at)
      of (x ∷ entries) zero at = (x, refl, same_Some (crossref_text x) said at)
      of (x ∷ entries) (suc n) at = of entries n at

  -- a crossref text that names the key says what names the same entry
  refers-said : (said : Option Text) → refers key said ≡ true → (text : Text) × (said ≡ Some text) × (folded key ≡ folded text)
  refers-said None t = absurd (both_ways false refl t)
  refers-said (Some text) t = (text, refl, same-true key text (and_parts (not (is_empty key)) (same key text) t).1)

  -- a text that is the key, folded, names what the key names
  pub said-target : (entry : EntryTexts) (text : Text) → crossref_text entry ≡ Some text → folded key ≡ folded text → target_of entries entry ≡ entry_named entries key
  said-target entry text says alike = ap (option_and_then (entry_named entries)) says ∙ sym (first_named_same key text (keys_of entries) alike)

  -- what refers to the key has the entry as target that the key names
  pub refers-target : (entry : EntryTexts) → refers key (crossref_text entry) ≡ true → target_of entries entry ≡ entry_named entries key
  refers-target entry t =
      let said = refers-said (crossref_text entry) t in
      said-target entry said.0 said.1 said.2

  module _ (m : ℕ) (named : entry_named entries key ≡ Some m) where
    pub referrer-target : (k n : ℕ) → slice_get (referrers key crossrefs) k ≡ Some n → target entries n ≡ Some m
    referrer-target k n at =
        let is = number-passes (refers key) 0 crossrefs k n at in
        let number : is.after ≡ n = let a = is.at in omega (arith, a) in
        let entry = entry-at n is.it (ap (slice_get crossrefs) (sym number) ∙ is.stands) in
        ap (option_and_then (target_of entries)) entry.1 ∙ refers-target entry.0 (ap (refers key) entry.2 ∙ is.passes_it) ∙ named

    pub target-referrer : (n : ℕ) → target entries n ≡ Some m → (k : ℕ) × (slice_get (referrers key crossrefs) k ≡ Some n)
    target-referrer n e = ⊎_elim
        (λ none. absurd (none-some m (sym (ap (option_and_then (target_of entries)) none) ∙ e)))
        (λ entry. ⊎_elim
        (λ none. absurd (none-some m (sym (ap (option_and_then (entry_named entries)) none) ∙ sym (ap (option_and_then (target_of entries)) entry.1) ∙ e)))
        (λ text.
        let its : first_named text.0 (keys_of entries) ≡ Some m = sym (ap (option_and_then (entry_named entries)) text.1) ∙ sym (ap (option_and_then (target_of entries)) entry.1) ∙ e in
        let a = first_is key (keys_of entries) m named in
        let b = first_is text.0 (keys_of entries) m its in
        let one : a.key ≡ b.key = same_Some a.key b.key (sym a.stands ∙ b.stands) in
        let by_key = and_parts (not (is_empty a.key)) (same a.key key) a.named in
        let by_text = and_parts (not (is_empty b.key)) (same b.key text.0) b.named in
        let alike : folded key ≡ folded text.0 = sym (same-true a.key key by_key.1) ∙ ap folded one ∙ same-true b.key text.0 by_text.1 in
        let filled : not (is_empty key) ≡ true = not_empty a.key key by_key.0 (same-true a.key key by_key.1) in
        let found = passes-number (refers key) 0 crossrefs n (crossref_text entry.0) (crossref-at n entry.0 entry.1) (ap (refers key) text.1 ∙ and_from (not (is_empty key)) (same key text.0) filled (true-same key text.0 alike)) in
        (found.0, found.1 ∙ ap Some (zero-add n)))
        (option_cases (crossref_text entry.0)))
        (option_cases (slice_get entries n))
      where
        not_empty : (a b : Text) → not (is_empty a) ≡ true → folded a ≡ folded b → not (is_empty b) ≡ true
        not_empty [] b t e = absurd (both_ways false refl t)
        not_empty (x ∷ a) [] t e = absurd (omega (arith, ap (length {A = ℕ}) e))
        not_empty (x ∷ a) (y ∷ b) t e = refl

    -- ---- children of the entry that the key names

    parent-other : (n : ℕ) → parent entries n ≡ Some m → (target entries n ≡ Some m) × (n ≡ m → ⊥)
    parent-other n e = of (target entries n) e
      where
        of : (t : Option ℕ) → option_and_then (other_than n) t ≡ Some m → (t ≡ Some m) × (n ≡ m → ⊥)
        of None e = absurd (none-some m e)
        of (Some x) e = ⊎_elim
            (λ t. absurd (none-some m (sym (cond-true (x == n) None (Some x) t) ∙ e)))
            (λ t. let is : x ≡ m = same_Some x m (sym (cond-false (x == n) None (Some x) t) ∙ e) in (ap Some is, λ same. eqb-false x n t (is ∙ sym same)))
            (cases_Bool (x == n))

    other-parent : (n : ℕ) → target entries n ≡ Some m → (n ≡ m → ⊥) → parent entries n ≡ Some m
    other-parent n e other = ap (option_and_then (other_than n)) e ∙ ⊎_elim
        (λ t. absurd (other (sym (eqb-true m n t))))
        (λ t. cond-false (m == n) None (Some m) t)
        (cases_Bool (m == n))

    -- another refers first
    pub other-first : (n : ℕ) → slice_get (referrers key crossrefs) 0 ≡ Some n → (n ≡ m → ⊥) → IsParent entries m
    other-first n at other = (n, other-parent n (referrer-target 0 n at) other)

    -- it refers to itself first, and another after it
    pub other-second : slice_get (referrers key crossrefs) 0 ≡ Some m → (n : ℕ) → slice_get (referrers key crossrefs) 1 ≡ Some n → IsParent entries m
    other-second first n at =
        let after = numbers-ascend (refers key) 0 crossrefs 0 1 m n (omega arith) first at in
        (n, other-parent n (referrer-target 1 n at) (λ same. omega (arith, after, same)))

    pub none-refers : slice_get (referrers key crossrefs) 0 ≡ None → IsParent entries m → ⊥
    none-refers none found =
        let p = parent-other found.0 found.1 in
        let k = target-referrer found.0 p.0 in
        none-some found.0 (sym (none-after (referrers key crossrefs) 0 k.0 (omega arith) none) ∙ k.1)

    pub none-other : slice_get (referrers key crossrefs) 0 ≡ Some m → slice_get (referrers key crossrefs) 1 ≡ None → IsParent entries m → ⊥
    none-other first none found =
        let p = parent-other found.0 found.1 in
        let k = target-referrer found.0 p.0 in
        at k.0 k.1 p.1
      where
        at : (k : ℕ) → slice_get (referrers key crossrefs) k ≡ Some found.0 → (found.0 ≡ m → ⊥) → ⊥
        at zero e other = other (sym (same_Some m found.0 (sym first ∙ e)))
        at (suc k) e other = none-some found.0 (sym (none-after (referrers key crossrefs) 1 (suc k) (omega arith) none) ∙ e)

    pub other-iff : (o : Option ℕ) (b : Bool) → slice_get (referrers key crossrefs) 0 ≡ Some m → o ≡ slice_get (referrers key crossrefs) 1 → b ≡ is_some o → IsTrue b ↔ IsParent entries m
    other-iff None b first is told = ((λ t. absurd (both_ways b told t)), λ p. absurd (none-other first (sym is) p))
    other-iff (Some n) b first is told = ((λ t. other-second first n (sym is)), λ p. told)

-- ---- crossrefs that wait for a key

module _ (key : Text) where
  -- a text that names the key waits for it, where no entry has it
  waits : (unnamed : Bool) (said : Option Text) (rest : List Text) (b : Bool) → is_empty key ≡ false → (refers key said ≡ true → unnamed ≡ true) → b ≡ list_any (same key) rest
      → (refers key said || b) ≡ list_any (same key) (cons_option (cond unnamed said None) rest)
  waits true None rest b filled free is = is
  waits false None rest b filled free is = is
  waits unnamed (Some text) rest b filled free is = ⊎_elim
      (λ t.
      let r = and_from (not (is_empty key)) (same key text) (ap not filled) t in
      ap (λ x. x || b) r ∙ sym (ap (λ u. list_any (same key) (cons_option (cond u (Some text) None) rest)) (free r) ∙ ap (λ x. x || list_any (same key) rest) t))
      (λ t. ap (λ x. (not (is_empty key) && x) || b) t ∙ ap (λ x. (not x && false) || b) filled ∙ is ∙ sym (other unnamed t))
      (cases_Bool (same key text))
    where
      other : (u : Bool) → same key text ≡ false → list_any (same key) (cons_option (cond u (Some text) None) rest) ≡ list_any (same key) rest
      other true t = ap (λ x. x || list_any (same key) rest) t
      other false t = refl

  -- and none waits for it, where an entry has it
  unawaited : (unnamed : Bool) (said : Option Text) (rest : List Text) → ((text : Text) → said ≡ Some text → same key text ≡ true → unnamed ≡ false) → list_any (same key) rest ≡ false
      → list_any (same key) (cons_option (cond unnamed said None) rest) ≡ false
  unawaited false said rest held is = is
  unawaited true None rest held is = is
  unawaited true (Some text) rest held is = ⊎_elim
      (λ t. absurd (both_ways true (held text refl t) refl))
      (λ t. ap (λ x. x || list_any (same key) rest) t ∙ is)
      (cases_Bool (same key text))

pub any-numbered : {X : Type 0} (passes : X → Bool) (b : ℕ) (xs : List X) → is_some (slice_get (numbers_from passes b xs) 0) ≡ list_any passes xs
any-numbered passes b [] = refl
any-numbered passes b (x ∷ xs) = ⊎_elim
    (λ t. ap (λ (l : List ℕ). is_some (slice_get l 0)) (numbered_first passes b x xs t) ∙ sym (ap (λ y. y || list_any passes xs) t))
    (λ t. ap (λ (l : List ℕ). is_some (slice_get l 0)) (numbered_later passes b x xs t) ∙ any-numbered passes (b + 1) xs ∙ sym (ap (λ y. y || list_any passes xs) t))
    (cases_Bool (passes x))

module _ (entries : List EntryTexts) (key : Text) where
  all-wait : (some : List EntryTexts) → entry_named entries key ≡ None → is_empty key ≡ false → list_any (refers key) (map crossref_text some) ≡ list_any (same key) (filter_map (dangling_text entries) some)
  all-wait [] free filled = refl
  all-wait (entry ∷ some) free filled =
      waits key (is_none (target_of entries entry)) (crossref_text entry) (filter_map (dangling_text entries) some) (list_any (refers key) (map crossref_text some)) filled
      (λ t. ap is_none (refers-target entries key entry t ∙ free)) (all-wait some free filled)

  none-waits : (some : List EntryTexts) (m : ℕ) → entry_named entries key ≡ Some m → list_any (same key) (filter_map (dangling_text entries) some) ≡ false
  none-waits [] m named = refl
  none-waits (entry ∷ some) m named =
      unawaited key (is_none (target_of entries entry)) (crossref_text entry) (filter_map (dangling_text entries) some)
      (λ text says t. ap is_none (said-target entries key entry text says (same-true key text t) ∙ named)) (none-waits some m named)

  pub awaited-free : entry_named entries key ≡ None → is_empty key ≡ false → is_some (slice_get (referrers key (crossrefs entries key)) 0) ≡ is_awaited key entries
  awaited-free free filled = any-numbered (refers key) 0 (crossrefs entries key) ∙ all-wait entries free filled

  pub awaited-held : (m : ℕ) → entry_named entries key ≡ Some m → false ≡ is_awaited key entries
  awaited-held m named = sym (none-waits entries m named)
