-- Entries that are added together, judged one after another.
use Rattle.bib_edit.proofs.Words.{◌≡◌, ◌<◌, ℕ, Bool, true, false, ◌&&◌, List, [], ◌∷◌, length, get_or, ⊎_elim, refl, sym, ◌∙◌, ap, inr, list_all, flat_map, list_all-append, list_all-map, list_all_at, cases_Bool, both_ways, is_new_key, Reading, NewEntry, IsAnyLong, keys_given, AreAnyLong}

-- a test of all that members give is one of each member
pub all-given : {X Y : Type 0} (p : Y → Bool) (f : X → List Y) (xs : List X) → list_all p (flat_map f xs) ≡ list_all (λ x. list_all p (f x)) xs
all-given p f [] = refl
all-given p f (x ∷ xs) = list_all-append p (f x) (flat_map f xs) ∙ ap (λ b. list_all p (f x) && b) (all-given p f xs)

-- a key that is given is one
pub key-at : (news : List NewEntry) (i : ℕ) (entry : NewEntry) → i < length news → entry ≡ get_or news i entry → list_all is_new_key (keys_given news) ≡ true → is_new_key entry.key ≡ true
key-at news i entry lt at all = ⊎_elim
    (λ t. t)
    (λ e. absurd (both_ways (list_all is_new_key (keys_given news))
    (list_all-map is_new_key (λ (new : NewEntry). new.key) news ∙ list_all_at (λ (new : NewEntry). is_new_key new.key) news i entry lt (ap (λ (new : NewEntry). is_new_key new.key) (sym at) ∙ e)) all))
    (cases_Bool (is_new_key entry.key))

-- ---- raw texts

-- one entry without a raw text that is too long, before others
pub any_long-more : (db : Reading) (n : ℕ) (entry : NewEntry) (news : List NewEntry) → IsAnyLong false db n entry.fields → (long : Bool) → AreAnyLong long db n news → AreAnyLong long db n (entry ∷ news)
any_long-more db n entry news short false h = (short, h)
any_long-more db n entry news short true h = inr h
