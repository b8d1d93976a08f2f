-- Edits, undos and redos, one after another.
use Rattle.history_spec.proofs.Words.{◌≡◌, ℕ, zero, suc, List, [], ◌∷◌, ◌++◌, length, refl, sym, ◌∙◌, ap, subst, arith, append_assoc, length_push, Text}
use Rattle.std.proofs.Common.{◌≢◌}
use Rattle.std.proofs.lemmas.List.{same_from_push, nil_from_length}
use Rattle.history_spec.specs.History.{History, Edits, Amends, Undoes, Redoes, Move, Times, files_of, LeadsAlone, one_edit, one_amendment, amended_edit, one_undo, one_redo, no_undo, no_redo, undo_after_edit, redo_after_undo, undo_after_redo, IsAtFirst, IsAtLast, undoing_all, redoing_all}

same_history : (a c : History) → c.past ≡ a.past → c.present ≡ a.present → c.future ≡ a.future → c ≡ a
same_history a c past present future =
    ap (λ (x : List Text). record { past = x; present = c.present; future = c.future }) past
    ∙ ap (λ (x : Text). record { past = a.past; present = x; future = c.future }) present
    ∙ ap (λ (x : List Text). record { past = a.past; present = a.present; future = x }) future

-- ---- one move

same-edits : (file : Text) (old new other : History) → Edits file old new → Edits file old other → other ≡ new
same-edits file old new other e f = same_history new other (f.past ∙ sym e.past) (f.present ∙ sym e.present) (f.future ∙ sym e.future)

same-undoes : (old new other : History) → Undoes old new → Undoes old other → other ≡ new
same-undoes old new other u v =
    let e : (other.past ≡ new.past) × (other.present ≡ new.present) = same_from_push other.past new.past other.present new.present (sym v.past ∙ u.past) in
    same_history new other e.0 e.1 (v.future ∙ sym u.future)

same-redoes : (old new other : History) → Redoes old new → Redoes old other → other ≡ new
same-redoes old new other r s =
    let next : new.present ∷ new.future ≡ other.present ∷ other.future = sym r.future ∙ s.future in
    same_history new other (s.past ∙ sym r.past) (cc) (cc)

pub one-edit : one_edit
one-edit file old =
    let new : History = record { past = old.past ++ old.present ∷ []; present = file; future = [] } in
    let made : Edits file old new = record { past = refl; present = refl; future = refl } in
    (new, record { made = made; alone = λ other e. same-edits file old new other made e })

same-amends : (file : Text) (old new other : History) → Amends file old new → Amends file old other → other ≡ new
same-amends file old new other e f = same_history new other (f.past ∙ sym e.past) (f.present ∙ sym e.present) (f.future ∙ sym e.future)

pub one-amendment : one_amendment
one-amendment file old =
    let new : History = record { past = old.past; present = file; future = old.future } in
    let made : Amends file old new = record { past = refl; present = refl; future = refl } in
    (new, record { made = made; alone = λ other e. same-amends file old new other made e })

-- a list that is not empty has a last member
last_of : {X : Type 0} (x : X) (xs : List X) → (front : List X) × (last : X) × (x ∷ xs ≡ front ++ last ∷ [])
last_of x [] = ([], x, refl)
last_of x (y ∷ xs) = let l = last_of y xs in (x ∷ l.0, l.1, ap (λ zs. x ∷ zs) l.2)

undo_from : (past : List Text) (present : Text) (future : List Text) → past ≢ [] → (new : History) × Undoes (record { past = past; present = present; future = future }) new
undo_from [] present future h = absurd (h refl)
undo_from (file ∷ past) present future h =
    let l = last_of file past in
    (record { past = l.0; present = l.1; future = present ∷ future }, record { past = l.2; future = refl })

pub one-undo : one_undo
one-undo old h =
    let found : (new : History) × Undoes old new = undo_from old.past old.present old.future h in
    (found.0, record { made = found.1; alone = λ other u. same-undoes old found.0 other found.1 u })

redo_from : (past : List Text) (present : Text) (future : List Text) → future ≢ [] → (new : History) × Redoes (record { past = past; present = present; future = future }) new
redo_from past present [] h = absurd (h refl)
redo_from past present (file ∷ future) h = (record { past = past ++ present ∷ []; present = file; future = future }, record { past = refl; future = refl })

pub one-redo : one_redo
one-redo old h =
    let found : (new : History) × Redoes old new = redo_from old.past old.present old.future h in
    (found.0, record { made = found.1; alone = λ other r. same-redoes old found.0 other found.1 r })

pub no-undo : no_undo
no-undo old new h u = omega (arith, ap length u.past, ap length h, length_push new.past new.present)

pub no-redo : no_redo
no-redo old new h r = omega (arith, ap length r.future, ap length h)

-- ---- two moves

pub amended-edit : amended_edit
amended-edit first second a b c e f = record { past = f.past ∙ e.past; present = f.present; future = f.future ∙ e.future }

pub undo-edit : undo_after_edit
undo-edit file a b c e u =
    let back : (c.past ≡ a.past) × (c.present ≡ a.present) = same_from_push c.past a.past c.present a.present (sym u.past ∙ e.past) in
    same_history (record a { future = file ∷ [] }) c back.0 back.1 (u.future ∙ ap (λ fs. b.present ∷ fs) e.future ∙ ap (λ f. f ∷ []) e.present)

pub redo-undo : redo_after_undo
redo-undo a b c u r =
    let next : a.present ∷ a.future ≡ c.present ∷ c.future = sym u.future ∙ r.future in
    same_history a c (r.past ∙ sym u.past) (cc) (cc)

pub undo-redo : undo_after_redo
undo-redo a b c r u =
    let back : (c.past ≡ a.past) × (c.present ≡ a.present) = same_from_push c.past a.past c.present a.present (sym u.past ∙ r.past) in
    same_history a c back.0 back.1 (u.future ∙ sym r.future)

-- ---- all moves of one kind

-- the same moves lead to the same history
same-times : (Moves : Move) → ((old new other : History) → Moves old new → Moves old other → other ≡ new)
    → (n : ℕ) (old new other : History) → Times n Moves old new → Times n Moves old other → other ≡ new
same-times Moves same zero old new other t u = u ∙ sym t
same-times Moves same (suc n) old new other t u =
    let mid : u.0 ≡ t.0 = same old t.0 u.0 t.1 u.1 in
    same-times Moves same n t.0 new other t.2 (subst (λ (h : History). Times n Moves h other) mid u.2)

-- an undo keeps all the files
files-undo : (a b : History) → Undoes a b → files_of b ≡ files_of a
files-undo a b u =
    ap (λ (fs : List Text). b.past ++ b.present ∷ fs) u.future
    ∙ sym (append_assoc b.past (b.present ∷ []) (a.present ∷ a.future))
    ∙ ap (λ (ps : List Text). ps ++ a.present ∷ a.future) (sym u.past)

-- a redo keeps all the files
files-redo : (a b : History) → Redoes a b → files_of b ≡ files_of a
files-redo a b r =
    ap (λ (ps : List Text). ps ++ b.present ∷ b.future) r.past
    ∙ append_assoc a.past (a.present ∷ []) (b.present ∷ b.future)
    ∙ ap (λ (fs : List Text). a.past ++ a.present ∷ fs) (sym r.future)

not_empty : (n : ℕ) (files : List Text) → length files ≡ suc n → files ≢ []
not_empty n files h e = omega (arith, h, ap length e)

-- n undos lead from a history with n past files to the first file
abbrev ReachesFirst : ℕ → History → Type 0
ReachesFirst n old = (new : History) × Times n Undoes old new × IsAtFirst (files_of old) new

undo_first : (n : ℕ) (old mid : History) → Undoes old mid → ReachesFirst n mid → ReachesFirst (suc n) old
undo_first n old mid u r = (r.0, (mid, u, r.1), record { past = r.2.past; all = r.2.all ∙ files-undo old mid u })

undo_times : (n : ℕ) (old : History) → length old.past ≡ n → ReachesFirst n old
undo_times zero old h =
    let empty : old.past ≡ [] = nil_from_length old.past h in
    (old, refl, record { past = empty; all = ap (λ (ps : List Text). ps ++ old.present ∷ old.future) (sym empty) })
undo_times (suc n) old h =
    let found : (mid : History) × LeadsAlone Undoes old mid = one-undo old (not_empty n old.past h) in
    let mid : History = found.0 in
    let made : Undoes old mid = found.1.made in
    let shorter : length mid.past ≡ n = omega (arith, h, ap length made.past, length_push mid.past mid.present) in
    undo_first n old mid made (undo_times n mid shorter)

-- n redos lead from a history with n future files to the last file
abbrev ReachesLast : ℕ → History → Type 0
ReachesLast n old = (new : History) × Times n Redoes old new × IsAtLast (files_of old) new

redo_first : (n : ℕ) (old mid : History) → Redoes old mid → ReachesLast n mid → ReachesLast (suc n) old
redo_first n old mid m r = (r.0, (mid, m, r.1), record { future = r.2.future; all = r.2.all ∙ files-redo old mid m })

redo_times : (n : ℕ) (old : History) → length old.future ≡ n → ReachesLast n old
redo_times zero old h =
    let empty : old.future ≡ [] = nil_from_length old.future h in
    (old, refl, record { future = empty; all = ap (λ (fs : List Text). old.past ++ old.present ∷ fs) (sym empty) })
redo_times (suc n) old h =
    let found : (mid : History) × LeadsAlone Redoes old mid = one-redo old (not_empty n old.future h) in
    let mid : History = found.0 in
    let made : Redoes old mid = found.1.made in
    let shorter : length mid.future ≡ n = omega (arith, h, ap length made.future) in
    redo_first n old mid made (redo_times n mid shorter)

pub undoing-all : undoing_all
undoing-all old =
    let all : ReachesFirst (length old.past) old = undo_times (length old.past) old refl in
    (all.0, record { made = all.1; alone = λ other t. same-times Undoes same-undoes (length old.past) old all.0 other all.1 t }, all.2)

pub redoing-all : redoing_all
redoing-all old =
    let all : ReachesLast (length old.future) old = redo_times (length old.future) old refl in
    (all.0, record { made = all.1; alone = λ other t. same-times Redoes same-redoes (length old.future) old all.0 other all.1 t }, all.2)
