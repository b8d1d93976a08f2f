-- Changes that are taken back at once.
use Rattle.bib_journal.proofs.Words.{◌≡◌, ℕ, ◌+◌, ◌-◌, ◌≤◌, ◌<◌, List, [], ◌∷◌, ◌++◌, length, take, drop, min, replicate, suc, ◌≢◌, ⊎_elim, Option, Some, None, refl, sym, ◌∙◌, ap, subst, arith, length-replicate, take-replicate, Text, Undoes, Step, KeptSteps, before, first_of, Leads, LeadTo, IsSound}
use Rattle.bib_journal.proofs.Words.{GoesBack, history_of, going-back-undoes, Contents, IsDigest, digest_of, journal_text, Request, SessionFault, NothingToUndo, Memory, kept, SessionState, idle, SaysOf, DoesAll, StopsAt, Performs}
use Rattle.std.proofs.lemmas.List.{append-nil, append_assoc, take-append-drop, length-drop, replicate-append-replicate, drop_all, take_all}
use Rattle.std.proofs.Math.Nat.{eq-or-lt_of_le}
use Rattle.bib_data.specs.declared.request.Request.TheVariants as request
use Rattle.bib_journal.specs.declared.changing.Turned.{Turned}
use Rattle.bib_journal.specs.Turns.{Turns, taken_back}
use Rattle.bib_journal.proofs.LoadLemmas.{says_loads}
use Rattle.bib_journal.proofs.OneMoreRequest.{does_last, repeats_up_to}
use Rattle.bib_journal.proofs.SeveralRuns.{all_keep_sound}

-- ---- steps in two parts

first_of-append : (first last : List Step) (file : Text) → first_of (first ++ last) file ≡ first_of first (first_of last file)
first_of-append [] last file = refl
first_of-append (s ∷ ss) last file = ap (before s.pieces) (first_of-append ss last file)

lead_to_both : (first last : List Step) (file : Text) → LeadTo last file → LeadTo first (first_of last file) → LeadTo (first ++ last) file
lead_to_both [] last file w v = w
lead_to_both (s ∷ ss) last file w v = (
  subst (λ (f : Text). Leads s.pieces (before s.pieces f) f) (sym (first_of-append ss last file)) v.0,
  lead_to_both ss last file w v.1,
)

lead_to_parts : (first last : List Step) (file : Text) → LeadTo (first ++ last) file → LeadTo last file × LeadTo first (first_of last file)
lead_to_parts [] last file w = (w, tt)
lead_to_parts (s ∷ ss) last file w =
    let rest : LeadTo last file × LeadTo ss (first_of last file) = lead_to_parts ss last file w.1 in
    (rest.0, (subst (λ (f : Text). Leads s.pieces (before s.pieces f) f) (first_of-append ss last file) w.0, rest.1))

-- the steps lead to the file where the last of them do, and the others to where those begin
pub both_lead : (n : ℕ) (steps : List Step) (file : Text) → LeadTo (drop n steps) file → LeadTo (take n steps) (first_of (drop n steps) file) → LeadTo steps file
both_lead n steps file w v = subst (λ (ss : List Step). LeadTo ss file) (take-append-drop n steps) (lead_to_both (take n steps) (drop n steps) file w v)

pub parts_lead : (n : ℕ) (steps : List Step) (file : Text) → LeadTo steps file → LeadTo (drop n steps) file × LeadTo (take n steps) (first_of (drop n steps) file)
parts_lead n steps file w =
    lead_to_parts (take n steps) (drop n steps) file (subst (λ (ss : List Step). LeadTo ss file) (sym (take-append-drop n steps)) w)

-- the last `n` steps, and the others, if both ends are the number of the steps
pub last_part : (steps : List Step) (n from to : ℕ) → from ≡ length steps → to ≡ length steps → drop (from - n) (take to steps) ≡ drop (length steps - n) steps
last_part steps n from to is ends =
    ap (λ (k : ℕ). drop (k - n) (take to steps)) is ∙ ap (drop (length steps - n)) (take_all to steps (omega (arith, ends)))

pub first_part : (steps : List Step) (n from : ℕ) → from ≡ length steps → drop 0 (take (from - n) steps) ≡ take (length steps - n) steps
first_part steps n from is = ap (λ (k : ℕ). take (k - n) steps) is

-- ---- one undo after another

once_more : (n : ℕ) (r : Request) → replicate n r ++ r ∷ [] ≡ replicate (suc n) r
once_more n r =
    let one : n + 1 ≡ suc n = omega arith in
    replicate-append-replicate n 1 r ∙ ap (λ (m : ℕ). replicate m r) one

undoes_all : (past last future : List Step) (file : Text) → IsSound (kept (past ++ last) file future)
    → DoesAll (replicate (length last) request.Undo) (idle (kept (past ++ last) file future)) (idle (kept past (first_of last file) (last ++ future)))
undoes_all past [] future file w = ap (λ (p : List Step). idle (kept p file future)) (sym (append-nil past))
undoes_all past (s ∷ ss) future file w =
    let split : (past ++ s ∷ []) ++ ss ≡ past ++ s ∷ ss = append_assoc past (s ∷ []) ss in
    let old : KeptSteps = kept (past ++ s ∷ ss) file future in
    let mid : KeptSteps = kept (past ++ s ∷ []) (first_of ss file) (ss ++ future) in
    let new : KeptSteps = kept past (first_of (s ∷ ss) file) (s ∷ (ss ++ future)) in
    let did : DoesAll (replicate (length ss) request.Undo) (idle old) (idle mid) =
    subst (λ (p : List Step). DoesAll (replicate (length ss) request.Undo) (idle (kept p file future)) (idle mid)) split
    (undoes_all (past ++ s ∷ []) ss future file (subst (λ (p : List Step). IsSound (kept p file future)) (sym split) w)) in
    let goes : GoesBack s mid new = record { past = refl; present = refl; future = refl } in
    let both : IsSound new × Undoes (history_of mid) (history_of new) =
    going-back-undoes s mid new (all_keep_sound (replicate (length ss) request.Undo) (idle old) (idle mid) (w, tt) did).0 goes in
    subst (λ (rs : List Request). DoesAll rs (idle old) (idle new)) (once_more (length ss) request.Undo)
    (does_last (replicate (length ss) request.Undo) request.Undo (idle old) (idle mid) (idle new) did (record { step = s; closed = refl; still = refl; carried = goes; file = both.1 }))

-- `done` undos lead to what is kept once the last `done` changes are taken back
undos_take_back : (done : ℕ) (opened : KeptSteps) → IsSound opened → done ≤ length opened.past
    → DoesAll (replicate done request.Undo) (idle opened) (idle (taken_back done opened))
undos_take_back done opened w within =
    let first : ℕ = length opened.past - done in
    let parts : take first opened.past ++ drop first opened.past ≡ opened.past = take-append-drop first opened.past in
    let count : length (drop first opened.past) ≡ done = length-drop first opened.past ∙ omega arith in
    let whole : IsSound (kept (take first opened.past ++ drop first opened.past) opened.present opened.future) =
    subst (λ (p : List Step). IsSound (kept p opened.present opened.future)) (sym parts) w in
    subst (λ (p : List Step). DoesAll (replicate done request.Undo) (idle (kept p opened.present opened.future)) (idle (taken_back done opened))) parts
    (subst (λ (n : ℕ). DoesAll (replicate n request.Undo) (idle (kept (take first opened.past ++ drop first opened.past) opened.present opened.future)) (idle (taken_back done opened))) count
    (undoes_all (take first opened.past) (drop first opened.past) opened.future opened.present whole))

none_left : (n : ℕ) (r : Request) (new : SessionState) → StopsAt None (drop n (replicate n r)) new
none_left n r new = subst (λ (rs : List Request). StopsAt None rs new) (sym (drop_all n (replicate n r) (omega (arith, length-replicate n r)))) tt

pub performs_undos : (n done : ℕ) (fault : Option SessionFault) (opened : KeptSteps) → IsSound opened → done ≡ min n (length opened.past)
    → (n ≤ done → fault ≡ None) → (done < n → fault ≡ Some NothingToUndo)
    → Performs (replicate n request.Undo) done fault (idle opened) (idle (taken_back done opened))
performs_undos n done fault opened w least full short =
    let left : SessionState = idle (taken_back done opened) in
    let did : DoesAll (replicate done request.Undo) (idle opened) left = undos_take_back done opened w (omega (arith, least)) in
    let all : DoesAll (take done (replicate n request.Undo)) (idle opened) left =
    subst (λ (rs : List Request). DoesAll rs (idle opened) left) (sym (take-replicate done n request.Undo (omega (arith, least)))) did in
    ⊎_elim
    (λ (same : done ≡ n). subst (λ (f : Option SessionFault). Performs (replicate n request.Undo) done f (idle opened) left) (sym (full (omega (arith, same)))) (record {
      within = omega (arith, same, length-replicate n request.Undo);
      did = all;
      stops = subst (λ (m : ℕ). StopsAt None (drop m (replicate n request.Undo)) left) (sym same) (none_left n request.Undo left);
    }))
    (λ (less : done < n).
    let none : length opened.past - done ≡ 0 = omega (arith, least, less) in
    subst (λ (f : Option SessionFault). Performs (replicate n request.Undo) done f (idle opened) left) (sym (short less))
    (repeats_up_to n done request.Undo NothingToUndo (idle opened) left all less (refl, ap (λ (k : ℕ). take k opened.past) none)))
    (eq-or-lt_of_le (omega (arith, least)))

-- ---- what is left

-- what a journal says that fits its file is kept soundly
said_is_sound : (file text : Text) (c : Contents) → SaysOf file text c → IsSound (kept c.past file c.future)
said_is_sound file text c says = record { present = says.fit.opens; belong = says.fit.belong; steps = says.journal.says.good.steps }

-- what stops the undos is not want of memory
told_of : (n done : ℕ) (fault : Option SessionFault) (turned : Turned) → done ≤ n → (n ≤ done → fault ≡ None) → (done < n → fault ≡ Some NothingToUndo)
    → turned.performed.fault ≡ fault → turned.performed.fault ≢ Some Memory
told_of n done fault turned within full short told is = ⊎_elim
    (λ (same : done ≡ n). let no : None ≡ Some Memory = sym (full (omega (arith, same))) ∙ sym told ∙ is in absurd (cc (no)))
    (λ (less : done < n). let no : Some NothingToUndo ≡ Some Memory = sym (short less) ∙ sym told ∙ is in absurd (cc (no)))
    (eq-or-lt_of_le within)

-- the file before the last changes, and the journal with these in its future, are what `done` undos leave
pub undos_leave : (file text there : Text) (c : Contents) (n done : ℕ) (fault : Option SessionFault) (turned : Turned) → SaysOf file text c
    → there ≡ first_of (drop (length c.past - done) c.past) file → done ≡ min n (length c.past) → (n ≤ done → fault ≡ None) → (done < n → fault ≡ Some NothingToUndo)
    → turned.performed.done ≡ done → turned.performed.fault ≡ fault → turned.saved.file ≡ there → IsDigest (digest_of there)
    → turned.saved.journal ≡ journal_text (record { digest = digest_of there; past = take (length c.past - done) c.past; future = drop (length c.past - done) c.past ++ c.future })
    → Turns request.Undo n file (Some text) turned
undos_leave file text there c n done fault turned says reached least full short counted told saved digest written =
    let opened : KeptSteps = kept c.past file c.future in
    let closed : KeptSteps = taken_back done opened in
    let sound : IsSound opened = said_is_sound file text c says in
    let after : IsSound closed = (all_keep_sound (replicate done request.Undo) (idle opened) (idle closed) (sound, tt) (undos_take_back done opened sound (omega (arith, least)))).0 in
    let performs : Performs (replicate n request.Undo) done fault (idle opened) (idle closed) = performs_undos n done fault opened sound least full short in
    record {
      opened = opened;
      opens = says_loads file text c says;
      has_turned = record {
        closed = idle closed;
        told = told_of n done fault turned (omega (arith, least)) full short told;
        performs = subst (λ (f : Option SessionFault). Performs (replicate n request.Undo) turned.performed.done f (idle opened) (idle closed)) (sym told)
            (subst (λ (d : ℕ). Performs (replicate n request.Undo) d fault (idle opened) (idle closed)) (sym counted) performs);
        saves = record {
          file = saved ∙ reached;
          journal = record {
            good = record { digest = subst (λ (t : Text). IsDigest (digest_of t)) reached digest; steps = after.steps };
            whole = ap (λ (t : Text). journal_text (record { digest = digest_of t; past = closed.past; future = closed.future })) (sym reached) ∙ sym written;
          };
        };
      };
    }
