-- One more request that is accepted.
use Rattle.bib_journal.proofs.Words.{◌≡◌, ℕ, ◌+◌, ◌<◌, List, [], ◌∷◌, ◌++◌, length, take, drop, get_or, replicate, Some, sym, ◌∙◌, ap, subst, refl, arith, take_more, drop_more, length-replicate, SessionState, Request, SessionFault, Does, DoesAll, Refuses, StopsAt, Performs}
use Rattle.std.proofs.lemmas.List.{get_or-replicate}

pub does_last : (requests : List Request) (request : Request) (old mid new : SessionState) → DoesAll requests old mid → Does request mid new → DoesAll (requests ++ request ∷ []) old new
does_last [] request old mid new all does = (new, subst (λ (k : SessionState). Does request k new) all does, refl)
does_last (first ∷ requests) request old mid new all does = (all.0, all.1, does_last requests request all.0 mid new all.2 does)

pub does_more : (requests : List Request) (n : ℕ) (request : Request) (old mid new : SessionState) → DoesAll (take n requests) old mid
    → n < length requests → request ≡ get_or requests n request → Does request mid new → DoesAll (take (n + 1) requests) old new
does_more requests n request old mid new all h e does =
    let next : take (n + 1) requests ≡ take n requests ++ request ∷ [] = take_more requests n request h ∙ ap (λ (r : Request). take n requests ++ r ∷ []) (sym e) in
    subst (λ (rs : List Request). DoesAll rs old new) (sym next) (does_last (take n requests) request old mid new all does)

-- the same request once more
pub repeats_more : (times n : ℕ) (request : Request) (old mid new : SessionState) → DoesAll (take n (replicate times request)) old mid
    → n < times → Does request mid new → DoesAll (take (n + 1) (replicate times request)) old new
repeats_more times n request old mid new all h does =
    does_more (replicate times request) n request old mid new all (omega (arith, h, length-replicate times request)) (sym (get_or-replicate times n request request h)) does

-- the same request, refused
pub repeats_up_to : (times n : ℕ) (request : Request) (fault : SessionFault) (old new : SessionState) → DoesAll (take n (replicate times request)) old new
    → n < times → Refuses fault request new → Performs (replicate times request) n (Some fault) old new
repeats_up_to times n request fault old new all h refused =
    let next : drop n (replicate times request) ≡ request ∷ drop (n + 1) (replicate times request) =
    drop_more (replicate times request) n request (omega (arith, h, length-replicate times request))
    ∙ ap (λ (r : Request). r ∷ drop (n + 1) (replicate times request)) (get_or-replicate times n request request h) in
    record {
      within = omega (arith, h, length-replicate times request);
      did = all;
      stops = subst (λ (rs : List Request). StopsAt (Some fault) rs new) (sym next) refused;
    }
