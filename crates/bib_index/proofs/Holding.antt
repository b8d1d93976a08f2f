-- The ids that have a text, when one id gets it or loses it.
use Rattle.std.proofs.Common.{◌≡◌, ◌≢◌, ℕ, ◌≤◌, Bool, true, false, not, cond, zero, suc, List, [], ◌∷◌, ◌++◌, Option, None, Some, length, take, drop, filter, insert, sym, subst, ⊎_elim, ◌∙◌, ap, ap₂, refl, arith, length-append}
use Rattle.std.specs.Prelude.{◌==◌}
use Rattle.std.specs.List.{slice_get}
use Rattle.std.specs.Option.{IfSome, IfNone}
use Rattle.std.specs.Str.{bytes_eq}
use Rattle.std.proofs.lemmas.Bool.{cases_Bool, cond-true, cond-false, ne_eqb, eq-eqb, cases_eq, false_from_ne_true}
use Rattle.std.proofs.lemmas.Bool.Decides.{eqb_tells}
use Rattle.std.proofs.lemmas.List.{take_at, drop_at}
use Rattle.std.proofs.lemmas.List.Elements.{filter-append}
use Rattle.std.proofs.lemmas.List.Sums.{length-filter}
use Rattle.std.proofs.lemmas.Option.{none-some, same_Some}
use Rattle.bib_spec.specs.Text.{Text, folded}
use Rattle.bib_spec.proofs.Names.{eq-true, true-eq}
use Rattle.bib_order.specs.Orders.{Lacks, IsDistinct}
use Rattle.bib_order.specs.Holders.{holders, before}
use Rattle.bib_order.proofs.Counting.{lacks_at}
use Rattle.bib_order.proofs.Following.{holders-split, follow_order}
use Rattle.folded_map.specs.FoldedMap.{value_at, IsWith}
use Rattle.bib_index.specs.KeyIndex.{is_text, has_text, with_text, also, IsIndexOf, without, members, ids_in, Has, HaveOneAtMost, TextsFollow}

-- ---- one id among others

-- an id, what stands before it and what stands after it
pub record Parts (ids : List ℕ) (n id : ℕ) : Type 0 where
  pub whole : ids ≡ take n ids ++ id ∷ drop (suc n) ids
  pub front : Lacks (take n ids) id
  pub back : Lacks (drop (suc n) ids) id

pub parts : (ids : List ℕ) (n id : ℕ) → IsDistinct ids → slice_get ids n ≡ Some id → Parts ids n id
parts [] n id d e = absurd (none-some id e)
parts (x ∷ ids) zero id d e = record { whole = ap (λ (y : ℕ). y ∷ ids) (same_Some x id e); front = tt; back = subst (Lacks ids) (same_Some x id e) d.0 }
parts (x ∷ ids) (suc n) id d e =
    let p = parts ids n id d.1 e in
    record { whole = ap (λ (l : List ℕ). x ∷ l) p.whole; front = ((λ same. lacks_at ids n id x d.0 e (sym same)), p.front); back = p.back }

-- ---- tests that agree

-- on all ids but one that is not there
same_holders : (a b : ℕ → Bool) (id : ℕ) → ((y : ℕ) → y ≢ id → a y ≡ b y) → (ids : List ℕ) → Lacks ids id → holders a ids ≡ holders b ids
same_holders a b id same [] l = refl
same_holders a b id same (x ∷ ids) l = ap₂ (λ (c : Bool) (r : List ℕ). cond c (x ∷ r) r) (same x l.0) (same_holders a b id same ids l.1)

-- on all ids
all_same : (a b : ℕ → Bool) → ((y : ℕ) → a y ≡ b y) → (ids : List ℕ) → holders a ids ≡ holders b ids
all_same a b same [] = refl
all_same a b same (x ∷ ids) = ap₂ (λ (c : Bool) (r : List ℕ). cond c (x ∷ r) r) (same x) (all_same a b same ids)

-- ---- one id more passes

also_itself : (id : ℕ) (test : ℕ → Bool) → also id test id ≡ true
also_itself id test = cond-true (id == id) true (test id) (eq-eqb id id refl)

also_other : (id : ℕ) (test : ℕ → Bool) (y : ℕ) → y ≢ id → also id test y ≡ test y
also_other id test y other = cond-false (y == id) true (test y) (ne_eqb y id other)

-- it stands among those that pass at the number of those before it
pub more : (test : ℕ → Bool) (ids : List ℕ) (n id : ℕ) → IsDistinct ids → slice_get ids n ≡ Some id → test id ≡ false → holders (also id test) ids ≡ insert (holders test ids) (before test ids n) id
more test ids n id d e lacks =
    let p = parts ids n id d e in
    let with_it = also id test in
    let f = holders test (take n ids) in
    let r = holders test (drop (suc n) ids) in
    let rb = holders with_it (drop (suc n) ids) in
    let count = length-filter test (take n ids) in
    let one : holders with_it ids ≡ f ++ id ∷ r
    = ap (filter with_it) p.whole ∙ filter-append with_it (take n ids) (id ∷ drop (suc n) ids)
    ∙ ap₂ (λ (u v : List ℕ). u ++ v) (same_holders with_it test id (also_other id test) (take n ids) p.front)
    (cond-true (with_it id) (id ∷ rb) rb (also_itself id test) ∙ ap (λ (v : List ℕ). id ∷ v) (same_holders with_it test id (also_other id test) (drop (suc n) ids) p.back)) in
    let none : holders test ids ≡ f ++ r
    = ap (filter test) p.whole ∙ filter-append test (take n ids) (id ∷ drop (suc n) ids) ∙ ap (λ (v : List ℕ). f ++ v) (cond-false (test id) (id ∷ r) r lacks) in
    one
    ∙ sym (ap (λ (l : List ℕ). insert l (before test ids n) id) none
    ∙ ap₂ (λ (u v : List ℕ). u ++ id ∷ v) (take_at f r (before test ids n) count) (drop_at f r (before test ids n) count))

-- if the id is not in the order, that changes nothing
pub more_nowhere : (test : ℕ → Bool) (ids : List ℕ) (id : ℕ) → Lacks ids id → holders (also id test) ids ≡ holders test ids
more_nowhere test ids id l = same_holders (also id test) test id (also_other id test) ids l

-- no more pass before a number than in all
before_fits : (test : ℕ → Bool) (ids : List ℕ) (n : ℕ) → before test ids n ≤ length (holders test ids)
before_fits test ids n =
    omega (arith, ap (length {A = ℕ}) (holders-split test ids n), length-append (holders test (take n ids)) (holders test (drop n ids)), length-filter test (take n ids))

-- if no id passes, this one is the only one that does
pub more_first : (test : ℕ → Bool) (ids : List ℕ) (n id : ℕ) → IsDistinct ids → slice_get ids n ≡ Some id → test id ≡ false → holders test ids ≡ [] → holders (also id test) ids ≡ id ∷ []
more_first test ids n id d e lacks none =
    let low : before test ids n ≡ 0 = omega (arith, before_fits test ids n, ap (length {A = ℕ}) none) in
    more test ids n id d e lacks ∙ ap₂ (λ (l : List ℕ) (k : ℕ). insert l k id) none low

-- ---- one id fewer passes

fewer_of : (a b : ℕ → Bool) (id x : ℕ) (ids : List ℕ) → b id ≡ false → ((y : ℕ) → y ≢ id → b y ≡ a y) → without id (holders a ids) ≡ holders b ids → without id (holders a (x ∷ ids)) ≡ holders b (x ∷ ids)
fewer_of a b id x ids lacks same rest = ⊎_elim here there (eqb_tells x id)
  where
    dropped : (c : Bool) → (x == id) ≡ true → without id (cond c (x ∷ holders a ids) (holders a ids)) ≡ without id (holders a ids)
    dropped true e = cond-false (not (x == id)) (x ∷ without id (holders a ids)) (without id (holders a ids)) (ap not e)
    dropped false e = refl

    kept : (c : Bool) → (x == id) ≡ false → without id (cond c (x ∷ holders a ids) (holders a ids)) ≡ cond c (x ∷ without id (holders a ids)) (without id (holders a ids))
    kept true e = cond-true (not (x == id)) (x ∷ without id (holders a ids)) (without id (holders a ids)) (ap not e)
    kept false e = refl

    here : ((x == id) ≡ true) × (x ≡ id) → without id (holders a (x ∷ ids)) ≡ holders b (x ∷ ids)
    here h = dropped (a x) h.0 ∙ rest ∙ sym (cond-false (b x) (x ∷ holders b ids) (holders b ids) (ap b h.1 ∙ lacks))

    there : ((x == id) ≡ false) × (x ≢ id) → without id (holders a (x ∷ ids)) ≡ holders b (x ∷ ids)
    there h = kept (a x) h.0 ∙ ap₂ (λ (c : Bool) (r : List ℕ). cond c (x ∷ r) r) (sym (same x h.1)) rest

fewer : (a b : ℕ → Bool) (id : ℕ) → b id ≡ false → ((y : ℕ) → y ≢ id → b y ≡ a y) → (ids : List ℕ) → without id (holders a ids) ≡ holders b ids
fewer a b id lacks same [] = refl
fewer a b id lacks same (x ∷ ids) = fewer_of a b id x ids lacks same (fewer a b id lacks same ids)

-- ---- texts

pub other_text : (a b : Text) → a ≢ b → bytes_eq a b ≡ false
other_text a b apart = false_from_ne_true (bytes_eq a b) (λ h. apart (eq-true a b h))

-- the ids of a text are these
has_here : (old new : Text → List ℕ) (text x : Text) (ids : List ℕ) → Has old text ids new → bytes_eq x text ≡ true → new x ≡ ids
has_here old new text x ids told h = told x ∙ cond-true (bytes_eq x text) ids (old x) h

has_there : (old new : Text → List ℕ) (text x : Text) (ids : List ℕ) → Has old text ids new → bytes_eq x text ≡ false → new x ≡ old x
has_there old new text x ids told h = told x ∙ cond-false (bytes_eq x text) ids (old x) h

-- a list that is put in for a text is what the text has
pub has_with : (old before new : List (Text × List ℕ)) (name : Text) (list ids : List ℕ) → old ≡ before → list ≡ ids → IsWith old name list new → Has (ids_in before) (folded name) ids (ids_in new)
has_with old before new name list ids same is put x =
    ap members (put x)
    ∙ ap₂ (λ (l : List ℕ) (lists : List (Text × List ℕ)). members (cond (bytes_eq x (folded name)) (Some l) (value_at lists x))) is same
    ∙ inside (bytes_eq x (folded name))
  where
    inside : (c : Bool) → members (cond c (Some ids) (value_at before x)) ≡ cond c ids (ids_in before x)
    inside true = refl
    inside false = refl

-- what a text has last counts
pub has_last : (old mid new : Text → List ℕ) (text : Text) (a b : List ℕ) → Has old text a mid → Has mid text b new → Has old text b new
has_last old mid new text a b first last x = last x ∙ ap (cond (bytes_eq x text) b) (first x) ∙ inside (bytes_eq x text)
  where
    inside : (c : Bool) → cond c b (cond c a (old x)) ≡ cond c b (old x)
    inside true = refl
    inside false = refl

-- it has those that it had
pub has_same : (index : Text → List ℕ) (text : Text) (ids : List ℕ) → index text ≡ ids → Has index text ids index
has_same index text ids is x = ⊎_elim
    (λ (h : bytes_eq x text ≡ true). ap index (eq-true x text h) ∙ is ∙ sym (cond-true (bytes_eq x text) ids (index x) h))
    (λ (h : bytes_eq x text ≡ false). sym (cond-false (bytes_eq x text) ids (index x) h))
    (cases_Bool (bytes_eq x text))

-- ---- one text more, or fewer, or another

pub with_same : (texts : ℕ → Option Text) (id : ℕ) (t : Option Text) → with_text texts id t id ≡ t
with_same texts id t = cond-true (id == id) t (texts id) (eq-eqb id id refl)

pub with_other : (texts : ℕ → Option Text) (id : ℕ) (t : Option Text) (y : ℕ) → y ≢ id → with_text texts id t y ≡ texts y
with_other texts id t y other = cond-false (y == id) t (texts y) (ne_eqb y id other)

agrees : (texts : ℕ → Option Text) (id : ℕ) (t : Option Text) (x : Text) (y : ℕ) → y ≢ id → has_text (with_text texts id t) x y ≡ has_text texts x y
agrees texts id t x y other = ap (λ (o : Option Text). is_text o x) (with_other texts id t y other)

at_itself : (texts : ℕ → Option Text) (id : ℕ) (t : Option Text) (x : Text) → has_text (with_text texts id t) x id ≡ is_text t x
at_itself texts id t x = ap (λ (o : Option Text). is_text o x) (with_same texts id t)

-- the id becomes a holder of the text that it gets
gets : (texts : ℕ → Option Text) (order : List ℕ) (id : ℕ) (t : Text) → holders (also id (has_text texts (folded t))) order ≡ holders (has_text (with_text texts id (Some t)) (folded t)) order
gets texts order id t = all_same (also id test) (has_text after (folded t)) same order
  where
    test : ℕ → Bool
    test = has_text texts (folded t)

    after : ℕ → Option Text
    after = with_text texts id (Some t)

    same : (y : ℕ) → also id test y ≡ has_text after (folded t) y
    same y = ⊎_elim
        (λ (e : y ≡ id). ap (also id test) e ∙ also_itself id test ∙ sym (true-eq (folded t) (folded t) refl) ∙ sym (at_itself texts id (Some t) (folded t)) ∙ ap (has_text after (folded t)) (sym e))
        (λ (e : y ≢ id). also_other id test y e ∙ sym (agrees texts id (Some t) (folded t) y e))
        (cases_eq y id)

-- the id is no holder of a text that it no longer has
loses : (texts : ℕ → Option Text) (order : List ℕ) (id : ℕ) (t : Option Text) (x : Text) → is_text t x ≡ false → without id (holders (has_text texts x) order) ≡ holders (has_text (with_text texts id t) x) order
loses texts order id t x lacks = fewer (has_text texts x) (has_text (with_text texts id t) x) id (at_itself texts id t x ∙ lacks) (agrees texts id t x) order

-- a text that the id has both before and after, or neither before nor after, has the holders that it had
keeps : (texts : ℕ → Option Text) (order : List ℕ) (id : ℕ) (t : Option Text) (x : Text) → is_text t x ≡ is_text (texts id) x → holders (has_text texts x) order ≡ holders (has_text (with_text texts id t) x) order
keeps texts order id t x is = all_same (has_text texts x) (has_text after x) same order
  where
    after : ℕ → Option Text
    after = with_text texts id t

    same : (y : ℕ) → has_text texts x y ≡ has_text after x y
    same y = ⊎_elim
        (λ (e : y ≡ id). ap (has_text texts x) e ∙ sym is ∙ sym (at_itself texts id t x) ∙ ap (has_text after x) (sym e))
        (λ (e : y ≢ id). sym (agrees texts id t x y e))
        (cases_eq y id)

-- an id gets a text
pub added : (texts : ℕ → Option Text) (order : List ℕ) (old new : Text → List ℕ) (t : Text) (id : ℕ) → texts id ≡ None → IsIndexOf texts order old
    → Has old (folded t) (holders (also id (has_text texts (folded t))) order) new → IsIndexOf (with_text texts id (Some t)) order new
added texts order old new t id none is told x = ⊎_elim
    (λ (h : bytes_eq x (folded t) ≡ true).
    has_here old new (folded t) x (holders (also id (has_text texts (folded t))) order) told h
    ∙ gets texts order id t
    ∙ ap (λ (y : Text). holders (has_text (with_text texts id (Some t)) y) order) (sym (eq-true x (folded t) h)))
    (λ (h : bytes_eq x (folded t) ≡ false).
    has_there old new (folded t) x (holders (also id (has_text texts (folded t))) order) told h
    ∙ is x
    ∙ keeps texts order id (Some t) x (h ∙ sym (ap (λ (o : Option Text). is_text o x) none)))
    (cases_Bool (bytes_eq x (folded t)))

-- an id loses its text
pub removed : (texts : ℕ → Option Text) (order : List ℕ) (old new : Text → List ℕ) (t : Text) (id : ℕ) → texts id ≡ Some t → IsIndexOf texts order old
    → Has old (folded t) (without id (old (folded t))) new → IsIndexOf (with_text texts id None) order new
removed texts order old new t id some is told x = ⊎_elim
    (λ (h : bytes_eq x (folded t) ≡ true).
    has_here old new (folded t) x (without id (old (folded t))) told h
    ∙ ap (λ (y : Text). without id (old y)) (sym (eq-true x (folded t) h))
    ∙ ap (without id) (is x)
    ∙ loses texts order id None x refl)
    (λ (h : bytes_eq x (folded t) ≡ false).
    has_there old new (folded t) x (without id (old (folded t))) told h
    ∙ is x
    ∙ keeps texts order id None x (sym (ap (λ (o : Option Text). is_text o x) some ∙ h)))
    (cases_Bool (bytes_eq x (folded t)))

-- an id gets a text that is the same, folded
pub renamed : (texts : ℕ → Option Text) (order : List ℕ) (index : Text → List ℕ) (t s : Text) (id : ℕ) → texts id ≡ Some t → folded t ≡ folded s → IsIndexOf texts order index → IsIndexOf (with_text texts id (Some s)) order index
renamed texts order index t s id some same is x =
    is x ∙ keeps texts order id (Some s) x (ap (bytes_eq x) (sym same) ∙ sym (ap (λ (o : Option Text). is_text o x) some))

-- an id gets another text: it is put in there first
pub rekeyed : (texts : ℕ → Option Text) (order : List ℕ) (old mid new : Text → List ℕ) (t s : Text) (id : ℕ) → texts id ≡ Some t → folded t ≢ folded s → IsIndexOf texts order old
    → Has old (folded s) (holders (also id (has_text texts (folded s))) order) mid → Has mid (folded t) (without id (mid (folded t))) new → IsIndexOf (with_text texts id (Some s)) order new
rekeyed texts order old mid new t s id some apart is told then x = ⊎_elim
    (λ (h : bytes_eq x (folded t) ≡ true).
    let here = eq-true x (folded t) h in
    let other : bytes_eq x (folded s) ≡ false = other_text x (folded s) (λ e. apart (sym here ∙ e)) in
    has_here mid new (folded t) x (without id (mid (folded t))) then h
    ∙ ap (λ (y : Text). without id (mid y)) (sym here)
    ∙ ap (without id) (has_there old mid (folded s) x (holders (also id (has_text texts (folded s))) order) told other ∙ is x)
    ∙ loses texts order id (Some s) x other)
    (λ (h : bytes_eq x (folded t) ≡ false).
    has_there mid new (folded t) x (without id (mid (folded t))) then h
    ∙ ⊎_elim
    (λ (e : bytes_eq x (folded s) ≡ true).
    has_here old mid (folded s) x (holders (also id (has_text texts (folded s))) order) told e
    ∙ gets texts order id s
    ∙ ap (λ (y : Text). holders (has_text (with_text texts id (Some s)) y) order) (sym (eq-true x (folded s) e)))
    (λ (e : bytes_eq x (folded s) ≡ false).
    has_there old mid (folded s) x (holders (also id (has_text texts (folded s))) order) told e
    ∙ is x
    ∙ keeps texts order id (Some s) x (e ∙ sym (ap (λ (o : Option Text). is_text o x) some ∙ h)))
    (cases_Bool (bytes_eq x (folded s))))
    (cases_Bool (bytes_eq x (folded t)))

-- ids without a text come and go
pub texts_follow : TextsFollow
texts_follow = record {
  inserted = λ texts order index n id h none is x. is x ∙ sym (follow_order.inserted_other (has_text texts x) order n id (ap (λ (o : Option Text). is_text o x) none));
  removed = λ texts order index n h none is x. is x ∙ sym (follow_order.removed_other (has_text texts x) order n h (ap (λ (o : Option Text). is_text o x) none));
}

-- if no id has a text, no text has an id
pub no_holders : (order : List ℕ) → holders (λ _. false) order ≡ []
no_holders [] = refl
no_holders (id ∷ order) = no_holders order

-- ---- no text has two ids

-- still no text has two ids after one text gets a list with one id at most
pub one_with : (old new : List (Text × List ℕ)) (name : Text) (ids : List ℕ) → HaveOneAtMost old → length ids ≤ 1 → IsWith old name ids new → HaveOneAtMost new
one_with old new name ids one short put x = ⊎_elim
    (λ (h : bytes_eq x (folded name) ≡ true). subst (λ (o : Option (List ℕ)). length (members o) ≤ 1) (sym (put x ∙ cond-true (bytes_eq x (folded name)) (Some ids) (value_at old x) h)) short)
    (λ (h : bytes_eq x (folded name) ≡ false). subst (λ (o : Option (List ℕ)). length (members o) ≤ 1) (sym (put x ∙ cond-false (bytes_eq x (folded name)) (Some ids) (value_at old x) h)) (one x))
    (cases_Bool (bytes_eq x (folded name)))

-- or after it keeps the list that it had
pub one_replaced : {R : Type 0} (old new : List (Text × List ℕ)) (name : Text) (ids : List ℕ) (result : Option R) → HaveOneAtMost old → length ids ≤ 1 → IfSome result (λ r. IsWith old name ids new) → IfNone result (new ≡ old) → HaveOneAtMost new
one_replaced old new name ids (Some r) one short some none = one_with old new name ids one short some
one_replaced old new name ids None one short some none = subst HaveOneAtMost (sym none) one

-- fewer ids are no more
pub fewer_ids : (id : ℕ) (ids : List ℕ) → length (without id ids) ≤ length ids
fewer_ids id [] = omega arith
fewer_ids id (x ∷ ids) = inside (fewer_ids id ids) (not (x == id))
  where
    inside : length (without id ids) ≤ length ids → (c : Bool) → length (cond c (x ∷ without id ids) (without id ids)) ≤ length (x ∷ ids)
    inside rest true = omega (arith, rest)
    inside rest false = omega (arith, rest)

-- a text loses one
pub one_lost : {R : Type 0} (lists mid new : List (Text × List ℕ)) (name : Text) (held nothing ids : List ℕ) (id : ℕ) (result : Option R) → HaveOneAtMost lists → Some held ≡ value_at lists (folded name)
    → nothing ≡ [] → IsWith lists name nothing mid → ids ≡ without id held → IfSome result (λ r. IsWith mid name ids new) → IfNone result (new ≡ mid) → HaveOneAtMost new
one_lost lists mid new name held nothing ids id result one some bare empty are put none =
    let short : length held ≤ 1 = subst (λ (o : Option (List ℕ)). length (members o) ≤ 1) (sym some) (one (folded name)) in
    let left : length ids ≤ length held = subst (λ (l : List ℕ). length l ≤ length held) (sym are) (fewer_ids id held) in
    one_replaced mid new name ids result (one_with lists mid name nothing one (subst (λ (l : List ℕ). length l ≤ 1) (sym bare) (omega arith)) empty) (omega (arith, short, left)) put none
