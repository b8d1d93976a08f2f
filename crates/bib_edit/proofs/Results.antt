-- What is known of a result, of another that it is.
use Rattle.bib_edit.proofs.Words.{Result, Ok, Err, IfOk, IfErr, OnOk, Option, Some, None, IfNone, ◌≡◌, subst}
use Rattle.std.proofs.Common.{IfSome}

pub if_ok-as : {X E : Type 0} (P Q : X → Type 0) → ((x : X) → P x → Q x) → (r : Result X E) → IfOk r P → IfOk r Q
if_ok-as P Q f (Ok x) h = f x h
if_ok-as P Q f (Err e) h = tt

pub on_ok-of : {X E : Type 0} (P : Type 0) (r : Result X E) → P → OnOk r P
on_ok-of P (Ok x) h = h
on_ok-of P (Err e) h = tt

pub on_ok-as : {X E : Type 0} (P Q : Type 0) → (P → Q) → (r : Result X E) → OnOk r P → OnOk r Q
on_ok-as P Q f (Ok x) h = f h
on_ok-as P Q f (Err e) h = tt

pub if_err-as : {X E : Type 0} (P Q : E → Type 0) → ((e : E) → P e → Q e) → (r : Result X E) → IfErr r P → IfErr r Q
if_err-as P Q f (Ok x) h = tt
if_err-as P Q f (Err e) h = f e h

-- what is known of what is there, and that nothing is
pub if_some-at : {X : Type 0} (P : X → Type 0) (o : Option X) (x : X) → o ≡ Some x → IfSome o P → P x
if_some-at P o x is h = subst (λ p. IfSome p P) is h

pub if_none-at : {X : Type 0} (P : Type 0) (o : Option X) → o ≡ None → IfNone o P → P
if_none-at P o is h = subst (λ p. IfNone p P) is h
