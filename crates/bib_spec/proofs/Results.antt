-- What holds of a result follows from what else holds of it, and what holds anyway holds of it.
use Rattle.std.specs.Prelude.{Result, Ok, Err, OnOk, OnErr, IfErr}

pub ok_from : {T E : Type 0} (r : Result T E) (P Q : Type 0) → (P → Q) → OnOk r P → OnOk r Q
ok_from (Ok x) P Q f h = f h
ok_from (Err e) P Q f h = tt

pub ok_both : {T E : Type 0} (r : Result T E) (P Q : Type 0) → OnOk r P → OnOk r Q → OnOk r (P × Q)
ok_both (Ok x) P Q p q = (p, q)
ok_both (Err e) P Q p q = tt

pub ok_always : {T E P : Type 0} (r : Result T E) → P → OnOk r P
ok_always (Ok x) p = p
ok_always (Err e) p = tt

pub err_from : {T E : Type 0} (r : Result T E) (P Q : E → Type 0) → ((e : E) → P e → Q e) → IfErr r P → IfErr r Q
err_from (Ok x) P Q f h = tt
err_from (Err e) P Q f h = f e h

pub err_always : {T E P : Type 0} (r : Result T E) → P → OnErr r P
err_always (Ok x) p = tt
err_always (Err e) p = p
