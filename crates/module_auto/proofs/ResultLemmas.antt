-- What holds of a result holds of it in another form.
use Rattle.std.proofs.Common.{OnOk, IfErr, IfOk, Result, Ok, Err}

pub on_ok : {A E : Type 0} (r : Result A E) (P Q : Type 0) → (P → Q) → OnOk r P → OnOk r Q
on_ok (Ok x) P Q then h = then h
on_ok (Err e) P Q then h = tt

pub if_err : {A E : Type 0} (r : Result A E) (P Q : E → Type 0) → ((e : E) → P e → Q e) → IfErr r P → IfErr r Q
if_err (Ok x) P Q then h = tt
if_err (Err e) P Q then h = then e h

pub if_ok : {A E : Type 0} (r : Result A E) (P : A → Type 0) → ((a : A) → P a) → IfOk r P
if_ok (Ok x) P then = then x
if_ok (Err e) P then = tt
