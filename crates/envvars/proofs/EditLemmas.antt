-- What accepted and refused edits come to.
use Rattle.std.proofs.Common.{◌≡◌, Bool, true, false, cond, not, ◌||◌, ◌&&◌, List, [], ◌∷◌, refl, sym, ap, ◌∙◌, subst}
use Rattle.std.proofs.Common.{Option, Some, None, Result, Ok, Err}
use Rattle.std.specs.Prelude.{bytes_eq, if◌then◌else◌}
use Rattle.std.specs.List.{list_all}
use Rattle.std.proofs.lemmas.Bool.{false≢true}
use Rattle.envvars.specs.Texts.{Text, has}
use Rattle.std.specs.Option.{option_or, IfSome}
use Rattle.envvars.specs.Environment.{Environment}
use Rattle.envvars.specs.Reasons.{EnvReason, unless, bad_value, Edits, reason_of}
use Rattle.envvars.proofs.TextLemmas.{same_text}
use Rattle.std.specs.Result.{OnOk, OnErr, IfErr}
use Rattle.envvars.specs.declared.fault.EnvFault.{EnvFault}
use Rattle.envvars.specs.declared.fault.EnvFault.TheVariants.{OutOfMemory}

pub both_true : (a b : Bool) → (a && b) ≡ true → (a ≡ true) × (b ≡ true)
both_true true true h = (refl, refl)
both_true true false h = absurd (false≢true h)
both_true false b h = absurd (false≢true h)

passes_at : (p : Text → Bool) (x y : Text) (ys : List Text) (b : Bool) → bytes_eq x y ≡ b → (p y && list_all p ys) ≡ true → (b || has x ys) ≡ true → (has x ys ≡ true → p x ≡ true) → p x ≡ true
passes_at p x y ys true e a h k = ap p (same_text x y e) ∙ (both_true (p y) (list_all p ys) a).0
passes_at p x y ys false e a h k = k h

pub passes_each : (p : Text → Bool) (x : Text) (xs : List Text) → list_all p xs ≡ true → has x xs ≡ true → p x ≡ true
passes_each p x [] a h = absurd (false≢true h)
passes_each p x (y ∷ ys) a h = passes_at p x y ys (bytes_eq x y) refl a h (λ k. passes_each p x ys (both_true (p y) (list_all p ys) a).1 k)

pub looked : (b : Bool) (v o : Option Text) → b ≡ false → cond b v o ≡ o
looked b v o e = ap (λ (t : Bool). cond t v o) e

pub no_reason : (o : Option EnvReason) (r : Result Environment EnvReason) (new : Environment) → unless o r ≡ Ok new → (o ≡ None) × (r ≡ Ok new)
no_reason None r new h = (refl, h)
no_reason (Some x) r new h = cc

pub no_value_reason : (o : Option EnvReason) (name : Text) (t : Bool) → option_or o (if t then None else Some (bad_value name)) ≡ None → t ≡ true
no_value_reason None name true h = refl
no_value_reason None name false h = cc
no_value_reason (Some x) name t h = cc

pub same_ok : (e new : Environment) (r : Result Environment EnvReason) → r ≡ Ok e → r ≡ Ok new → new ≡ e
same_ok e new r a h = cc

pub and_both : (a b : Bool) → a ≡ true → b ≡ true → (a && b) ≡ true
and_both a b h k = rw (h, k) refl

pub not_is : (b : Bool) → not b ≡ true → b ≡ false
not_is true h = absurd (false≢true h)
not_is false h = refl

-- an edit that is written, or not made for want of memory
pub written_edits : (r : Result (Unit {0}) EnvFault) (old new next : Environment) (outcome : Result Environment EnvReason) → outcome ≡ Ok next
    → OnOk r (new ≡ next) → OnErr r (new ≡ old) → IfErr r (λ e. e ≡ OutOfMemory) → Edits r old new outcome
written_edits (Ok u) old new next outcome o ok err only = o ∙ ap Ok (sym ok)
written_edits (Err e) old new next outcome o ok err only = (err, subst (λ (f : EnvFault). IfSome (reason_of f) (λ r. outcome ≡ Err r)) (sym only) tt)
