-- One read after another, and the text of what was read.
use Rattle.std.proofs.Common.{◌≡◌, ◌⊎◌, ◌<◌, ◌≤◌, ◌+◌, ℕ, length, string_bytes, subst, String, Result, Ok, Err, IfOk}
use Rattle.std.proofs.Common.{IfErr, Bool, true, false, inl, inr, List, [], ◌++◌, Option, Some, None, refl, sym, ap}
use Rattle.std.proofs.Common.{◌∙◌, append_assoc}
use Rattle.std.proofs.lemmas.Bool.{cases_Bool}
use Rattle.std.proofs.lemmas.Str.{IsUtf8-from_is_utf8}
use Rattle.std.specs.Str.{IsUtf8, is_utf8}
use Rattle.std.specs.Io.KnownBytes.{Consumes, IsAtEnd, Keeps}
use Rattle.std.specs.declared.alloc.Global.{Global}
use Rattle.process.specs.Inputs.{FailsAfterReading, IsInputFault, IsTextOf, ReadsAll, input_limit}
use Rattle.process.specs.declared.input.InputFault.{InputFault}
use Rattle.process.specs.declared.input.InputFault.TheVariants.{BadInput}

pub consumes_none : (a : Option (List ℕ)) → Consumes a a []
consumes_none None = tt
consumes_none (Some xs) = refl

pub consumes_more : (a b c : Option (List ℕ)) (x y : List ℕ) → Consumes a b x → Consumes b c y → Consumes a c (x ++ y)
consumes_more None b c x y h k = tt
consumes_more (Some xs) None c x y h k = absurd h
consumes_more (Some xs) (Some ys) None x y h k = absurd k
consumes_more (Some xs) (Some ys) (Some zs) x y h k = h ∙ (ap (λ l. x ++ l) k ∙ sym (append_assoc x y zs))

pub consumes_kept : (a b c : Option (List ℕ)) (x : List ℕ) → Consumes a b x → Keeps b c → Consumes a c x
consumes_kept None b c x h k = tt
consumes_kept (Some xs) None c x h k = absurd h
consumes_kept (Some xs) (Some ys) None x h k = absurd k
consumes_kept (Some xs) (Some ys) (Some zs) x h k = h ∙ ap (λ l. x ++ l) (sym k)

pub no_utf8 : (bytes : List ℕ) → (IsUtf8 bytes → ◌≡◌ {A = Bool} false true) → is_utf8 bytes ≡ false
no_utf8 bytes h = elim (cases_Bool (is_utf8 bytes)) [
  | inl t ↦ absurd (clash (h (IsUtf8-from_is_utf8 bytes t)))
  | inr f ↦ f
]
  where
    clash : ◌≡◌ {A = Bool} false true → ⊥
    clash e = cc

-- what is answered of the bytes that were read

pub given_text : (old new : Option (List ℕ)) (bytes : List ℕ) (r : Result (String Global) InputFault) → Consumes old new bytes → (length bytes ≤ input_limit → IsAtEnd new) → IsTextOf bytes r
    → IfOk r (λ text. ReadsAll old new (string_bytes text))
given_text old new bytes (Ok text) taken all h = (subst (λ (bs : List ℕ). Consumes old new bs) (sym h.0) taken, all h.1)
given_text old new bytes (Err fault) taken all h = tt

pub failed_text : (old new : Option (List ℕ)) (bytes : List ℕ) (r : Result (String Global) InputFault)
    → Consumes old new bytes → length bytes ≤ input_limit + 1 → (length bytes ≤ input_limit → IsAtEnd new)
    → IsTextOf bytes r → IfErr r (λ fault. FailsAfterReading fault old new)
failed_text old new bytes (Ok text) taken within all h = tt
failed_text old new bytes (Err fault) taken within all h =
    (bytes, taken, within, subst (λ f. IsInputFault f new bytes) (sym h.0) (bad h.1))
  where
    bad : (input_limit < length bytes) ⊎ ((length bytes ≤ input_limit) × (is_utf8 bytes ≡ false)) → IsInputFault BadInput new bytes
    bad (inl many) = inl many
    bad (inr odd) = inr (all odd.0, odd.1)
