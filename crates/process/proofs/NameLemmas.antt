-- Bytes as the name of a variable.
use Rattle.std.proofs.Common.{◌≡◌, Bool, ◌&&◌, Some, None, inl, inr, sym, ap, ◌∙◌}
use Rattle.std.proofs.lemmas.Bool.{cases_Bool}
use Rattle.std.proofs.lemmas.Str.{IsUtf8-from_is_utf8, is_utf8-from_IsUtf8}
use Rattle.std.specs.Prelude.{if◌then◌else◌}
use Rattle.std.specs.Str.{IsUtf8, is_utf8}
use Rattle.envvars.specs.Names.{is_variable_name}
use Rattle.envvars.specs.Texts.{Text}
use Rattle.process.specs.NotUtf8.{as_name}

pub named : (bytes name : Text) (b : Bool) → name ≡ bytes → IsUtf8 bytes → b ≡ is_variable_name name
    → (if b then Some name else None) ≡ as_name bytes
named bytes name b same u is =
    let whole : (is_utf8 bytes && is_variable_name bytes) ≡ b =
    ap (λ (x : Bool). x && is_variable_name bytes) (is_utf8-from_IsUtf8 bytes u)
    ∙ (ap is_variable_name (sym same) ∙ sym is) in
    ap (λ (n : Text). if b then Some n else None) same
    ∙ ap (λ (x : Bool). if x then Some bytes else None) (sym whole)

pub unnamed : (bytes : Text) → (IsUtf8 bytes → ⊥) → None ≡ as_name bytes
unnamed bytes h = elim (cases_Bool (is_utf8 bytes)) [
  | inl t ↦ absurd (h (IsUtf8-from_is_utf8 bytes t))
  | inr f ↦ ap (λ (x : Bool). if x && is_variable_name bytes then Some bytes else None) (sym f)
]
