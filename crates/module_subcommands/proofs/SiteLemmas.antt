-- The places of a site.
use Rattle.std.proofs.Common.{◌≡◌, ◌≢◌, ◌++◌, false, None, Some, inl, inr, nat_eq, refl, sym}
use Rattle.std.proofs.lemmas.Bool.{cases_Bool}
use Rattle.std.proofs.lemmas.Str.{IsUtf8-from_is_utf8, is_utf8-from_IsUtf8}
use Rattle.std.proofs.lemmas.Str.Pattern.{ends_text}
use Rattle.std.specs.List.{ends_with}
use Rattle.std.specs.Str.{IsUtf8, is_utf8}
use Rattle.message.specs.Messages.{Text}
use Rattle.envvars.specs.EnvironmentBlock.{utf8_value}
use Rattle.module_subcommands.specs.Sites.{program_place, site_path}

-- a path that doesn't end so
pub no_site : (path place : Text) → ((front : Text) → path ≢ front ++ program_place) → None ≡ site_path (Some path) place
no_site path place h =
    let e : false ≡ ends_with nat_eq path program_place = ends_text false program_place path h in rw (sym e) refl

-- bytes that are a text, and others
pub of_text : (bytes text : Text) → text ≡ bytes → IsUtf8 bytes → Some text ≡ utf8_value bytes
of_text bytes text same u = rw (is_utf8-from_IsUtf8 bytes u, same) refl

pub of_no_text : (bytes : Text) → (IsUtf8 bytes → ⊥) → None ≡ utf8_value bytes
of_no_text bytes h = elim (cases_Bool (is_utf8 bytes)) [
  | inl t ↦ absurd (h (IsUtf8-from_is_utf8 bytes t))
  | inr f ↦ rw f refl
]
