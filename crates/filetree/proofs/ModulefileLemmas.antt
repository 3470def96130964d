-- What the bytes of a file hold as a modulefile.
use Rattle.std.proofs.Common.{◌≡◌, ℕ, true, List, Some, nat_eq, refl}
use Rattle.std.specs.List.{starts_with}
use Rattle.std.specs.Str.{IsUtf8}
use Rattle.filetree.specs.Modulefiles.{cookie, modulefile, script, not_utf8}
use Rattle.filetree.proofs.Utf8Tests.{is_text-yes, is_text-no}

pub modulefile-script : (bs : List ℕ) → starts_with nat_eq bs cookie ≡ true → IsUtf8 bs → modulefile (Some bs) ≡ script bs
modulefile-script bs begins text = rw (begins, is_text-yes bs text) refl

pub modulefile-not_utf8 : (bs : List ℕ) → starts_with nat_eq bs cookie ≡ true → (IsUtf8 bs → ⊥) → modulefile (Some bs) ≡ not_utf8
modulefile-not_utf8 bs begins no_text = rw (begins, is_text-no bs no_text) refl
