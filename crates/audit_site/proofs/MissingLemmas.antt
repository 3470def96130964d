-- Directories that aren't there.
use Rattle.std.proofs.Common.{◌≡◌, Bool, true, false, ◌++◌, ◌∷◌, List, Option, Some, None, refl, subst, string_bytes, map, inl}
use Rattle.std.specs.Prelude.{is_none, is_some, not}
use Rattle.std.specs.declared.alloc.Global.{Global}
use Rattle.std.specs.declared.string.String.{String}
use Rattle.std.specs.declared.vec.Vec.{Vec}
use Rattle.filetree.specs.Agreement.{listing_answer}
use Rattle.audit_certificate.specs.RecordUses.{IsAmong}
use Rattle.audit_certificate.proofs.UsedLemmas.{among_right}
use Rattle.audit_site.proofs.AmongLemmas.{among_map}

-- no answer is no listing
pub none_listed : (names : Option (Vec (String Global) Global)) (none : Bool) → is_some names ≡ not none → is_none (listing_answer names) ≡ none
none_listed None true h = refl
none_listed None false h = absurd (cc)
none_listed (Some names) true h = absurd (cc)
none_listed (Some names) false h = refl

-- one in the middle of some texts is among them
pub in_the_middle : (all done rest : List (String Global)) (x : String Global) → done ++ x ∷ rest ≡ all
    → IsAmong (string_bytes x) (map string_bytes all)
in_the_middle all done rest x e =
    among_map (λ (s : String Global). string_bytes s) x all
    (subst (λ (l : List (String Global)). IsAmong x l) e (among_right x done (x ∷ rest) (inl refl)))
