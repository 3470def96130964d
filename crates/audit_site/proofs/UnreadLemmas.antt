-- Default files in the directories of a site, one after another.
use Rattle.std.proofs.Common.{◌≡◌, ℕ, ◌+◌, ◌<◌, Bool, ◌++◌, ◌∷◌, [], List, length, map, take, get_or, flat_map, ap, sym, ◌∙◌, append-nil, string_bytes}
use Rattle.std.proofs.lemmas.List.{map-append}
use Rattle.std.specs.declared.alloc.Global.{Global}
use Rattle.std.specs.declared.string.String.{String}
use Rattle.envvars.specs.Texts.{Text}
use Rattle.filetree.specs.Agreement.{Listings}
use Rattle.audit_site.specs.Unread.{has_default_file, default_file_in, unread_among}
use Rattle.audit_site.proofs.AmongLemmas.{taken}
use Rattle.audit_site.proofs.AmongSites.{flat_map_parts}

-- those of one directory more
pub unread_turn : (listings : Listings) (dirs : List (String Global)) (i : ℕ) (dir : String Global) (there : Bool) (old new : List Text) → i < length dirs → dir ≡ get_or dirs i dir
    → has_default_file (listings (string_bytes dir)) ≡ there → old ≡ unread_among listings (map string_bytes (take i dirs)) → new ≡ old ++ default_file_in there (string_bytes dir)
    → new ≡ unread_among listings (map string_bytes (take (i + 1) dirs))
unread_turn listings dirs i dir there old new l e answer before now =
    let one : Text → List Text = λ d. default_file_in (has_default_file (listings d)) d in
    let bytes : String Global → Text = λ s. string_bytes s in
    now ∙ (ap (λ (b : Bool). old ++ default_file_in b (bytes dir)) (sym answer)
    ∙ (ap (λ (ts : List Text). ts ++ one (bytes dir)) before
    ∙ (ap (λ (ts : List Text). unread_among listings (map bytes (take i dirs)) ++ ts) (sym (append-nil (one (bytes dir))))
    ∙ (sym (flat_map_parts one (map bytes (take i dirs)) (bytes dir ∷ []))
    ∙ ap (flat_map one) (sym (map-append bytes (take i dirs) (dir ∷ [])) ∙ ap (map bytes) (sym (taken dirs i dir l e)))))))
