-- Names that meet what another name means.
use Rattle.std.proofs.Common.{◌≡◌, ◌<◌, ◌+◌, ℕ, Bool, true, List, [], ◌∷◌, ◌++◌, get_or, length, map, take, sym, ap, subst, ◌∙◌, inl, inr, string_bytes}
use Rattle.std.proofs.lemmas.Bool.{cases_Bool}
use Rattle.std.proofs.lemmas.List.Folds.{list_any-append}
use Rattle.std.proofs.lemmas.Slice.Eq.{bytes_eq-Decides}
use Rattle.std.specs.Prelude.{bytes_eq, String}
use Rattle.std.specs.declared.alloc.Global.{Global}
use Rattle.tcltext.specs.chars.Runs.{Text}
use Rattle.port_rewriting.proofs.Excluding.{found_last, next_text}
use Rattle.port_rewriting.specs.AskingViews.{Covers}
use Rattle.port_rewriting.specs.Families.{is_among}

-- one more module
one_more : (meant : Text → Bool) (modules : List Text) (m : Text) (old new : Text → Bool) → Covers meant modules old
    → ((x : Text) → old x ≡ true → new x ≡ true) → (meant m ≡ true → new m ≡ true) → Covers meant (modules ++ m ∷ []) new
one_more meant modules m old new h keep here = λ other among is_so.
    elim (cases_Bool (is_among other modules)) [
      | inl t ↦ keep other (h other t is_so)
      | inr f ↦
          let e : m ≡ other = (bytes_eq-Decides m other).0
          (found_last (is_among other modules) (bytes_eq m other) f
          (sym (list_any-append (λ it. bytes_eq it other) modules (m ∷ [])) ∙ among)) in
          subst (λ (o : Text). new o ≡ true) e (here (ap meant e ∙ is_so))
    ]

-- one more module of the site
pub next_module : (meant : Text → Bool) (ms : List (String Global)) (i : ℕ) (m : String Global) (old new : Text → Bool) → i < length ms → m ≡ get_or ms i m
    → Covers meant (map string_bytes (take i ms)) old → ((x : Text) → old x ≡ true → new x ≡ true)
    → (meant (string_bytes m) ≡ true → new (string_bytes m) ≡ true) → Covers meant (map string_bytes (take (i + 1) ms)) new
next_module meant ms i m old new below is h keep here =
    subst (λ (ls : List Text). Covers meant ls new) (sym (next_text ms i m below is))
    (one_more meant (map string_bytes (take i ms)) (string_bytes m) old new h keep here)
