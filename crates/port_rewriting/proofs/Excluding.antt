-- Names that exclude modules.
use Rattle.std.proofs.Common.{◌≡◌, ◌≢◌, ◌||◌, ◌&&◌, ◌==◌, ◌<◌, ◌+◌, ℕ, Bool, true, false, List, [], ◌∷◌, ◌++◌, get_or, length, map, take, refl, sym, ap, subst, ◌∙◌, inl, inr, string_bytes}
use Rattle.std.proofs.Math.Dec.{T, eqb_refl}
use Rattle.std.proofs.lemmas.Bool.{cases_Bool}
use Rattle.std.proofs.lemmas.List.{map-append, take_more}
use Rattle.std.proofs.lemmas.List.Folds.{list_any-append}
use Rattle.std.proofs.lemmas.Slice.Eq.{bytes_eq-Decides}
use Rattle.std.specs.Prelude.{bytes_eq, String}
use Rattle.std.specs.declared.alloc.Global.{Global}
use Rattle.tcltext.specs.chars.Runs.{Text}
use Rattle.modulename.specs.ModuleName.{means}
use Rattle.port_rewriting.specs.Families.{is_among, is_excluded, ExcludesOthers}

or_true : (b : Bool) → (b || true) ≡ true
or_true true = refl
or_true false = refl

pushed : (names : List (String Global)) (n : String Global) (x : Text)
    → is_excluded (names ++ n ∷ []) x ≡ (is_excluded names x || (means (string_bytes n) x || false))
pushed names n x = list_any-append (λ (name : String Global). means (string_bytes name) x) names (n ∷ [])

-- what is excluded stays so behind another name
pub still : (names : List (String Global)) (n : String Global) (x : Text) → is_excluded names x ≡ true → is_excluded (names ++ n ∷ []) x ≡ true
still names n x h = pushed names n x ∙ ap (λ b. b || (means (string_bytes n) x || false)) h

-- the last name excludes what it means
pub by_last : (names : List (String Global)) (n : String Global) (x : Text) → means (string_bytes n) x ≡ true → is_excluded (names ++ n ∷ []) x ≡ true
by_last names n x h = pushed names n x ∙ (ap (λ b. is_excluded names x || (b || false)) h ∙ or_true (is_excluded names x))

from_T : (b : Bool) → T b → b ≡ true
from_T true h = refl
from_T false h = absurd h

-- a name means the module of this name
means_itself : (x : Text) → means x x ≡ true
means_itself [] = refl
means_itself (c ∷ cs) = ap (λ b. b && means cs cs) (from_T (c == c) (eqb_refl c)) ∙ means_itself cs

-- the last name excludes the module of its name
pub by_itself : (names : List (String Global)) (n : String Global) (x : Text) → string_bytes n ≡ x → is_excluded (names ++ n ∷ []) x ≡ true
by_itself names n x e = by_last names n x (ap (λ (t : Text). means t x) e ∙ means_itself x)

pub found_last : (a b : Bool) → a ≡ false → (a || (b || false)) ≡ true → b ≡ true
found_last true b f h = let never : true ≡ false = f in cc
found_last false true f h = refl
found_last false false f h = h

-- one more module
pub one_more : (is_member : Text → Bool) (modules : List Text) (m own : Text) (old new : List (String Global)) → ExcludesOthers is_member modules own old
    → ((x : Text) → is_excluded old x ≡ true → is_excluded new x ≡ true) → (m ≢ own → is_member m ≡ true → is_excluded new m ≡ true)
    → ExcludesOthers is_member (modules ++ m ∷ []) own new
one_more is_member modules m own old new h keep here = λ other among ne member.
    elim (cases_Bool (is_among other modules)) [
      | inl t ↦ keep other (h other t ne member)
      | inr f ↦
          let e : m ≡ other = (bytes_eq-Decides m other).0
          (found_last (is_among other modules) (bytes_eq m other) f
          (sym (list_any-append (λ it. bytes_eq it other) modules (m ∷ [])) ∙ among)) in
          subst (λ (o : Text). is_excluded new o ≡ true) e (here (λ k. ne (sym e ∙ k)) (ap is_member e ∙ member))
    ]

pub next_text : (ms : List (String Global)) (i : ℕ) (m : String Global) → i < length ms → m ≡ get_or ms i m
    → map string_bytes (take (i + 1) ms) ≡ map string_bytes (take i ms) ++ string_bytes m ∷ []
next_text ms i m below is =
    ap (map string_bytes) (take_more ms i m below) ∙ (map-append string_bytes (take i ms) (get_or ms i m ∷ [])
    ∙ ap (λ (s : String Global). map string_bytes (take i ms) ++ string_bytes s ∷ []) (sym is))

-- one more module of the site
pub next_module : (is_member : Text → Bool) (ms : List (String Global)) (i : ℕ) (m : String Global) (own : Text) (old new : List (String Global)) → i < length ms
    → m ≡ get_or ms i m → ExcludesOthers is_member (map string_bytes (take i ms)) own old → ((x : Text) → is_excluded old x ≡ true → is_excluded new x ≡ true)
    → (string_bytes m ≢ own → is_member (string_bytes m) ≡ true → is_excluded new (string_bytes m) ≡ true)
    → ExcludesOthers is_member (map string_bytes (take (i + 1) ms)) own new
next_module is_member ms i m own old new below is h keep here =
    subst (λ (ls : List Text). ExcludesOthers is_member ls own new) (sym (next_text ms i m below is))
    (one_more is_member (map string_bytes (take i ms)) (string_bytes m) own old new h keep here)
