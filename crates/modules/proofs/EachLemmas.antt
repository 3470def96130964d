-- Names in turn, and whole commands, by what their parts answered.
use Rattle.std.proofs.Common.{◌≡◌, ◌<◌, ◌+◌, ℕ, suc, Bool, true, false, nat_eq, List, [], ◌∷◌, length}
use Rattle.std.proofs.Common.{get_or, map, drop, string_bytes, String, Result, Ok, Err}
use Rattle.std.proofs.Common.{inl, inr, refl, sym, ap, ◌∙◌, subst, arith}
use Rattle.std.specs.declared.alloc.Global.{Global}
use Rattle.std.proofs.lemmas.Bool.Decides.{nat_tests}
use Rattle.std.proofs.lemmas.List.{drop_more}
use Rattle.envvars.specs.Texts.{Text}
use Rattle.envvars.specs.Environment.{Environment}
use Rattle.filetree.specs.Relations.{After}
use Rattle.modulefile.specs.Effects.{Mode}
use Rattle.modulefile.specs.Records.{Record}
use Rattle.search.specs.Found.{FoundModule}
use Rattle.requests.specs.Reasons.{RequestReason, bad_arguments}
use Rattle.requests.specs.Looked.{EachLooksAt}
use Rattle.requests.specs.Steps.{RequestContext, Done, nothing_done, Each, NeedsNames, ShowsName, ShowsNames}

-- the item of a turn, before those after it
pub split_at : {X Y : Type 0} (view : X → Y) (xs : List X) (i : ℕ) (x : X) → i < length xs → x ≡ get_or xs i x
    → map view (drop i xs) ≡ view x ∷ map view (drop (i + 1) xs)
split_at view xs i x below is = ap (map view) (drop_more xs i x below) ∙ ap (λ z. view z ∷ map view (drop (i + 1) xs)) (sym is)

module _ {X : Type 0} (view : X → Text) (Does : Text → Done → Result Done RequestReason → Type 0) (xs : List X) (i : ℕ) (x : X) (below : i < length xs) (is : x ≡ get_or xs i x) (d : Done) where
  pub each_refused : (r : RequestReason) → Does (view x) d (Err r) → Each Does (map view (drop i xs)) d (Err r)
  each_refused r h = subst (λ names. Each Does names d (Err r)) (sym (split_at view xs i x below is)) (Err r, h, refl)

  pub each_on : (mid : Done) → Does (view x) d (Ok mid) → (o : Result Done RequestReason) → Each Does (map view (drop (i + 1) xs)) mid o → Each Does (map view (drop i xs)) d o
  each_on mid h o k = subst (λ names. Each Does names d o) (sym (split_at view xs i x below is)) (Ok mid, h, k)

  -- and where they look
  module _ (Looks : Text → Done → Text → Type 0) (at : Text) where
    pub each_looks_here : Looks (view x) d at → EachLooksAt Does Looks (map view (drop i xs)) d at
    each_looks_here h = subst (λ names. EachLooksAt Does Looks names d at) (sym (split_at view xs i x below is)) (inl h)

    pub each_looks_on : (mid : Done) → Does (view x) d (Ok mid) → EachLooksAt Does Looks (map view (drop (i + 1) xs)) mid at → EachLooksAt Does Looks (map view (drop i xs)) d at
    each_looks_on mid h k = subst (λ names. EachLooksAt Does Looks names d at) (sym (split_at view xs i x below is)) (inr (mid, h, k))

some_name : (k : ℕ) → nat_eq (suc k) 0 ≡ true → ⊥
some_name k h = grind (arith, nat_tests)

-- a request without names
pub named_none : (names : List (String Global)) (b : Bool) → b ≡ nat_eq (length names) 0 → b ≡ true → (Comes : Result Done RequestReason → Type 0)
    → NeedsNames (map (λ (s : String Global). string_bytes s) names) Comes (Err bad_arguments)
named_none [] b e is Comes = refl
named_none (n ∷ ns) b e is Comes = absurd (some_name (length ns) (sym e ∙ is))

-- a request with names
pub named_some : (names : List (String Global)) (b : Bool) → b ≡ nat_eq (length names) 0 → b ≡ false → (Comes : Result Done RequestReason → Type 0) (o : Result Done RequestReason) → Comes o
    → NeedsNames (map (λ (s : String Global). string_bytes s) names) Comes o
named_some [] b e isnt Comes o h = let z : true ≡ false = sym e ∙ isnt in absurd (cc)
named_some (n ∷ ns) b e isnt Comes o h = h

-- reports on names, of which the first reads the loaded modules
pub shows_some : (s : RequestContext) (mode : Mode) (text_of : FoundModule → List Record → Text) (e : Environment)
    (names : List (String Global)) (b : Bool) → b ≡ nat_eq (length names) 0 → b ≡ false
    → (o : Result Done RequestReason)
    → Each (ShowsName s mode text_of) (map (λ (t : String Global). string_bytes t) names) (nothing_done e) o
    → NeedsNames (map (λ (t : String Global). string_bytes t) names) (ShowsNames s mode text_of e (map (λ (t : String Global). string_bytes t) names)) o
shows_some s mode text_of e [] b is isnt o h = let z : true ≡ false = sym is ∙ isnt in absurd (cc)
shows_some s mode text_of e (n ∷ ns) b is isnt o (first, (Err r, read, stops), rest) =
    (Err r, read, subst (λ (x : Result Done RequestReason). After (Each (ShowsName s mode text_of) (map (λ (t : String Global). string_bytes t) ns)) x o) stops rest)
shows_some s mode text_of e (n ∷ ns) b is isnt o (first, (Ok xs, read, goes), rest) = (Ok xs, read, (first, (Ok xs, read, goes), rest))
