-- What the search for a name says of it.
use Rattle.std.proofs.Common.{◌≡◌, ℕ, ◌+◌, ◌<◌, ◌≤◌, true, false, List, [], ◌∷◌, ◌++◌, length, map, take, drop, get_or, string_bytes, String, Option, Some, None, Ok, Err, refl, sym, ap, subst, ◌∙◌, arith}
use Rattle.std.proofs.lemmas.List.{take-append-drop, take_all, take_more, drop_more, map-append, take-map, drop-map, length-map, get_or-map}
use Rattle.std.proofs.lemmas.List.Elements.{All-push}
use Rattle.std.specs.declared.alloc.Global.{Global}
use Rattle.std.specs.Prelude.{All, insert}
use Rattle.std.specs.Option.{option_map}
use Rattle.envvars.specs.Texts.{Text}
use Rattle.envvars.specs.Environment.{Environment}
use Rattle.filetree.specs.Causes.{Applies, Cause, memory, device, because}
use Rattle.lookup.specs.DefaultFileResults.{HasResult}
use Rattle.search.specs.Answers.{cause_of, is_failure}
use Rattle.search.specs.Found.{Found, FoundModule}
use Rattle.search.specs.Reasons.{FindReason}
use Rattle.search.specs.declared.find_fault.FindFault.{FindFault}
use Rattle.search.specs.declared.find_fault.FindFault.TheVariants as finds
use Rattle.requests.specs.Looked.{SearchLooksAt}
use Rattle.requests.specs.Reasons.{RequestReason, missed}
use Rattle.requests.specs.Steps.{RequestContext, modulepath}
use Rattle.modules.specs.Answers.{by_search}
use Rattle.module_auto.specs.Loads.{AnyLooksAt, FoundAmong, IsFirstFound, IsFound, IsMissed}
use Rattle.module_auto.specs.Views.{is_reason}

module _ (s : RequestContext) (e : Environment) (name path : Text) (same : path ≡ modulepath e) where
  pub is_found : (m : FoundModule) → Found (HasResult s.limits) s.files s.listings path name (Ok m) → IsFound s e name
  is_found m h = let P : Text → Type 0 = λ p. Found (HasResult s.limits) s.files s.listings p name (Ok m) in (m, (Ok m, subst P same h, refl))

  pub is_missed : (reason : FindReason) → Found (HasResult s.limits) s.files s.listings path name (Err reason) → IsMissed s e name
  is_missed reason h = let P : Text → Type 0 = λ p. Found (HasResult s.limits) s.files s.listings p name (Err reason) in (missed reason, (Err reason, subst P same h, refl))

-- a reason that applies
pub reason_of : {R : Type 0} (c : Cause R) (failed : Type 0) (P : R → Type 0) → is_reason c ≡ true → Applies c failed P → (r : R) × P r
reason_of memory failed P is h = absurd (cc)
reason_of device failed P is h = absurd (cc)
reason_of (because r) failed P is h = (r, h)

-- another cause that does
pub without_reason : {R : Type 0} (c : Cause R) (failed : Type 0) (P Q : R → Type 0) → is_reason c ≡ false → Applies c failed P → Applies c failed Q
without_reason memory failed P Q is h = tt
without_reason device failed P Q is h = h
without_reason (because r) failed P Q is h = absurd (cc)

-- a reason is no failure of the device
pub not_failed : (fault : FindFault) → is_reason (cause_of fault) ≡ true → is_failure fault ≡ false
not_failed finds.OutOfMemory is = refl
not_failed finds.Device is = absurd (cc)
not_failed (finds.NotFound name) is = refl
not_failed (finds.BadName name) is = refl
not_failed (finds.BadDefaultFile path) is = refl
not_failed (finds.NotUtf8 path) is = refl

-- ---- the alternatives in turn

module _ (xs : List (String Global)) (i : ℕ) (x : String Global) (below : i < length xs) (is : x ≡ get_or xs i x) where
  abbrev texts : List (String Global) → List Text
  texts ys = map (λ (y : String Global). string_bytes y) ys

  -- so many of them and one more
  texts_more : texts (take (i + 1) xs) ≡ texts (take i xs) ++ string_bytes x ∷ []
  texts_more =
      ap texts (take_more xs i x below) ∙ (map-append (λ (y : String Global). string_bytes y) (take i xs) (get_or xs i x ∷ [])
      ∙ ap (λ (y : String Global). texts (take i xs) ++ string_bytes y ∷ []) (sym is))

  -- all, parted at this one
  texts_parted : texts xs ≡ texts (take i xs) ++ string_bytes x ∷ texts (drop (i + 1) xs)
  texts_parted =
      ap texts (sym (take-append-drop i xs) ∙ ap (λ (l : List (String Global)). take i xs ++ l) (drop_more xs i x below))
      ∙ (map-append (λ (y : String Global). string_bytes y) (take i xs) (get_or xs i x ∷ drop (i + 1) xs)
      ∙ ap (λ (y : String Global). texts (take i xs) ++ string_bytes y ∷ texts (drop (i + 1) xs)) (sym is))

  pub missed_more : (P : Text → Type 0) → P (string_bytes x) → All P (texts (take i xs)) → All P (texts (take (i + 1) xs))
  missed_more P h all = subst (All P) (sym texts_more) (All-push P (texts (take i xs)) (string_bytes x) all h)

  pub first_found : (s : RequestContext) (e : Environment) → IsFound s e (string_bytes x) → All (IsMissed s e) (texts (take i xs)) → IsFirstFound s e (texts xs) (string_bytes x)
  first_found s e found before = record { before = texts (take i xs); after = texts (drop (i + 1) xs); parted = texts_parted; missed = before; found = found }

  pub one_looks : (s : RequestContext) (e : Environment) (at : Text) → SearchLooksAt s e (string_bytes x) at → AnyLooksAt s e (texts xs) at
  one_looks s e at looks =
      let long : length (texts xs) ≡ length xs = length-map xs (λ (y : String Global). string_bytes y) in
      let here : get_or (texts xs) i (string_bytes x) ≡ string_bytes x =
      get_or-map (λ (y : String Global). string_bytes y) xs i x (string_bytes x) below ∙ ap (λ (y : String Global). string_bytes y) (sym is) in
      (string_bytes x, (i, omega (arith, long, below), here), looks)

-- at the end it was all of them
pub all_missed : (P : Text → Type 0) (xs : List (String Global)) (i : ℕ) → length xs ≤ i → All P (map (λ (y : String Global). string_bytes y) (take i xs))
    → All P (map (λ (y : String Global). string_bytes y) xs)
all_missed P xs i end all = subst (λ (l : List (String Global)). All P (map (λ (y : String Global). string_bytes y) l)) (take_all i xs end) all

-- what a search that has no reason is refused by refuses the request
pub no_reason : (c : Cause FindReason) (failed : Type 0) (Q : RequestReason → Type 0) → Applies c failed (λ r. ⊥) → Applies (by_search c) failed Q
no_reason memory failed Q h = tt
no_reason device failed Q h = h
no_reason (because r) failed Q h = absurd h

-- none was found
pub none_found : (s : RequestContext) (e : Environment) (alternatives : List Text) (o : Option (String Global)) → ((x : String Global) → o ≡ Some x → ⊥)
    → FoundAmong s e alternatives (option_map string_bytes o) → All (IsMissed s e) alternatives
none_found s e alternatives None not h = h
none_found s e alternatives (Some x) not h = absurd (not x refl)

-- ---- texts of names

pub texts_push : (xs : List (String Global)) (x : String Global) → map (λ (y : String Global). string_bytes y) (xs ++ x ∷ []) ≡ map (λ (y : String Global). string_bytes y) xs ++ string_bytes x ∷ []
texts_push xs x = map-append (λ (y : String Global). string_bytes y) xs (x ∷ [])

pub texts_insert : (xs : List (String Global)) (i : ℕ) (x : String Global) → map (λ (y : String Global). string_bytes y) (insert xs i x) ≡ insert (map (λ (y : String Global). string_bytes y) xs) i (string_bytes x)
texts_insert xs i x =
    let front : List Text = map (λ (y : String Global). string_bytes y) (take i xs) in
    let back : List Text = map (λ (y : String Global). string_bytes y) (drop i xs) in
    map-append (λ (y : String Global). string_bytes y) (take i xs) (x ∷ drop i xs)
    ∙ (ap (λ (l : List Text). l ++ string_bytes x ∷ back) (sym (take-map (λ (y : String Global). string_bytes y) i xs))
    ∙ ap (λ (l : List Text). take i (map (λ (y : String Global). string_bytes y) xs) ++ string_bytes x ∷ l) (sym (drop-map (λ (y : String Global). string_bytes y) i xs)))
