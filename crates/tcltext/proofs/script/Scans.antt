-- The loop that takes a name.
use Rattle.std.proofs.Common.{◌≡◌, ℕ, ◌+◌, ◌-◌, ◌<◌, ◌≤◌, [], ◌∷◌, ◌++◌, length, get_or, take, drop, Bool, true, false}
use Rattle.std.proofs.Common.{◌==◌, Some, None, refl, sym, ap, ◌∙◌, arith, append_assoc, append-nil}
use Rattle.std.proofs.lemmas.List.{drop_more, take_more, length-drop}
use Rattle.std.proofs.Math.Seq.{take-length}
use Rattle.std.proofs.lemmas.Bool.Decides.{nat_tests}
use Rattle.std.proofs.Math.ListN.{drop_of_length-le}
use Rattle.std.specs.Str.{IsUtf8, IsCharBoundary}
use Rattle.std.proofs.lemmas.Str.{IsCharBoundary-start, IsCharBoundary-after_ascii}
use Rattle.tcltext.specs.chars.Bytes.{colon}
use Rattle.tcltext.specs.chars.Classes.{is_name}
use Rattle.tcltext.specs.chars.Runs.{Text, begins}
use Rattle.tcltext.specs.script.ScanState.{ScanState, Name, Colons, step, scan, scan_on, put_before, is_in_name}
use Rattle.tcltext.proofs.script.Passes.{scan-nil, scan-cons}

-- the state of the loop
abbrev pub name_state : Bool → ScanState
name_state true = Colons
name_state false = Name

name_no_colon : (b : ℕ) → is_name b ≡ true → (b == colon) ≡ false
name_no_colon b h = grind (arith, nat_tests)

name_small : (b : ℕ) → is_name b ≡ true → b < 128
name_small b h = grind (arith, nat_tests)

colon_small : (b : ℕ) → (b == colon) ≡ true → b < 128
colon_small b h = grind (arith, nat_tests)

in_name_small : (c : Bool) (b : ℕ) (after : Text) → is_in_name c b after ≡ true → b < 128
in_name_small c b after h = go (is_name b) (b == colon) refl refl where
  go : (t u : Bool) → is_name b ≡ t → (b == colon) ≡ u → b < 128
  go true u k l = name_small b k
  go false true k l = colon_small b l
  go false false k l = let e : false ≡ true = rw (k, l) at h in cc

name_on : (c : Bool) (b : ℕ) (after : Text) → is_in_name c b after ≡ true → step (name_state c) b after ≡ Some (name_state (b == colon))
name_on c b after h = go c (is_name b) (b == colon) (begins colon after) refl refl refl h where
  go : (c t u v : Bool) → is_name b ≡ t → (b == colon) ≡ u → begins colon after ≡ v → is_in_name c b after ≡ true → step (name_state c) b after ≡ Some (name_state (b == colon))
  go true true u v k l m h = rw (k, name_no_colon b k) refl
  go false true u v k l m h = rw (k, name_no_colon b k) refl
  go true false true v k l m h = rw (k, l) refl
  go false false true true k l m h = rw (k, l, m) refl
  go false false true false k l m h = let e : false ≡ true = rw (k, l, m) at h in cc
  go true false false v k l m h = let e : false ≡ true = rw (k, l) at h in cc
  go false false false v k l m h = let e : false ≡ true = rw (k, l) at h in cc

name_stop : (c : Bool) (b : ℕ) (after : Text) → is_in_name c b after ≡ false → step (name_state c) b after ≡ None
name_stop c b after h = go c (is_name b) (b == colon) (begins colon after) refl refl refl h where
  go : (c t u v : Bool) → is_name b ≡ t → (b == colon) ≡ u → begins colon after ≡ v → is_in_name c b after ≡ false → step (name_state c) b after ≡ None
  go c true u v k l m h = let e : true ≡ false = rw k at h in cc
  go true false true v k l m h = let e : true ≡ false = rw (k, l) at h in cc
  go false false true true k l m h = let e : true ≡ false = rw (k, l, m) at h in cc
  go false false true false k l m h = rw (k, l, m) refl
  go true false false v k l m h = rw (k, l) refl
  go false false false v k l m h = rw (k, l) refl

-- what was taken so far
pub record Scanned (bs : Text) (after_colon : Bool) (n : ℕ) : Type 0 where
  pub run : scan Name bs ≡ (take n bs ++ (scan (name_state after_colon) (drop n bs)).0, (scan (name_state after_colon) (drop n bs)).1)
  pub cut : IsCharBoundary bs n

pub scanned-none : (bs : Text) → IsUtf8 bs → Scanned bs false 0
scanned-none bs u = record { run = refl; cut = IsCharBoundary-start bs u }

pub scanned-more : (bs : Text) (after_colon : Bool) (n : ℕ) → IsUtf8 bs → n < length bs
    → is_in_name after_colon (get_or bs n 0) (drop (n + 1) bs) ≡ true → Scanned bs after_colon n
    → Scanned bs (get_or bs n 0 == colon) (n + 1)
scanned-more bs c n u h is s =
    let x = get_or bs n 0 in
    let more = drop (n + 1) bs in
    let next = name_state (x == colon) in
    let here : drop n bs ≡ x ∷ more = drop_more bs n 0 h in
    let on : scan (name_state c) (drop n bs) ≡ put_before x (scan next more) =
    ap (scan (name_state c)) here ∙ scan-cons (name_state c) x more ∙ ap (scan_on x more (λ next. scan next more)) (name_on c x more is)
    in
    record {
      run =
          s.run ∙ ap (λ (p : Text × Text). (take n bs ++ p.0, p.1)) on
          ∙ ap (λ (xs : Text). (xs, (scan next more).1)) (sym (append_assoc (take n bs) (x ∷ []) (scan next more).0) ∙ ap (λ (ys : Text). ys ++ (scan next more).0) (sym (take_more bs n 0 h)));
      cut = IsCharBoundary-after_ascii bs n u h (in_name_small c x more is);
    }

-- where the next byte is none of the name
pub scanned-stop : (bs : Text) (after_colon : Bool) (n : ℕ) → n < length bs
    → is_in_name after_colon (get_or bs n 0) (drop (n + 1) bs) ≡ false → Scanned bs after_colon n
    → scan Name bs ≡ (take n bs, drop n bs)
scanned-stop bs c n h is s =
    let x = get_or bs n 0 in
    let more = drop (n + 1) bs in
    let here : drop n bs ≡ x ∷ more = drop_more bs n 0 h in
    let on : scan (name_state c) (drop n bs) ≡ ([], drop n bs) =
    ap (scan (name_state c)) here ∙ scan-cons (name_state c) x more ∙ ap (scan_on x more (λ next. scan next more)) (name_stop c x more is) ∙ ap (λ (ys : Text). ([], ys)) (sym here)
    in
    s.run ∙ ap (λ (p : Text × Text). (take n bs ++ p.0, p.1)) on ∙ ap (λ (xs : Text). (xs, drop n bs)) (append-nil (take n bs))

pub scanned-all : (bs : Text) (after_colon : Bool) (n : ℕ) → length bs ≤ n → Scanned bs after_colon n → scan Name bs ≡ (take n bs, drop n bs)
scanned-all bs c n h s =
    let none : drop n bs ≡ [] = drop_of_length-le bs h in
    let on : scan (name_state c) (drop n bs) ≡ ([], drop n bs) = ap (scan (name_state c)) none ∙ scan-nil (name_state c) ∙ ap (λ (ys : Text). ([], ys)) (sym none) in
    s.run ∙ ap (λ (p : Text × Text). (take n bs ++ p.0, p.1)) on ∙ ap (λ (xs : Text). (xs, drop n bs)) (append-nil (take n bs))

pub all_after : (bs : Text) (n : ℕ) → drop n bs ≡ take (length bs - n) (drop n bs)
all_after bs n = sym (ap (λ k. take k (drop n bs)) (sym (length-drop n bs)) ∙ take-length (drop n bs))
