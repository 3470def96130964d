-- Paths that are read once more, and hidden where the device fails.
use Rattle.std.proofs.Common.{◌≡◌, ◌+◌, ◌<◌, ◌≤◌, ℕ, zero, suc, arith, inl, inr, Bool, true, false, ◌||◌, List, [], ◌∷◌, ◌++◌, map, take, length, get_or, refl, ap, sym, subst, ◌∙◌}
use Rattle.std.proofs.Common.{String, Global, string_bytes, bytes_eq, Option}
use Rattle.std.proofs.lemmas.Bool.{false≢true}
use Rattle.std.proofs.lemmas.List.{append-nil, append_assoc, length-append, length-map, map-append, take_more}
use Rattle.std.proofs.lemmas.List.Elements.{All-append, All-cons, All-nil, All-weaker}
use Rattle.std.proofs.lemmas.List.Folds.{list_any-append}
use Rattle.std.proofs.lemmas.Map.Keys.{IsDistinct-push}
use Rattle.std.proofs.lemmas.Slice.Eq.{bytes_eq-Decides}
use Rattle.std.specs.Cmp.{IsEquivalence}
use Rattle.std.specs.List.{IsDistinct}
use Rattle.std.specs.Prelude.{◌⊎◌}
use Rattle.message.specs.Messages.{Text}
use Rattle.filetree.specs.Agreement.{FailsIf, FailsOnlyWhere, Files, InEachPair, Listings, Narrows, ReadsOn, is_device}
use Rattle.filetree.specs.declared.tree.TreeFault.{TreeFault}
use Rattle.filetree.specs.declared.tree.TreeFault.TheVariants.{Device}
use Rattle.filetree.specs.hiding.Hidden.{AreAllHidden, HasOneFile, HidesMore, IsOneTooMany, is_among}
use Rattle.filetree.proofs.hiding.HidingLemmas.{among_last, failed_now, or_nothing}

-- ---- texts

same_flips : (x y : Text) (a b : Bool) → bytes_eq x y ≡ a → bytes_eq y x ≡ b → a ≡ b
same_flips x y true true e f = refl
same_flips x y false false e f = refl
same_flips x y true false e f = absurd (false≢true (sym f ∙ (bytes_eq-Decides y x).1 (sym ((bytes_eq-Decides x y).0 e))))
same_flips x y false true e f = absurd (false≢true (sym e ∙ (bytes_eq-Decides x y).1 (sym ((bytes_eq-Decides y x).0 f))))

text_equality : IsEquivalence bytes_eq
text_equality = record {
  refl = λ x. (bytes_eq-Decides x x).1 refl;
  symm = λ x y. same_flips x y (bytes_eq x y) (bytes_eq y x) refl refl;
  congr = λ x y z e. ap (λ w. bytes_eq w z) ((bytes_eq-Decides x y).0 e);
}

-- ---- paths

or_either : (a b : Bool) → a ≡ true → (a || b) ≡ true
or_either true b e = refl
or_either false b e = absurd (false≢true e)

or_later : (a b : Bool) → b ≡ true → (a || b) ≡ true
or_later true b e = refl
or_later false b e = e

-- a path among some is among these and others
still_among : (paths more : List Text) (path : Text) → is_among paths path ≡ true → is_among (paths ++ more) path ≡ true
still_among paths more path h = list_any-append (bytes_eq path) paths more ∙ or_either (is_among paths path) (is_among more path) h

-- one path is among itself alone
the_one : (path other : Text) → is_among (path ∷ []) other ≡ true → other ≡ path
the_one path other h = (bytes_eq-Decides other path).0 (sym (or_nothing (bytes_eq other path)) ∙ h)

pub among_item : (paths : List (String Global)) (i : ℕ) (x : String Global) → i < length paths → x ≡ get_or paths i x → is_among (map (λ (s : String Global). string_bytes s) paths) (string_bytes x) ≡ true
among_item [] i x l e = absurd (omega (arith, l))
among_item (p ∷ ps) zero x l e =
    or_either (bytes_eq (string_bytes x) (string_bytes p)) (is_among (map (λ (s : String Global). string_bytes s) ps) (string_bytes x))
    ((bytes_eq-Decides (string_bytes x) (string_bytes p)).1 (ap (λ (s : String Global). string_bytes s) e))
among_item (p ∷ ps) (suc i) x l e =
    or_later (bytes_eq (string_bytes x) (string_bytes p)) (is_among (map (λ (s : String Global). string_bytes s) ps) (string_bytes x)) (among_item ps i x (omega (arith, l)) e)

-- ---- a tree that isn't read

pub reads_nothing : {T : Type 0} (agrees : T → Files → Listings → Type 0) (failures : T → ℕ) (old new : T) → new ≡ old → ReadsOn agrees failures old new
reads_nothing agrees failures old new same = subst (λ t. ReadsOn agrees failures old t) (sym same) (record { narrows = λ files folders a. a; counts_failures = omega arith })

pub reads_both : {T : Type 0} (agrees : T → Files → Listings → Type 0) (failures : T → ℕ) (old mid new : T) → ReadsOn agrees failures old mid → ReadsOn agrees failures mid new → ReadsOn agrees failures old new
reads_both agrees failures old mid new h k = record {
  narrows = λ files folders a. h.narrows files folders (k.narrows files folders a);
  counts_failures = omega (arith, h.counts_failures, k.counts_failures);
}

-- ---- which paths are hidden besides

pub hides_nothing : (paths : List Text) (before now : ℕ) (older hidden : List Text) → before ≤ now → hidden ≡ older → HidesMore paths before now older hidden
hides_nothing paths before now older hidden l same = record {
  more = [];
  order = same ∙ sym (append-nil older);
  some = All-nil (λ path. is_among paths path ≡ true);
  counted = omega (arith, l);
  once = λ d. subst (λ xs. IsDistinct bytes_eq xs) (sym same) d;
  most = inl refl;
}

pub hides_one : (path : Text) (before now : ℕ) (older hidden : List Text) → before < now → hidden ≡ older ++ path ∷ [] → is_among older path ≡ false → length hidden ≤ 1000
    → HidesMore (path ∷ []) before now older hidden
hides_one path before now older hidden l is shown few = record {
  more = path ∷ [];
  order = is;
  some = All-cons (λ p. is_among (path ∷ []) p ≡ true) path [] (among_last [] path) (All-nil (λ p. is_among (path ∷ []) p ≡ true));
  counted = omega (arith, l);
  once = λ d. subst (λ xs. IsDistinct bytes_eq xs) (sym is) (IsDistinct-push text_equality older path d shown);
  most = inr few;
}

no_more : (older mid hidden more later : List Text) → mid ≡ older ++ more → hidden ≡ mid ++ later → (more ≡ []) ⊎ (length mid ≤ 1000) → (later ≡ []) ⊎ (length hidden ≤ 1000)
    → ((more ++ later) ≡ []) ⊎ (length hidden ≤ 1000)
no_more older mid hidden more later e f h (inr few) = inr few
no_more older mid hidden more later e f (inl none) (inl nothing) = inl (ap (λ xs. xs ++ later) none ∙ nothing)
no_more older mid hidden more later e f (inr few) (inl nothing) =
    inr (subst (λ xs. length xs ≤ 1000) (sym (f ∙ (ap (λ xs. mid ++ xs) nothing ∙ append-nil mid))) few)

-- one more of some paths is read once more
pub hides_both : (paths : List Text) (path : Text) (first was is : ℕ) (older mid hidden : List Text) → is_among paths path ≡ true → HidesMore paths first was older mid
    → HidesMore (path ∷ []) was is mid hidden → HidesMore paths first is older hidden
hides_both paths path first was is older mid hidden among h k =
    let counts : length (h.more ++ k.more) ≡ length h.more + length k.more = length-append h.more k.more in
    record {
      more = h.more ++ k.more;
      order = k.order ∙ (ap (λ xs. xs ++ k.more) h.order ∙ append_assoc older h.more k.more);
      some = All-append (λ p. is_among paths p ≡ true) h.more k.more h.some
          (All-weaker (λ p. is_among (path ∷ []) p ≡ true) (λ p. is_among paths p ≡ true) (λ p t. subst (λ q. is_among paths q ≡ true) (sym (the_one path p t)) among) k.more k.some);
      counted = omega (arith, counts, h.counted, k.counted);
      once = λ d. k.once (h.once d);
      most = no_more older mid hidden h.more k.more h.order k.order h.most k.most;
    }

unseen_many : (path : Text) (seen : List (String Global)) (n : ℕ) → seen ≡ [] → (is_among (map (λ (s : String Global). string_bytes s) seen) path ≡ true) ⊎ (1000 ≤ n) → 1000 ≤ n
unseen_many path seen n none (inl h) = absurd (false≢true (ap (λ (l : List (String Global)). is_among (map (λ (s : String Global). string_bytes s) l) path) (sym none) ∙ h))
unseen_many path seen n none (inr l) = l

-- the device failed, and a thousand are hidden
pub one_left : {T : Type 0} (failures : T → ℕ) (failed : T → Text → Bool) (old mid new : T) (path : Text) (older hidden seen : List (String Global)) (fault : TreeFault) → failures old < failures mid
    → FailsIf (is_device fault) (failed old) (failed mid) (λ at. at ≡ path) → fault ≡ Device → new ≡ mid → hidden ≡ older → is_among (map (λ (s : String Global). string_bytes s) older) path ≡ false → seen ≡ []
    → (is_among (map (λ (s : String Global). string_bytes s) seen) path ≡ true) ⊎ (1000 ≤ length older)
    → IsOneTooMany (path ∷ []) (failed new) (failures old) (failures new) (map (λ (s : String Global). string_bytes s) older) (map (λ (s : String Global). string_bytes s) hidden)
one_left failures failed old mid new path older hidden seen fault l f is same kept shown none many =
    let texts : List (String Global) → List Text = map (λ (s : String Global). string_bytes s) in
    subst (λ t. IsOneTooMany (path ∷ []) (failed t) (failures old) (failures t) (texts older) (texts hidden)) (sym same)
    (subst (λ h. IsOneTooMany (path ∷ []) (failed mid) (failures old) (failures mid) (texts older) (texts h)) (sym kept) (record {
      path = path;
      among = among_last [] path;
      failed = failed_now (failed old) (failed mid) fault path f is;
      shown = shown;
      counted = omega (arith, l);
      most = subst (λ n. 1000 ≤ n) (sym (length-map older (λ (s : String Global). string_bytes s))) (unseen_many path seen (length older) none many);
    }))

-- one path too many is one too many of those paths
pub one_of_these : (paths : List Text) (path : Text) (has_failed : Text → Bool) (first was is : ℕ) (older mid hidden : List Text) → is_among paths path ≡ true → HidesMore paths first was older mid
    → IsOneTooMany (path ∷ []) has_failed was is mid hidden → IsOneTooMany paths has_failed first is older hidden
one_of_these paths path has_failed first was is older mid hidden among h k =
    let lengths : length mid ≡ length older + length h.more = ap (λ xs. length xs) h.order ∙ length-append older h.more in
    record {
      path = k.path;
      among = subst (λ p. is_among paths p ≡ true) (sym (the_one path k.path k.among)) among;
      failed = k.failed;
      shown = k.shown;
      counted = omega (arith, lengths, h.counted, k.counted);
      most = k.most;
    }

-- ---- where all are hidden

pub none_to_hide : (agrees : Files → Listings → Type 0) (before : Text → Bool) (hidden : List Text) → AreAllHidden [] agrees before before hidden
none_to_hide agrees before hidden = record {
  left = All-nil (λ path. (is_among hidden path ≡ true) ⊎ HasOneFile agrees path);
  failed = λ path t. inl t;
}

one_hidden : (path : Text) (agrees : Files → Listings → Type 0) (before now : Text → Bool) (hidden : List Text) → (is_among hidden path ≡ true) ⊎ HasOneFile agrees path
    → FailsOnlyWhere before now (λ p. is_among hidden p ≡ true) → AreAllHidden (path ∷ []) agrees before now hidden
one_hidden path agrees before now hidden h f = record {
  left = All-cons (λ p. (is_among hidden p ≡ true) ⊎ HasOneFile agrees p) path [] h (All-nil (λ p. (is_among hidden p ≡ true) ⊎ HasOneFile agrees p));
  failed = f;
}

-- it was hidden before
pub was_hidden : (path : Text) (agrees : Files → Listings → Type 0) (before : Text → Bool) (hidden : List Text) → is_among hidden path ≡ true → AreAllHidden (path ∷ []) agrees before before hidden
was_hidden path agrees before hidden h = one_hidden path agrees before before hidden (inl h) (λ p t. inl t)

-- it can be read
pub is_left : (path : Text) (agrees : Files → Listings → Type 0) (before now : Text → Bool) (hidden : List Text) (file : Option Text) → InEachPair agrees (λ files folders. files path ≡ file)
    → now ≡ before → AreAllHidden (path ∷ []) agrees before now hidden
is_left path agrees before now hidden file h same =
    one_hidden path agrees before now hidden (inr (file, h)) (λ p t. inl (subst (λ (f : Text → Bool). f p ≡ true) same t))

failed_here : (t : Bool) (before now : Text → Bool) (path : Text) (hidden : List Text) → t ≡ true → is_among hidden path ≡ true → FailsIf t before now (λ at. at ≡ path)
    → FailsOnlyWhere before now (λ p. is_among hidden p ≡ true)
failed_here false before now path hidden e h f = absurd (false≢true e)
failed_here true before now path hidden e h f = λ p t. one p (f.1.alone p t)
  where
    one : (p : Text) → (before p ≡ true) ⊎ (p ≡ f.0) → (before p ≡ true) ⊎ (is_among hidden p ≡ true)
    one p (inl b) = inl b
    one p (inr same) = inr (subst (λ q. is_among hidden q ≡ true) (sym (same ∙ f.2)) h)

-- the device failed, and it is hidden
pub now_hidden : (path : Text) (agrees : Files → Listings → Type 0) (before now : Text → Bool) (older hidden : List Text) (fault : TreeFault) → is_device fault ≡ true → hidden ≡ older ++ path ∷ []
    → FailsIf (is_device fault) before now (λ at. at ≡ path) → AreAllHidden (path ∷ []) agrees before now hidden
now_hidden path agrees before now older hidden fault d is f =
    let there : is_among hidden path ≡ true = ap (λ h. is_among h path) is ∙ among_last older path in
    one_hidden path agrees before now hidden (inl there) (failed_here (is_device fault) before now path hidden d there f)

left_later : (before now : Files → Listings → Type 0) (mid more hidden : List Text) (path : Text) → hidden ≡ mid ++ more → Narrows before now → (is_among mid path ≡ true) ⊎ HasOneFile before path
    → (is_among hidden path ≡ true) ⊎ HasOneFile now path
left_later before now mid more hidden path is n (inl h) = inl (ap (λ xs. is_among xs path) is ∙ still_among mid more path h)
left_later before now mid more hidden path is n (inr one) = inr (one.0, λ files folders a. one.1 files folders (n files folders a))

-- one path more
pub all_both : (paths : List Text) (path : Text) (before now : Files → Listings → Type 0) (first was is : Text → Bool) (mid more hidden : List Text) → hidden ≡ mid ++ more → Narrows before now
    → AreAllHidden paths before first was mid → AreAllHidden (path ∷ []) now was is hidden → AreAllHidden (paths ++ path ∷ []) now first is hidden
all_both paths path before now first was is mid more hidden grown n h k = record {
  left = All-append (λ p. (is_among hidden p ≡ true) ⊎ HasOneFile now p) paths (path ∷ [])
      (All-weaker (λ p. (is_among mid p ≡ true) ⊎ HasOneFile before p) (λ p. (is_among hidden p ≡ true) ⊎ HasOneFile now p) (λ p x. left_later before now mid more hidden p grown n x) paths h.left)
      k.left;
  failed = λ p t. later p (k.failed p t);
}
  where
    earlier : (p : Text) → (first p ≡ true) ⊎ (is_among mid p ≡ true) → (first p ≡ true) ⊎ (is_among hidden p ≡ true)
    earlier p (inl b) = inl b
    earlier p (inr m) = inr (ap (λ xs. is_among xs p) grown ∙ still_among mid more p m)

    later : (p : Text) → (was p ≡ true) ⊎ (is_among hidden p ≡ true) → (first p ≡ true) ⊎ (is_among hidden p ≡ true)
    later p (inl b) = earlier p (h.failed p b)
    later p (inr m) = inr m

-- those up to a place, and the one there
pub all_turn : (paths : List (String Global)) (i : ℕ) (x : String Global) (before now : Files → Listings → Type 0) (first was is : Text → Bool) (mid more hidden : List Text) → i < length paths → x ≡ get_or paths i x
    → hidden ≡ mid ++ more → Narrows before now → AreAllHidden (map (λ (s : String Global). string_bytes s) (take i paths)) before first was mid → AreAllHidden (string_bytes x ∷ []) now was is hidden
    → AreAllHidden (map (λ (s : String Global). string_bytes s) (take (i + 1) paths)) now first is hidden
all_turn paths i x before now first was is mid more hidden l e grown n h k =
    subst (λ ps. AreAllHidden ps now first is hidden)
    (sym (ap (map (λ (s : String Global). string_bytes s)) (take_more paths i x l ∙ ap (λ (y : String Global). take i paths ++ y ∷ []) (sym e)) ∙ map-append (λ (s : String Global). string_bytes s) (take i paths) (x ∷ [])))
    (all_both (map (λ (s : String Global). string_bytes s) (take i paths)) (string_bytes x) before now first was is mid more hidden grown n h k)
