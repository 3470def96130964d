-- The directories that are searched, and what is said of a name that isn't found.
use Rattle.std.proofs.Common.{◌≡◌, ℕ, ◌+◌, ◌<◌, ◌≤◌, ◌==◌, Bool, true, false, List, [], ◌∷◌, length, take, get_or, Bor, String, Option, Some, None, inl, inr, refl, sym, subst, ◌∙◌, arith}
use Rattle.std.proofs.lemmas.Bool.Decides.{nat_tests}
use Rattle.std.proofs.lemmas.List.{get_or-map, length-map, take_all}
use Rattle.std.proofs.lemmas.List.Elements.{All-map, All-more}
use Rattle.std.specs.Prelude.{All, is_some}
use Rattle.std.specs.declared.alloc.Global.{Global}
use Rattle.std.specs.declared.vec.Vec.{Vec}
use Rattle.envvars.specs.Environment.{Environment}
use Rattle.envvars.specs.Texts.{Text, slice_texts}
use Rattle.filetree.specs.Agreement.{Files, Listings, InEachPair, Narrows, listing_answer}
use Rattle.filetree.specs.Modulefiles.{directories}
use Rattle.shelltext.specs.declared.shell.Shell.{Shell}
use Rattle.tclrules.specs.declared.limits.Limits.{Limits}
use Rattle.module_explain.specs.Advised.{ForMisspelled, ForPathOr, ForUnknown, IsKnown, IsOneThere, NoneIsThere, none_is_there, nothing_searched, question}
use Rattle.module_explain.specs.Alike.{AreLike, others, respelled}
use Rattle.module_explain.specs.Paths.{path_line}
use Rattle.module_explain.specs.declared.advice.Advice.{Advice}

-- what a listing answers
listed : (answer : Option (Vec (String Global) Global)) (b : Bool) → b ≡ is_some answer → b ≡ true → is_some (listing_answer answer) ≡ true
listed (Some names) b is so = refl
listed None b is so = absurd (cc)

unlisted : (answer : Option (Vec (String Global) Global)) (b : Bool) → b ≡ is_some answer → b ≡ false → listing_answer answer ≡ None
unlisted (Some names) b is not = absurd (cc)
unlisted None b is not = refl

module _ (agrees : Files → Listings → Type 0) (dirs : List (Bor Text)) (i : ℕ) (dir : Bor Text) (answer : Option (Vec (String Global) Global)) (b : Bool)
    (below : i < length dirs) (is : b ≡ is_some answer) (h : InEachPair agrees (λ files listings. listings (get_or dirs i dir).now ≡ listing_answer answer)) where
  pub one_there : b ≡ true → IsOneThere agrees (slice_texts dirs)
  one_there so =
      let long : length (slice_texts dirs) ≡ length dirs = length-map dirs (λ (x : Bor Text). x.now) in
      let here : get_or (slice_texts dirs) i (get_or dirs i dir).now ≡ (get_or dirs i dir).now =
      get_or-map (λ (x : Bor Text). x.now) dirs i dir (get_or dirs i dir).now below in
      ((get_or dirs i dir).now, (i, omega (arith, long, below), here), λ files listings a. rw (h files listings a) (listed answer b is so))

  pub none_more : (before : Files → Listings → Type 0) → Narrows before agrees → b ≡ false
      → InEachPair before (λ files listings. All (λ (d : Bor Text). listings d.now ≡ None) (take i dirs))
      → InEachPair agrees (λ files listings. All (λ (d : Bor Text). listings d.now ≡ None) (take (i + 1) dirs))
  none_more before narrows not all = λ files listings a.
      All-more (λ (d : Bor Text). listings d.now ≡ None) dirs i dir below (all files listings (narrows files listings a))
      (h files listings a ∙ unlisted answer b is not)

-- at the end none was
pub none_there : (agrees : Files → Listings → Type 0) (dirs : List (Bor Text)) (i : ℕ) → length dirs ≤ i
    → InEachPair agrees (λ files listings. All (λ (d : Bor Text). listings d.now ≡ None) (take i dirs)) → NoneIsThere agrees (slice_texts dirs)
none_there agrees dirs i above all = λ files listings a.
    All-map (λ (d : Text). listings d ≡ None) (λ (x : Bor Text). x.now) dirs
    (subst (λ (l : List (Bor Text)). All (λ (d : Bor Text). listings d.now ≡ None) l) (take_all i dirs above) (all files listings a))

-- ---- what is said

module _ (before now : Files → Listings → Type 0) (limits : Limits) (shell : Shell) (e : Environment) (path typed : Text) (searched : List Text) (same : searched ≡ directories path) (narrows : Narrows before now) where
  pub nothing_is_searched : (o : Option Advice) → (length path == 0) ≡ true → IsKnown (Some nothing_searched) o → ForUnknown now limits shell e path typed o
  nothing_is_searched = go path
    where
      go : (path : Text) (o : Option Advice) → (length path == 0) ≡ true → IsKnown (Some nothing_searched) o → ForUnknown now limits shell e path typed o
      go [] o empty h = h
      go (b ∷ bs) o empty h = absurd (grind (arith, nat_tests))

  pub none_is_said : (o : Option Advice) → (length path == 0) ≡ false → NoneIsThere before searched → IsKnown (Some (none_is_there path)) o → ForUnknown now limits shell e path typed o
  none_is_said o = go path o (subst (λ (l : List Text). NoneIsThere before searched → NoneIsThere before l) same (λ h. h))
    where
      go : (path : Text) (o : Option Advice) → (NoneIsThere before searched → NoneIsThere before (directories path)) → (length path == 0) ≡ false → NoneIsThere before searched
          → IsKnown (Some (none_is_there path)) o → ForUnknown now limits shell e path typed o
      go [] o to full none h = absurd (cc)
      go (b ∷ bs) o to full none h = inl ((λ files listings a. to none files listings (narrows files listings a)), h)

  pub likes_are_said : (o : Option Advice) (names : List Text) → (length path == 0) ≡ false → IsOneThere before searched
      → InEachPair now (λ files listings. AreLike listings (directories path) typed names) → IsKnown (question (others typed names)) o → ForUnknown now limits shell e path typed o
  likes_are_said o names = go path o (subst (λ (l : List Text). IsOneThere before searched → IsOneThere before l) same (λ h. h))
    where
      later : (l : List Text) → IsOneThere before l → IsOneThere now l
      later l (directory, there, h) = (directory, there, λ files listings a. h files listings (narrows files listings a))

      go : (path : Text) (o : Option Advice) → (IsOneThere before searched → IsOneThere before (directories path)) → (length path == 0) ≡ false → IsOneThere before searched
          → InEachPair now (λ files listings. AreLike listings (directories path) typed names) → IsKnown (question (others typed names)) o → ForUnknown now limits shell e path typed o
      go [] o to full one like h = absurd (cc)
      go (b ∷ bs) o to full one like h = inr (later (directories (b ∷ bs)) (to one), (names, like, h))

-- ---- an ill-spelled name

module _ (agrees : Files → Listings → Type 0) (limits : Limits) (shell : Shell) (e : Environment) (path name : Text) (is : Bool) (o : Option Advice) where
  pub path_is_said : is ≡ true → IsKnown (Some (path_line (directories path) name)) o → ForPathOr agrees limits shell e is path name o
  path_is_said so h = subst (λ (b : Bool). ForPathOr agrees limits shell e b path name o) (sym so) h

  pub respelled_is_said : is ≡ false → ForMisspelled agrees limits shell e path (respelled name) o → ForPathOr agrees limits shell e is path name o
  respelled_is_said not h = subst (λ (b : Bool). ForPathOr agrees limits shell e b path name o) (sym not) h
