-- What words ask for.
use Rattle.std.proofs.Common.{inl, inr, ◌≡◌, ◌||◌, false, ◌<◌, ◌≤◌, ◌+◌, ◌-◌, ℕ, List, [], ◌∷◌, ◌++◌, get_or, length, map, take, drop, refl, sym, ap, subst, ◌∙◌, arith, Ok, Err, IfOk, IfSome, string_bytes}
use Rattle.std.proofs.lemmas.List.{map-append, take_all, take_more}
use Rattle.std.proofs.lemmas.List.Elements.{All-push}
use Rattle.std.specs.Prelude.{Option, Some, None, Result, String, Vec, All}
use Rattle.std.specs.Borrow.{Bor}
use Rattle.std.specs.declared.alloc.AllocError.{AllocError}
use Rattle.std.specs.declared.alloc.Global.{Global}
use Rattle.tcltext.specs.chars.Runs.{Text}
use Rattle.modulename.specs.ModuleName.{means}
use Rattle.modulefile.specs.Records.{Record}
use Rattle.port_constants.specs.declared.knowledge.KnownFile.{KnownFile}
use Rattle.port_rewriting.specs.Asking.{EachStands, IsAbsolute}
use Rattle.port_rewriting.specs.AskingViews.{AsksNothing, IsAskedBy, IsOfFamily, MeansIn, StandsFor, is_met}
use Rattle.port_rewriting.specs.Families.{is_excluded, ExcludesOthers}
use Rattle.port_rewriting.specs.FamilyViews.{is_in_family}
use Rattle.port_rewriting.specs.Meanings.{in_family}
use Rattle.port_rewriting.specs.RecordViews.{lists_view, shown, texts_in}
use Rattle.port_rewriting.specs.declared.names.Meaning.TheVariants as meanings
use Rattle.port_rewriting.specs.declared.names.Site.{Site}
use Rattle.port_rewriting.specs.declared.rewrite.Rewrite.{Rewrite}
use Rattle.port_rewriting.specs.declared.rewrite.Rewrite.TheVariants as rewrites

-- names, with their lists

each_more : (Stands : Text → List Text → Type 0) (names : List Text) (lists : List (List Text)) (n : Text) (l : List Text)
    → EachStands Stands names lists → Stands n l → EachStands Stands (names ++ n ∷ []) (lists ++ l ∷ [])
each_more Stands [] [] n l h s = (s, tt)
each_more Stands [] (m ∷ lists) n l h s = absurd h
each_more Stands (name ∷ names) [] n l h s = absurd h
each_more Stands (name ∷ names) (m ∷ lists) n l h s = (h.0, each_more Stands names lists n l h.1 s)

-- texts up to the next
pub shown_more : (names : List (Bor Text)) (i : ℕ) (d : Bor Text) → i < length names
    → map shown (take (i + 1) names) ≡ map shown (take i names) ++ (get_or names i d).now ∷ []
shown_more names i d below = ap (map shown) (take_more names i d below) ∙ map-append shown (take i names) (get_or names i d ∷ [])

-- one more name, with its list
pub stands_more : (Stands : Text → List Text → Type 0) (names : List (Bor Text)) (i : ℕ) (d : Bor Text) (old new : List (Vec (String Global) Global))
    (v : Vec (String Global) Global) → i < length names → EachStands Stands (map shown (take i names)) (lists_view old)
    → Stands (get_or names i d).now (texts_in v) → new ≡ old ++ v ∷ [] → EachStands Stands (map shown (take (i + 1) names)) (lists_view new)
stands_more Stands names i d old new v below h s e =
    subst (λ (ts : List Text). EachStands Stands ts (lists_view new)) (sym (shown_more names i d below))
    (subst (λ (ls : List (List Text)). EachStands Stands (map shown (take i names) ++ (get_or names i d).now ∷ []) ls)
    (sym (ap lists_view e ∙ map-append texts_in old (v ∷ [])))
    (each_more Stands (map shown (take i names)) (lists_view old) (get_or names i d).now (texts_in v) h s))

-- one more directory
pub added_more : (words : List (Bor Text)) (i : ℕ) (d : Bor Text) (old new : List (String Global)) (s : String Global) → i < length words
    → map string_bytes old ≡ map shown (take i words) → string_bytes s ≡ (get_or words i d).now → new ≡ old ++ s ∷ []
    → map string_bytes new ≡ map shown (take (i + 1) words)
added_more words i d old new s below h e n =
    ap (map string_bytes) n ∙ (map-append string_bytes old (s ∷ []) ∙ (ap (λ (ts : List Text). ts ++ string_bytes s ∷ []) h
    ∙ (ap (λ (t : Text). map shown (take i words) ++ t ∷ []) e ∙ sym (shown_more words i d below))))

pub absolute_more : (words : List (Bor Text)) (i : ℕ) (d : Bor Text) → i < length words → All IsAbsolute (map shown (take i words))
    → IsAbsolute (get_or words i d).now → All IsAbsolute (map shown (take (i + 1) words))
absolute_more words i d below h s =
    subst (λ (ts : List Text). All IsAbsolute ts) (sym (shown_more words i d below)) (All-push IsAbsolute (map shown (take i words)) (get_or words i d).now h s)

-- the records of a family
pub of_family : (site : Option (Bor Site)) (file : Option KnownFile) (words : List (Bor Text)) (d : Bor Text) (s : Bor Site) (f : KnownFile) (own : Text)
    (others : List (String Global)) (rs : List Record) → site ≡ Some s → file ≡ Some f → 1 ≤ length words → length words < 2
    → rs ≡ in_family (get_or words 0 d).now own (map string_bytes others)
    → ExcludesOthers (is_in_family s.now.members.items (get_or words 0 d).now) (texts_in s.now.modules) f.name.now others
    → IsOfFamily site file (map shown words) rs
of_family site file [] d s f own others rs a b h k e x = absurd (omega arith)
of_family site file (w ∷ []) d s f own others rs a b h k e x =
    subst (λ (o : Option (Bor Site)). IsOfFamily o file (w.now ∷ []) rs) (sym a)
    (subst (λ (o : Option KnownFile). IsOfFamily (Some s) o (w.now ∷ []) rs) (sym b) (own, others, e, x))
of_family site file (w ∷ (v ∷ words)) d s f own others rs a b h k e x = absurd (omega arith)

-- what a name stands for

met : (names : List (String Global)) (own : Text) → is_met (map string_bytes names) own ≡ is_excluded names own
met [] own = refl
met (n ∷ names) own = ap (λ b. means (string_bytes n) own || b) (met names own)

pub modules_stand : (site : Option (Bor Site)) (name : Text) (v : Vec (String Global) Global) → MeansIn site name (meanings.Modules v)
    → StandsFor site name (texts_in v)
modules_stand None name v h = absurd h
modules_stand (Some site) name v h = λ own among is_so. met v.items own ∙ h own among is_so

pub itself_stands : (site : Option (Bor Site)) (name : Text) (v : Vec (String Global) Global) → MeansIn site name meanings.Same
    → texts_in v ≡ name ∷ [] → StandsFor site name (texts_in v)
itself_stands None name v h e = e
itself_stands (Some site) name v h e = λ own among is_so.
    ap (λ (ts : List Text). is_met ts own) e ∙ ap (λ b. b || false) (h own among is_so)

-- the first of some words, and those behind it

-- as the code has a default for what isn't there
abbrev pub nothing : Bor Text
nothing = record { ref_ptr = (0, 0); now = [] }

abbrev pub behind : List (Bor Text) → List (Bor Text)
behind words = take (length words - 1) (drop 1 words)

behind_first : (w : Bor Text) (words : List (Bor Text)) → behind (w ∷ words) ≡ words
behind_first w words = take_all (length (w ∷ words) - 1) words (omega arith)

pub begins : (P : List Text → Type 0) (words : List (Bor Text)) (t : Text) → 1 ≤ length words → (get_or words 0 nothing).now ≡ t
    → P (t ∷ map shown (behind words)) → P (map shown words)
begins P [] t h e p = absurd (omega arith)
begins P (w ∷ words) t h e p =
    subst (λ (ws : List (Bor Text)). P (w.now ∷ map shown ws)) (behind_first w words)
    (subst (λ (u : Text). P (u ∷ map shown (behind (w ∷ words)))) (sym e) p)

-- rewritings

by : (P Q : List Record → Type 0) → ((rs : List Record) → P rs → Q rs) → (r : Rewrite) → IsAskedBy P r → IsAskedBy Q r
by P Q f (rewrites.Commands text searches case) (inl d) = inl d
by P Q f (rewrites.Commands text searches case) (inr x) = inr (x.0, f x.0 x.1, x.2)
by P Q f rewrites.Keep h = h
by P Q f (rewrites.Words texts) h = h
by P Q f (rewrites.WithoutOption case) h = h
by P Q f (rewrites.Left said) h = h

pub asked : (P Q : List Record → Type 0) (r : Result (Option Rewrite) AllocError) → ((rs : List Record) → P rs → Q rs)
    → IfOk r (λ found. IfSome found (IsAskedBy P)) → IfOk r (λ found. IfSome found (IsAskedBy Q))
asked P Q (Ok (Some r)) f h = by P Q f r h
asked P Q (Ok None) f h = h
asked P Q (Err e) f h = h

pub unasked : (P : List Record → Type 0) (r : Rewrite) → AsksNothing r → IsAskedBy P r
unasked P (rewrites.Commands text searches case) e = inl e
unasked P rewrites.Keep h = h
unasked P (rewrites.Words texts) h = h
unasked P (rewrites.WithoutOption case) h = h
unasked P (rewrites.Left said) h = h
