-- Names of live modules, each once, of which none means another live module, unload just these.
use Rattle.std.proofs.Common.{◌≡◌, inl, inr, Bool, true, false, cond, not, List, [], ◌∷◌, filter, refl, ap, sym, ◌∙◌, subst}
use Rattle.std.specs.Prelude.{bytes_eq}
use Rattle.std.proofs.lemmas.Bool.{false≢true, and_parts}
use Rattle.modulename.specs.ModuleName.{is_module_name, means}
use Rattle.envvars.specs.Texts.{Text, has}
use Rattle.envvars.specs.Fields.{are_distinct}
use Rattle.envvars.proofs.TextLemmas.{bytes_eq-same, bytes_eq-symmetric, same_text}
use Rattle.envstate.specs.loaded_list.Loaded.{Entry}
use Rattle.modulefile.specs.Moves.{Module}
use Rattle.reversal.specs.Runs.{without_live}
use Rattle.audit_certificate.specs.RecordUses.{IsAmong}
use Rattle.audit_certificate.proofs.UsedLemmas.{by_test}
use Rattle.audit_certificate.proofs.Exact.{some_any}
use Rattle.audit_laws.specs.returns.Unloads.{means_one, without_meant, without_all, AreOfLive, AreNamesOf, without_named}
use Rattle.audit_laws.specs.returns.Laws.{NamesOfLive}
use Rattle.audit_laws.proofs.site.LiveReads.{named_among, left_among}
use Rattle.audit_laws.proofs.returns.MeantNames.{is_meant, means_itself}
use Rattle.audit_laws.proofs.returns.LiveEntries.{Distinct, live_distinct, live_spelled}

less_distinct : (name : Text) (live : List Module) → Distinct live → Distinct (without_live name live)
less_distinct name [] d = tt
less_distinct name (m ∷ live) d = by_test (bytes_eq name m.name) _
    (λ t. rw t d.1)
    (λ f. rw f (λ n a. d.0 n (left_among name n live a), less_distinct name live d.1))

-- a live module of another name is left
other_left : (name : Text) (l : Module) (live : List Module) → IsAmong l live → bytes_eq name l.name ≡ false → IsAmong l (without_live name live)
other_left name l [] a f = absurd a
other_left name l (m ∷ live) (inl e) f = let g : bytes_eq name m.name ≡ false = ap (λ (x : Module). bytes_eq name x.name) (sym e) ∙ f in rw g (inl e)
other_left name l (m ∷ live) (inr a) f = by_test (bytes_eq name m.name) _
    (λ t. rw t a)
    (λ g. rw g (inr (other_left name l live a f)))

-- ---- those that are left, by a test

filter_alike : (p q : Module → Bool) (live : List Module) → ((m : Module) → IsAmong m live → p m ≡ q m) → filter p live ≡ filter q live
filter_alike p q [] h = refl
filter_alike p q (m ∷ live) h =
    (λ i. cond (h m (inl refl) i) (m ∷ filter p live) (filter p live))
    ∙ ap (λ (l : List Module). cond (q m) (m ∷ l) l) (filter_alike p q live (λ n a. h n (inr a)))

both_left : (name : Text) (names : List Text) (live : List Module) → Distinct live → without_named names (without_live name live) ≡ without_named (name ∷ names) live
both_left name names [] d = refl
both_left name names (m ∷ live) d = by_test (bytes_eq name m.name) _
    (λ t. let back : bytes_eq m.name name ≡ true = bytes_eq-symmetric m.name name ∙ t in
    let same = same_text name m.name t in
    rw (t, back) (filter_alike (λ n. not (has n.name names)) (λ n. not (has n.name (name ∷ names))) live (λ n a.
    let other : bytes_eq n.name name ≡ false = ap (bytes_eq n.name) same ∙ (bytes_eq-symmetric n.name m.name ∙ d.0 n a) in rw other refl)))
    (λ f. let back : bytes_eq m.name name ≡ false = bytes_eq-symmetric m.name name ∙ f in
    rw (f, back) (ap (λ (l : List Module). cond (not (has m.name names)) (m ∷ l) l) (both_left name names live d.1)))

all_left : (live : List Module) → live ≡ without_named [] live
all_left [] = refl
all_left (m ∷ live) = ap (λ (l : List Module). m ∷ l) (all_left live)

-- ---- one name after another

has_among : (n : Text) (names : List Text) → IsAmong n names → has n names ≡ true
has_among n names a = some_any (bytes_eq n) names n a (bytes_eq-same n)

not_false : (b : Bool) → not b ≡ true → b ≡ false
not_false true h = absurd (false≢true h)
not_false false h = refl

later_names : (name : Text) (names : List Text) (live : List Module) → AreNamesOf (name ∷ names) live → AreNamesOf names (without_live name live)
later_names name names live k =
    let once = and_parts (not (has name names)) (are_distinct names) k.once in
    record {
      each = λ n a. let (m, among, named) = k.each n (inr a) in
          let other : bytes_eq name m.name ≡ false = by_test (bytes_eq name m.name) _
          (λ t. absurd (false≢true (sym (not_false (has name names) once.0) ∙ ap (λ (x : Text). has x names) (same_text name m.name t ∙ named) ∙ has_among n names a)))
          (λ f. f) in
          (m, other_left name m live among other, named);
      once = once.1;
      alone = λ n m a among t. k.alone n m (inr a) (left_among name m live among) t;
    }

of_names : (first : List Entry) (names : List Text) (live : List Module) → Distinct live → ((l : Module) → IsAmong l live → is_module_name l.name ≡ true) → AreNamesOf names live
    → AreOfLive first names live × (without_all names live ≡ without_named names live)
of_names first [] live d spelled k = (tt, all_left live)
of_names first (name ∷ names) live d spelled k =
    let (m, among, named) = k.each name (inl refl) in
    let means_it : means_one name live ≡ true = some_any (λ (x : Module). means name x.name) live m among (ap (means name) named ∙ means_itself name) in
    let meant = is_meant name first live means_it in
    let is_it : meant.found_module.name ≡ name = k.alone name meant.found_module (inl refl) (named_among meant.found_module.name meant.found_module live meant.found) meant.meant in
    let less : without_meant name live ≡ without_live name live = meant.less ∙ ap (λ (n : Text). without_live n live) is_it in
    let rest = of_names first names (without_live name live) (less_distinct name live d) (λ l a. spelled l (left_among name l live a)) (later_names name names live k) in (
      (ap is_module_name (sym named) ∙ spelled m among, inl means_it, subst (AreOfLive first names) (sym less) rest.0),
      ap (without_all names) less ∙ (rest.1 ∙ both_left name names live d),
    )

pub names_of_live : NamesOfLive
names_of_live e first live names order list k =
    of_names first names live (live_distinct e first live order list) (λ l a. live_spelled e first live l order list a) k
