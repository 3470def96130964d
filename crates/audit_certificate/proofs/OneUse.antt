-- Certified modules that are loaded together use each variable in one way.
use Rattle.std.proofs.Common.{◌≡◌, Bool, true, false, not, ◌&&◌, ◌||◌, List, [], ◌∷◌, refl, sym, ap, ◌∙◌, subst, Option}
use Rattle.std.proofs.Common.{Some, None, inl, inr}
use Rattle.std.specs.Prelude.{bytes_eq, is_some}
use Rattle.std.specs.Option.{option_or}
use Rattle.std.proofs.lemmas.Bool.{false≢true}
use Rattle.envvars.specs.Texts.{Text}
use Rattle.envvars.proofs.TextLemmas.{or_left, or_right}
use Rattle.modulefile.specs.Moves.{Module}
use Rattle.reversal.specs.VariableUses.{VariableUse, Fixed}
use Rattle.reversal.specs.Live.{last_set, live_set}
use Rattle.reversal.specs.Runs.{IsReversibleAndApart, AreReversibleTogether}
use Rattle.reversal.proofs.Parts.{all_suit}
use Rattle.audit_certificate.specs.RecordUses.{used_by, used_by_modules, IsAmong, Uses, is_read, uses_by}
use Rattle.audit_certificate.specs.Candidates.{Candidate, as_module}
use Rattle.audit_certificate.specs.Clashes.{names_in_conflict, in_conflict, exclude, excludes_by, are_mutually_exclusive, are_compatible, agree_at_start}
use Rattle.audit_certificate.specs.Laws.{IsAsCertified, AreCertifiedTogether}
use Rattle.audit_certificate.proofs.AsCertified.{certain_use, one_use_of, exclude_alike, other_alike}
use Rattle.audit_certificate.proofs.UsedLemmas.{by_test, by_cases, neither, among_left, among_right, among_either, user_of, Unused}
use Rattle.audit_certificate.proofs.UsedLemmas.{first_or_none}
use Rattle.audit_certificate.proofs.Staying.{go_equal}
use Rattle.audit_certificate.proofs.CertifiedOnes.{certified_apart}
use Rattle.audit_certificate.proofs.RecordLemmas.{all_follow, AreOfKind, sets_used}

clash_at : (apart g a : Bool) → apart ≡ false → g ≡ false → (not (apart || g) || not a) ≡ true
clash_at apart g a e h = rw (e, h) refl

-- what doesn't exclude doesn't make mutually exclusive
none_counts : (r b : Bool) → b ≡ false → (not r && b) ≡ false
none_counts true b h = refl
none_counts false b h = h

not_apart : (x y : VariableUse) (m n : Candidate) → exclude (as_module m) (as_module n) ≡ false → are_mutually_exclusive m n x y ≡ false
not_apart x y m n h =
    let there = names_in_conflict (as_module m) (as_module n) in
    let back = names_in_conflict (as_module n) (as_module m) in
    let both = or_right (bytes_eq m.name n.name) (there || back) h in
    neither (bytes_eq m.name n.name) (excludes_by x m n || excludes_by y n m) (or_left (bytes_eq m.name n.name) (there || back) h)
    (neither (excludes_by x m n) (excludes_by y n m) (none_counts (is_read x) there (or_left there back both)) (none_counts (is_read y) back (or_right there back both)))

-- Of certified modules that don't exclude each other, two uses of one variable are compatible.

together : (ms : List Candidate) (m n : Module) (v : Text) (x y : VariableUse) → IsAsCertified ms m → IsAsCertified ms n
    → exclude m n ≡ false → Uses m.records v x → Uses n.records v y → are_compatible x y ≡ true
together ms m n v x y c d e f g = by_test (are_compatible x y) _ (λ t. t) (λ t. absurd (certified_apart ms c.certain d.certain v x y c.certified d.certified
    (sym (other_alike ms m n c d) ∙ other)
    (record {
      first = certain_use ms m c v x f;
      second = certain_use ms n d v y g;
      clash = clash_at (are_mutually_exclusive c.certain d.certain x y) (are_compatible x y) (agree_at_start x y) (not_apart x y c.certain d.certain (sym (exclude_alike ms m n c d) ∙ e)) t;
    })))
  where
    name : bytes_eq m.name n.name ≡ false
    name = or_left (bytes_eq m.name n.name) (in_conflict m n) e

    other : not (bytes_eq m.name n.name && bytes_eq m.path n.path) ≡ true
    other = ap (λ (b : Bool). not (b && bytes_eq m.path n.path)) name

-- each variable is used in one way
abbrev pub HaveOneUse : List Module → Type 0
HaveOneUse ms = (v : Text) (x y : VariableUse) → IsAmong (v, x) (used_by_modules ms) → IsAmong (v, y) (used_by_modules ms) → x ≡ y

pub certified_of : (ms : List Candidate) (live : List Module) → AreCertifiedTogether ms live → (m : Module) → IsAmong m live → IsAsCertified ms m
certified_of ms [] t m a = absurd a
certified_of ms (n ∷ live) t m (inl e) = subst (IsAsCertified ms) (sym e) t.0
certified_of ms (n ∷ live) t m (inr a) = certified_of ms live t.2 m a

pub of_kind : (ms : List Candidate) (live : List Module) → AreCertifiedTogether ms live → AreOfKind live
of_kind ms live t m a = (certified_of ms live t m a).returns

-- the newest of the modules beside an older one
beside : (ms : List Candidate) (live : List Module) (m : Module) (v : Text) (x y : VariableUse) → AreCertifiedTogether ms (m ∷ live) → Uses m.records v x → IsAmong (v, y) (used_by_modules live) → are_compatible x y ≡ true
beside ms live m v x y t u a =
    let p = user_of v y live a in
    together ms m p.user v x y t.0 (certified_of ms live t.2 p.user p.there) (t.1 p.user p.there) u p.uses

pub one_use : (ms : List Candidate) (live : List Module) → AreCertifiedTogether ms live → HaveOneUse live
one_use ms [] t v x y h k = absurd h
one_use ms (m ∷ live) t v x y h k =
    by_cases (among_either (v, x) (used_by m.records) (used_by_modules live) h)
    (λ a. by_cases (among_either (v, y) (used_by m.records) (used_by_modules live) k)
    (λ b. one_use_of ms m t.0 v x y a b)
    (λ b. go_equal x y (beside ms live m v x y t a b)))
    (λ a. by_cases (among_either (v, y) (used_by m.records) (used_by_modules live) k)
    (λ b. sym (go_equal y x (beside ms live m v y x t b a)))
    (λ b. one_use ms live t.2 v x y a b))

-- So the first use of a variable is that of each record that names it.

pub each_use : (live : List Module) → HaveOneUse live → (v : Text) (x : VariableUse) → IsAmong (v, x) (used_by_modules live) → uses_by live v ≡ x
each_use live one v x a = by_cases (first_or_none v (used_by_modules live))
    (λ f. one v (uses_by live v) x f a)
    (λ (f : Unused v (used_by_modules live)). absurd (f.none x a))

-- Modules that are loaded together are reversible and apart, by these uses.

no_fixed : (x : VariableUse) (k : Option Text) → are_compatible (Fixed k) x ≡ true → ⊥
no_fixed x k h = false≢true h

not_some : (o : Option (Option Text)) → is_some o ≡ false → o ≡ None
not_some None h = refl
not_some (Some x) h = absurd (false≢true (sym h))

-- none of the older modules sets what the newest one does
older_sets : (live : List Module) → AreOfKind live → (v : Text) → ((k : Option Text) → IsAmong (v, Fixed k) (used_by_modules live) → ⊥) → live_set v live ≡ None
older_sets [] k v h = refl
older_sets (n ∷ live) k v h =
    by_test (is_some (last_set v n.records)) _
    (λ t. let p = sets_used v n.records (k n (inl refl)) t in absurd (h p.0 (among_left (v, Fixed p.0) (used_by n.records) (used_by_modules live) p.1)))
    (λ t. ap (λ (o : Option (Option Text)). option_or o (live_set v live)) (not_some (last_set v n.records) t)
    ∙ older_sets live (λ m a. k m (inr a)) v (λ j a. h j (among_right (v, Fixed j) (used_by n.records) (used_by_modules live) a)))

-- the uses are those of each of the modules
abbrev pub AreUses : (Text → VariableUse) → List Module → Type 0
AreUses u live = (v : Text) (x : VariableUse) → IsAmong (v, x) (used_by_modules live) → u v ≡ x

pub newest_fits : (ms : List Candidate) (live : List Module) (m : Module) (u : Text → VariableUse) → AreCertifiedTogether ms (m ∷ live) → AreUses u (m ∷ live) → IsReversibleAndApart u live m
newest_fits ms live m u t h = record {
  suits = all_suit u m.records t.0.returns (all_follow u m.records (λ v x a. h v x (among_left (v, x) (used_by m.records) (used_by_modules live) a)));
  sets_apart = λ v s.
      let p = sets_used v m.records t.0.returns s in
      older_sets live (of_kind ms live t.2) v (λ k a. no_fixed (Fixed k) p.0 (beside ms live m v (Fixed p.0) (Fixed k) t p.1 a));
}

pub all_fit : (ms : List Candidate) (live : List Module) (u : Text → VariableUse) → AreCertifiedTogether ms live → AreUses u live → AreReversibleTogether u live
all_fit ms [] u t h = tt
all_fit ms (m ∷ live) u t h =
    (newest_fits ms live m u t h, all_fit ms live u t.2 (λ v x a. h v x (among_right (v, x) (used_by m.records) (used_by_modules live) a)))
