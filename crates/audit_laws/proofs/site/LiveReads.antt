-- What a live module reads has the values of the environment at hand while others are live.
use Rattle.std.proofs.Common.{◌≡◌, ◌⊎◌, inl, inr, Bool, true, false, cond, not, ◌&&◌, ◌||◌, List, [], ◌∷◌, Some, refl, ap, sym, ◌∙◌}
use Rattle.std.proofs.Common.{subst}
use Rattle.std.specs.Prelude.{bytes_eq}
use Rattle.std.specs.List.{list_any}
use Rattle.std.proofs.lemmas.Bool.{false≢true}
use Rattle.modulename.specs.ModuleName.{means}
use Rattle.envvars.specs.Texts.{Text}
use Rattle.envvars.specs.Environment.{Environment, lookup}
use Rattle.envvars.proofs.TextLemmas.{bytes_eq-same, bytes_eq-symmetric, or_left, or_right}
use Rattle.modulefile.specs.Laws as files
use Rattle.modulefile.specs.Records.{conflict_names}
use Rattle.modulefile.specs.Moves.{Module}
use Rattle.reversal.specs.VariableUses.{VariableUse, Untouched}
use Rattle.reversal.specs.Starts.{HasVariable}
use Rattle.reversal.specs.Runs.{live_named, without_live}
use Rattle.audit_certificate.specs.RecordUses.{IsAmong, Uses, used_by_modules, first_use, uses_by}
use Rattle.audit_certificate.specs.Candidates.{Candidate, as_module}
use Rattle.audit_certificate.specs.Clashes.{is_other, names_in_conflict, in_conflict, exclude}
use Rattle.audit_certificate.specs.Certificates.{IsCertified}
use Rattle.audit_certificate.specs.Laws.{IsAsCertified, AreLayered, AreCertifiedTogether}
use Rattle.audit_certificate.proofs.UsedLemmas.{by_cases, first_or_none, user_of}
use Rattle.audit_certificate.proofs.AsCertified.{used_alike}
use Rattle.audit_laws.specs.site.Sites.{Site, SiteModule, HasDeterministicRecords, Reads, ReadsEquivalently, file_of, candidate_file}
use Rattle.audit_laws.specs.site.Laws.{AreDeterministic, AreReadEquivalently}
use Rattle.audit_laws.proofs.site.DeterministicRecords.{of_user}
use Rattle.audit_laws.proofs.site.FreeReads.{certified_read_freely}

named_at : (name : Text) (m l : Module) (live : List Module) (b : Bool) → cond b (Some m) (live_named name live) ≡ Some l → (live_named name live ≡ Some l → IsAmong l live) → IsAmong l (m ∷ live)
named_at name m l live true h k = inl (let q : Some m ≡ Some l = h in cc)
named_at name m l live false h k = inr (k h)

pub named_among : (name : Text) (l : Module) (live : List Module) → live_named name live ≡ Some l → IsAmong l live
named_among name l [] h = absurd (cc)
named_among name l (m ∷ live) h = named_at name m l live (bytes_eq name m.name) h (named_among name l live)

left_at : (m l : Module) (live rest : List Module) (b : Bool) → IsAmong l (cond b live (m ∷ rest)) → (IsAmong l rest → IsAmong l live) → IsAmong l (m ∷ live)
left_at m l live rest true a more = inr a
left_at m l live rest false (inl e) more = inl e
left_at m l live rest false (inr a) more = inr (more a)

pub left_among : (name : Text) (l : Module) (live : List Module) → IsAmong l (without_live name live) → IsAmong l live
left_among name l [] a = absurd a
left_among name l (m ∷ live) a = left_at m l live (without_live name live) (bytes_eq name m.name) a (left_among name l live)

pub live_certified : (ms : List Candidate) (live : List Module) (l : Module) → AreCertifiedTogether ms live → IsAmong l live → IsAsCertified ms l
live_certified ms [] l t a = absurd a
live_certified ms (m ∷ live) l t (inl e) = subst (IsAsCertified ms) (sym e) t.0
live_certified ms (m ∷ live) l t (inr a) = live_certified ms live l t.2 a

-- a certified module has its records
pub certain_records : (site : Site) (ms : List Candidate) (c : Candidate) → AreDeterministic site ms → IsCertified ms c → HasDeterministicRecords site (candidate_file c) c.records
certain_records site ms c all k = (all c k.listed).records

pub same_file : (m : Module) (c : Candidate) → c.name ≡ m.name → c.path ≡ m.path → candidate_file c ≡ file_of m
same_file m c name path = λ i. record { name = name i; path = path i }

pub left_alike : (site : Site) (start : Environment) (live : List Module) (name : Text) → AreReadEquivalently site start live → AreReadEquivalently site start (without_live name live)
left_alike site start live name alike l a = alike l (left_among name l live a)

-- no live module but its own excludes it: none has its name, and no conflict of one means it
abbrev pub IsFreeOf : List Module → Candidate → Type 0
IsFreeOf live m = (n : Module) → IsAmong n live
    → (candidate_file m ≡ file_of n) ⊎ ((bytes_eq m.name n.name ≡ false) × (names_in_conflict n (as_module m) ≡ false))

same_module : (m n : Candidate) → m.name ≡ n.name → m.path ≡ n.path → is_other m n ≡ false
same_module m n name path = (λ i. not (bytes_eq (name i) n.name && bytes_eq (path i) n.path)) ∙ rw (bytes_eq-same n.name, bytes_eq-same n.path) refl

conflicts_same : (n : Module) (c m : Candidate) → conflict_names n.records ≡ conflict_names c.records → names_in_conflict n (as_module m) ≡ names_in_conflict (as_module c) (as_module m)
conflicts_same n c m e = λ i. list_any (λ (name : Text). means name m.name) (e i)

-- so it reads nothing that a live one uses
none_uses : files.OneOutcome → (site : Site) (ms : List Candidate) (m : Candidate) (n : Module) (c : IsAsCertified ms n) (v : Text) (x : VariableUse) → AreDeterministic site ms → IsCertified ms m
    → (candidate_file m ≡ file_of n) ⊎ ((bytes_eq m.name n.name ≡ false) × (names_in_conflict n (as_module m) ≡ false)) → Reads site (candidate_file m) v → Uses n.records v x → ⊥
none_uses one site ms m n c v x all k free r u =
    let p = certified_read_freely one site ms m c.certain v x all k c.certified r (used_alike n.records c.certain.records c.alike c.absent (v, x) u) in
    by_cases free
    (λ same. false≢true (sym (same_module m c.certain (ap (λ (f : SiteModule). f.name) same ∙ sym c.name) (ap (λ (f : SiteModule). f.path) same ∙ sym c.path)) ∙ p.0))
    (λ apart. by_cases p.1
    (λ name. false≢true (sym apart.0 ∙ (ap (bytes_eq m.name) (sym (name ∙ c.name)) ∙ bytes_eq-same m.name)))
    (λ means. false≢true (sym apart.1 ∙ (conflicts_same n c.certain m c.conflicts ∙ means))))

-- no live module uses it
not_used : files.OneOutcome → (site : Site) (ms : List Candidate) (live : List Module) (m : Candidate) (v : Text) → AreDeterministic site ms → AreCertifiedTogether ms live → IsCertified ms m
    → IsFreeOf live m → Reads site (candidate_file m) v → uses_by live v ≡ Untouched
not_used one site ms live m v all together k free r = by_cases (first_or_none v (used_by_modules live))
    (λ i. let x = first_use v (used_by_modules live) in
    let u = user_of v x live i in
    absurd (none_uses one site ms m u.user (live_certified ms live u.user together u.there) v x all k (free u.user u.there) r u.uses))
    (λ n. n.untouched)

value_untouched : (start e : Environment) (v : Text) (live : List Module) (u : VariableUse) → u ≡ Untouched → HasVariable u start v live e → lookup e v ≡ lookup start v
value_untouched start e v live u same h = (subst (λ (x : VariableUse). HasVariable x start v live e) same h).value

-- so it has the value of the start while certified modules are live
pub reads_as_start : files.OneOutcome → (site : Site) (ms : List Candidate) (live : List Module) (start old : Environment) (c : Candidate) → AreDeterministic site ms → AreLayered ms start live old
    → IsCertified ms c → IsFreeOf live c → ReadsEquivalently site start (candidate_file c) → ReadsEquivalently site old (candidate_file c)
reads_as_start one site ms live start old c all layered k free alike v r =
    by_cases (of_user one site (candidate_file c) c.records v (certain_records site ms c all k) r)
    (λ editable. value_untouched start old v live (uses_by live v) (not_used one site ms live c v all layered.together k free r) (layered.start_with_live.variables v editable))
    (λ other. layered.start_with_live.others v other)
    ∙ alike v r

or_turned : (a b : Bool) → (a || b) ≡ (b || a)
or_turned true true = refl
or_turned true false = refl
or_turned false true = refl
or_turned false false = refl

exclude_turned : (m n : Module) → exclude m n ≡ exclude n m
exclude_turned m n =
    ap (λ (b : Bool). b || (names_in_conflict m n || names_in_conflict n m)) (bytes_eq-symmetric m.name n.name)
    ∙ ap (λ (b : Bool). bytes_eq n.name m.name || b) (or_turned (names_in_conflict m n) (names_in_conflict n m))

-- of two live modules the one is the other, or doesn't exclude it
pub live_apart : (ms : List Candidate) (live : List Module) (l n : Module) → AreCertifiedTogether ms live → IsAmong l live → IsAmong n live → (l ≡ n) ⊎ (exclude l n ≡ false)
live_apart ms [] l n t a b = absurd a
live_apart ms (m ∷ live) l n t (inl e) (inl f) = inl (e ∙ sym f)
live_apart ms (m ∷ live) l n t (inl e) (inr b) = inr (subst (λ (k : Module). exclude k n ≡ false) (sym e) (t.1 n b))
live_apart ms (m ∷ live) l n t (inr a) (inl f) = inr (subst (λ (k : Module). exclude l k ≡ false) (sym f) (exclude_turned l m ∙ t.1 l a))
live_apart ms (m ∷ live) l n t (inr a) (inr b) = live_apart ms live l n t.2 a b

-- a live one is free of the others
pub live_free : (ms : List Candidate) (live : List Module) (l : Module) (c : Candidate) → c.name ≡ l.name → c.path ≡ l.path → AreCertifiedTogether ms live → IsAmong l live → IsFreeOf live c
live_free ms live l c name path t a n b = by_cases (live_apart ms live l n t a b)
    (λ e. inl (same_file l c name path ∙ ap file_of e))
    (λ x. inr (
      ap (λ (w : Text). bytes_eq w n.name) name ∙ or_left (bytes_eq l.name n.name) (in_conflict l n) x,
      (λ i. list_any (λ (k : Text). means k (name i)) (conflict_names n.records))
          ∙ or_right (names_in_conflict l n) (names_in_conflict n l) (or_right (bytes_eq l.name n.name) (in_conflict l n) x),
    ))
