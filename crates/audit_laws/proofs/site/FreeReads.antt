-- What certified modules read no certified one uses but such as are mutually exclusive with them.
use Rattle.std.proofs.Common.{◌≡◌, ◌⊎◌, inl, inr, Bool, true, false, not, ◌&&◌, ◌||◌, List, [], ◌∷◌, map, refl, ap, sym, ◌∙◌}
use Rattle.std.proofs.Common.{subst, Some, None}
use Rattle.std.specs.Prelude.{bytes_eq}
use Rattle.std.proofs.lemmas.Bool.{false≢true, and_parts, or_cases}
use Rattle.envvars.specs.Texts.{Text, has}
use Rattle.envvars.specs.Fields.{without, without_repeats}
use Rattle.envvars.proofs.TextLemmas.{same_text}
use Rattle.modulefile.specs.Records.{Record, Set, Unset, Push, Path, Conflict, Prereq, Whatis}
use Rattle.modulefile.specs.declared.records.PathEdit.TheVariants.{Front, Back, Remove}
use Rattle.modulefile.specs.Laws as files
use Rattle.reversal.specs.VariableUses.{VariableUse, Untouched, UsedVariable, use_by}
use Rattle.audit_laws.specs.determinism.Contexts.{reads_in}
use Rattle.audit_certificate.specs.RecordUses.{used_by, IsAmong, Uses, is_read}
use Rattle.audit_certificate.specs.Candidates.{Candidate, as_module, read_of, HasUse}
use Rattle.audit_certificate.specs.Clashes.{is_other, names_in_conflict, excludes_by, are_mutually_exclusive, are_compatible, uses_clash}
use Rattle.audit_certificate.proofs.UsedLemmas.{by_test, by_cases, cons_either, among_left, among_right}
use Rattle.audit_certificate.proofs.Exact.{any_some}
use Rattle.audit_certificate.proofs.CertifiedOnes.{certified_apart}
use Rattle.audit_certificate.proofs.Staying.{go_equal}
use Rattle.audit_laws.specs.site.Sites.{Site, SiteModule, candidate_file, IsDeterministicModule, Reads, HasDeterministicRecords}
use Rattle.audit_laws.specs.site.Laws.{CertifiedReadFreely}
use Rattle.audit_laws.proofs.site.Evaluations.{one_list, read_by_runs}

-- ---- texts, each once

other_left : (x y : Text) (xs : List Text) → bytes_eq x y ≡ false → has x (without y xs) ≡ has x xs
other_left x y [] f = refl
other_left x y (z ∷ xs) f = by_test (bytes_eq z y) _
    (λ t. let no : bytes_eq x z ≡ false = ap (bytes_eq x) (same_text z y t) ∙ f in rw (t, no) (other_left x y xs f))
    (λ g. rw g (ap (λ (b : Bool). bytes_eq x z || b) (other_left x y xs f)))

pub has_once : (x : Text) (xs : List Text) → has x (without_repeats xs) ≡ has x xs
has_once x [] = refl
has_once x (y ∷ xs) = by_test (bytes_eq x y) _
    (λ t. rw t refl)
    (λ f. rw f (other_left x y (without_repeats xs) f ∙ has_once x xs))

-- ---- reads as uses

read_among : (v : Text) (reads : List Text) → IsAmong v reads → IsAmong (read_of v) (map read_of reads)
read_among v [] a = absurd a
read_among v (w ∷ reads) (inl e) = inl (ap read_of e)
read_among v (w ∷ reads) (inr a) = inr (read_among v reads a)

has_read : (m : Candidate) (v : Text) → has v m.reads ≡ true → HasUse m v Untouched
has_read m v h =
    let w = any_some (bytes_eq v) m.reads h in
    among_right (read_of v) (used_by m.records) (map read_of m.reads)
    (read_among v m.reads (subst (λ (t : Text). IsAmong t m.reads) (sym (same_text v w.0 w.2)) w.1))

-- a deterministic module has a use of each variable that it reads
pub read_use : files.OneOutcome → (site : Site) (m : Candidate) (v : Text) → IsDeterministicModule site m → Reads site (candidate_file m) v → HasUse m v Untouched
read_use one site m v s r =
    has_read m v (ap (has v) s.reads ∙ (has_once v (reads_in s.records.runs) ∙ read_by_runs one site (candidate_file m) s.records.runs v s.records.evaluated r))

-- ---- a record reads nothing

same_pair : (p q : UsedVariable) → Some p ≡ Some q → p ≡ q
same_pair p q e = cc

no_read : (r : Record) (p : UsedVariable) → use_by r ≡ Some p → is_read p.1 ≡ false
no_read (Set v x) p e = ap (λ (q : UsedVariable). is_read q.1) (sym (same_pair _ p e))
no_read (Unset v None) p e = ap (λ (q : UsedVariable). is_read q.1) (sym (same_pair _ p e))
no_read (Unset v (Some x)) p e = ap (λ (q : UsedVariable). is_read q.1) (sym (same_pair _ p e))
no_read (Push v x) p e = ap (λ (q : UsedVariable). is_read q.1) (sym (same_pair _ p e))
no_read (Path Front d v xs) p e = ap (λ (q : UsedVariable). is_read q.1) (sym (same_pair _ p e))
no_read (Path Back d v xs) p e = ap (λ (q : UsedVariable). is_read q.1) (sym (same_pair _ p e))
no_read (Path Remove d v xs) p e = absurd (cc)
no_read (Conflict names) p e = absurd (cc)
no_read (Prereq names) p e = absurd (cc)
no_read (Whatis text) p e = absurd (cc)

no_reads : (rs : List Record) (v : Text) (x : VariableUse) → Uses rs v x → is_read x ≡ false
no_reads [] v x u = absurd u
no_reads (r ∷ rs) v x u = by_cases (cons_either (v, x) (use_by r) (used_by rs) u)
    (λ e. no_read r (v, x) e)
    (λ k. no_reads rs v x k)

-- ---- so a read and a use clash

apart : (x : VariableUse) → is_read x ≡ false → are_compatible Untouched x ≡ false
apart x h = by_test (are_compatible Untouched x) _
    (λ t. absurd (false≢true (sym h ∙ ap is_read (sym (go_equal Untouched x t)))))
    (λ f. f)

clash_unless : (apart : Bool) (x : VariableUse) → is_read x ≡ false → apart ≡ false → uses_clash apart Untouched x ≡ true
clash_unless true x h e = absurd (false≢true (sym e))
clash_unless false x h e = rw (apart x h) refl

parts_same : (b : Bool) → not b ≡ false → b ≡ true
parts_same true h = refl
parts_same false h = absurd (false≢true (sym h))

-- one module has its records once
same_records : files.OneOutcome → (site : Site) (m n : Candidate) → IsDeterministicModule site m → IsDeterministicModule site n → is_other m n ≡ false → n.records ≡ m.records
same_records one site m n s t o =
    let p = and_parts (bytes_eq m.name n.name) (bytes_eq m.path n.path) (parts_same (bytes_eq m.name n.name && bytes_eq m.path n.path) o) in
    let name = same_text m.name n.name p.0 in
    let path = same_text m.path n.path p.1 in
    let file : candidate_file n ≡ candidate_file m = λ i. record { name = sym name i; path = sym path i } in
    one_list one site (candidate_file m) n.records m.records (subst (λ (f : SiteModule). HasDeterministicRecords site f n.records) file t.records) s.records

kept_apart : (r c : Bool) → (not r && c) ≡ true → c ≡ true
kept_apart true c h = absurd (false≢true h)
kept_apart false c h = h

-- a reader and a user that are mutually exclusive
parted : (m n : Candidate) (x : VariableUse) → are_mutually_exclusive m n Untouched x ≡ true → (m.name ≡ n.name) ⊎ (names_in_conflict (as_module n) (as_module m) ≡ true)
parted m n x h = by_cases (or_cases (bytes_eq m.name n.name) (excludes_by x n m) h)
    (λ t. inl (same_text m.name n.name t))
    (λ t. inr (kept_apart (is_read x) (names_in_conflict (as_module n) (as_module m)) t))

pub certified_read_freely : files.OneOutcome → CertifiedReadFreely
certified_read_freely one site ms m n v x all k l r u =
    let s = all m k.listed in
    let read = read_use one site m v s r in
    let no = no_reads n.records v x u in
    by_test (is_other m n) _
    (λ o. (
      o,
      parted m n x (by_test (are_mutually_exclusive m n Untouched x) _ (λ t. t) (λ f. absurd (certified_apart ms m n v Untouched x k l o (record {
        first = read;
        second = among_left (v, x) (used_by n.records) (map read_of n.reads) u;
        clash = clash_unless (are_mutually_exclusive m n Untouched x) x no f;
      })))),
    ))
    (λ o.
    let own : HasUse m v x = among_left (v, x) (used_by m.records) (map read_of m.reads)
    (subst (λ (rs : List Record). Uses rs v x) (same_records one site m n s (all n l.listed) o) u) in
    let same : Untouched ≡ x = k.consistent.consistent.one_use v Untouched x read own in
    absurd (false≢true (sym no ∙ ap is_read (sym same))))
