-- What is found of a site without what can't be read, and the faults over a tree with hidden paths.
use Rattle.std.proofs.Common.{◌≡◌, ◌<◌, ◌≤◌, ℕ, arith, ◌||◌, ◌&&◌, Bool, true, false, not, cond, string_bytes, String, Global, List, [], ◌∷◌, length, map, Option, Some, None}
use Rattle.std.proofs.Common.{refl, ap, sym, subst, ◌∙◌, inl, inr}
use Rattle.std.proofs.lemmas.Bool.{or_cases, false≢true}
use Rattle.std.proofs.lemmas.List.Elements.{All-cons, All-head, All-nil, All-tail}
use Rattle.std.proofs.lemmas.Slice.Eq.{bytes_eq-Decides}
use Rattle.std.specs.Prelude.{◌⊎◌, bytes_eq, IsSome}
use Rattle.std.specs.List.{All}
use Rattle.std.specs.List.Sorted.{IsStrictlySortedBy}
use Rattle.std.specs.Cmp.Lexicographic.{slice_cmp}
use Rattle.std.specs.Ordering.{nat_cmp}
use Rattle.std.specs.declared.vec.Vec.{Vec}
use Rattle.envvars.specs.Environment.{Environment}
use Rattle.envvars.specs.Reasons as edits
use Rattle.envvars.specs.Texts.{Text, texts_in}
use Rattle.envstate.specs.loaded_list.Loaded.{loaded_in}
use Rattle.filetree.specs.Agreement.{FailsIf, Files, InEachPair, Listings, Narrows, ReadsOn}
use Rattle.filetree.specs.Causes.{Cause, Applies, memory, device, because}
use Rattle.filetree.specs.declared.tree.TreeFault.{TreeFault}
use Rattle.filetree.specs.declared.tree.TreeFault.TheVariants as trees
use Rattle.filetree.specs.hiding.Hidden.{AgreesWithout, AllFailed, AreApart, MayAgreeWithout, is_among, without}
use Rattle.filetree.specs.hiding.Left.{left_without}
use Rattle.filetree.proofs.hiding.HidingLemmas.{left_pairs}
use Rattle.modulefile.specs.Judgments.{bad_edit}
use Rattle.requests.specs.Reasons.{RequestReason, refused_edit}
use Rattle.modules.specs.Answers.{by_reason, cause_of, is_of_device, refused_read}
use Rattle.audit_site.specs.Walks.{HasCause}
use Rattle.audit_site.specs.declared.auditing.SiteAudit.{SiteAudit}
use Rattle.audit_site.specs.declared.fault.WalkFault.{WalkFault}
use Rattle.audit_site.specs.declared.fault.WalkFault.TheVariants as walks
use Rattle.modaudit.specs.declared.command.readable.SeenAudit.{SeenAudit}
use Rattle.modulecmd.specs.Command.{standard}
use Rattle.modaudit.specs.command.Audits.{AreDirectories, AreUnreadable, HasFailedOften, IsDirectory, IsFirstGone, IsNoDirectory, IsSiteFault, is_no_element}
use Rattle.modaudit.specs.command.Audits.{no_directory, unreadable_directory, empty_modulepath, none_there, no_walk, transient_failure}
use Rattle.modaudit.specs.command.Faults.{is_failure, of_walk}
use Rattle.modaudit.specs.command.Looked.{FailsFirst, ReadsUnlessFails}
use Rattle.modaudit.specs.command.Steps.{AreSame, IsFound, IsFoundFault, IsFoundWithout, IsTransient, IsReadable, is_hidden, unless_hidden}
use Rattle.modaudit.specs.declared.command.audit_fault.AuditFault.{AuditFault}
use Rattle.modaudit.specs.declared.command.audit_fault.AuditFault.TheVariants.{Refused, BadArguments, EmptyModulepath}
use Rattle.modaudit.specs.declared.command.audit_fault.AuditFault.TheVariants.{TooManyDirectories, NotADirectory, WriteFailed}
use Rattle.modaudit.proofs.command.AuditLemmas.{cause_in}
use Rattle.modaudit.proofs.command.DirectoryLemmas.{applies_in}
use Rattle.modaudit.proofs.command.FewerLemmas.{fewer}

-- a fault by a reason is none of the device
pub by_no_device : {R : Type 0} (view : R → RequestReason) (o : Option R) → is_of_device (by_reason view o) ≡ false
by_no_device view None = refl
by_no_device view (Some r) = refl

-- the fault of a tree, as that of an audit
pub read_fault : (fault : TreeFault) (failed : Type 0) → (fault ≡ trees.Device → failed) → IsTransient failed (Refused (refused_read fault))
read_fault trees.OutOfMemory failed f = tt
read_fault trees.Device failed f = f refl

-- ---- lists of paths

-- what holds of each of some paths, by the paths that are among them
pub of_among : (P : Text → Type 0) (paths : List Text) (path : Text) → All P paths → is_among paths path ≡ true → P path
of_among P [] path all h = absurd (false≢true h)
of_among P (x ∷ xs) path all h = one (or_cases (bytes_eq path x) (is_among xs path) h) (of_among P xs path (All-tail P x xs all))
  where
    one : (bytes_eq path x ≡ true) ⊎ (is_among xs path ≡ true) → (is_among xs path ≡ true → P path) → P path
    one (inl e) later = subst P (sym ((bytes_eq-Decides path x).0 e)) (All-head P x xs all)
    one (inr t) later = later t

first_among : (x : Text) (xs : List Text) → is_among (x ∷ xs) x ≡ true
first_among x xs = ap (λ b. b || is_among xs x) ((bytes_eq-Decides x x).1 refl)

or_later : (a b : Bool) → b ≡ true → (a || b) ≡ true
or_later true b e = refl
or_later false b e = e

all_by_among : (P : Text → Type 0) (paths : List Text) → ((path : Text) → is_among paths path ≡ true → P path) → All P paths
all_by_among P [] f = All-nil P
all_by_among P (x ∷ xs) f = All-cons P x xs (f x (first_among x xs)) (all_by_among P xs (λ path h. f path (or_later (bytes_eq path x) (is_among xs path) h)))

-- the same of the same paths
all_of_same : (P : Text → Type 0) (paths others : List Text) → AreSame paths others → All P others → All P paths
all_of_same P paths others same all = all_by_among P paths (λ path h. of_among P others path all (sym (same path) ∙ h))

-- those that stand each once are no more
no_more : (paths others : List Text) → IsStrictlySortedBy (slice_cmp nat_cmp) paths → AreSame paths others → length paths ≤ length others
no_more paths others order same = fewer paths others order (λ q h. sym (same q) ∙ h)

-- ---- pairs of maps

-- where no path is left out the pairs are all that agree
whole_pairs : (agrees : Files → Listings → Type 0) → Narrows agrees (AgreesWithout [] agrees)
whole_pairs agrees = λ files listings a. subst (λ (f : Files). agrees f listings) (sym a.files_left) (subst (λ (l : Listings). agrees a.all_files l) (sym a.folders_left) a.agree)

-- the pairs without the same paths are the same
same_pairs : (paths others : List Text) (agrees : Files → Listings → Type 0) → AreSame paths others → Narrows (AgreesWithout others agrees) (AgreesWithout paths agrees)
same_pairs paths others agrees same = λ files listings a. record {
  all_files = a.all_files;
  all_folders = a.all_folders;
  agree = a.agree;
  files_left = a.files_left ∙ (λ i path. cond (same path i) None (a.all_files path));
  folders_left = a.folders_left ∙ (λ i path. cond (same path i) None (a.all_folders path));
}

-- ---- what is found

found_whole : (agrees : Files → Listings → Type 0) (judged : Environment) (dirs excluded : List Text) (found : SiteAudit) → IsFound agrees judged dirs excluded found → IsFoundWithout agrees [] judged dirs excluded found
found_whole agrees judged dirs excluded found f = record {
  directories = f.directories;
  begins = f.begins;
  exact = λ files listings a. f.exact files listings (whole_pairs agrees files listings a);
  holds = λ files listings a. f.holds files listings (whole_pairs agrees files listings a);
}

found_same : (agrees : Files → Listings → Type 0) (paths others : List Text) (judged : Environment) (dirs excluded : List Text) (found : SiteAudit) → AreSame paths others
    → IsFoundWithout agrees others judged dirs excluded found → IsFoundWithout agrees paths judged dirs excluded found
found_same agrees paths others judged dirs excluded found same f = record {
  directories = f.directories;
  begins = f.begins;
  exact = λ files listings a. f.exact files listings (same_pairs paths others agrees same files listings a);
  holds = λ files listings a. f.holds files listings (same_pairs paths others agrees same files listings a);
}

some_left : {X : Type 0} (hidden : Bool) (there : Option X) → IsSome (cond hidden None there) → IsSome there
some_left true there h = absurd (false≢true h)
some_left false there h = h

whole_directory : (hidden seen : List Text) (agrees : Files → Listings → Type 0) (dir : Text) → AreApart hidden seen → IsDirectory (MayAgreeWithout hidden seen agrees) dir → IsDirectory agrees dir
whole_directory hidden seen agrees dir apart d = record {
  is_element = d.is_element;
  listed = λ files listings a.
      some_left (is_among hidden dir) (listings dir) (d.listed (without hidden files) (without hidden listings) (left_without hidden seen agrees apart files listings a));
}

whole_directories : (hidden seen : List Text) (agrees : Files → Listings → Type 0) (dirs : List Text) → AreApart hidden seen → AreDirectories (MayAgreeWithout hidden seen agrees) dirs → AreDirectories agrees dirs
whole_directories hidden seen agrees [] apart h = tt
whole_directories hidden seen agrees (dir ∷ dirs) apart h = (whole_directory hidden seen agrees dir apart h.0, whole_directories hidden seen agrees dirs apart h.1)

pub found_left : (hidden seen : List Text) (agrees : Files → Listings → Type 0) (judged : Environment) (dirs excluded : List Text) (found : SiteAudit) → AreApart hidden seen
    → IsFound (MayAgreeWithout hidden seen agrees) judged dirs excluded found → IsFoundWithout agrees hidden judged dirs excluded found
found_left hidden seen agrees judged dirs excluded found apart f = record {
  directories = whole_directories hidden seen agrees dirs apart f.directories;
  begins = f.begins;
  exact = λ files listings a. f.exact files listings (left_pairs hidden seen agrees apart files listings a);
  holds = λ files listings a. f.holds files listings (left_pairs hidden seen agrees apart files listings a);
}

pub readable_in : (agrees : Files → Listings → Type 0) (has_failed : Text → Bool) (P Q : Type 0) (now : ℕ) (judged : Environment) (dirs excluded : List Text) (audit : SeenAudit) → (P → Q)
    → IsReadable agrees has_failed P now judged dirs excluded audit → IsReadable agrees has_failed Q now judged dirs excluded audit
readable_in agrees has_failed P Q now judged dirs excluded audit f r = record {
  unreadable = record { order = r.unreadable.order; failed = r.unreadable.failed; cause = so r.unreadable.cause };
  counted = r.counted;
  found = r.found;
}
  where
    so : (texts_in audit.unreadable ≡ []) ⊎ P → (texts_in audit.unreadable ≡ []) ⊎ Q
    so (inl e) = inl e
    so (inr p) = inr (f p)

sorted_nothing : IsStrictlySortedBy (slice_cmp nat_cmp) []
unfolding IsStrictlySortedBy
sorted_nothing = tt

-- where nothing fails all is read
no_unreadable : (has_failed : Text → Bool) (fails : Type 0) (paths : List Text) → paths ≡ [] → AreUnreadable has_failed fails paths
no_unreadable has_failed fails paths none = subst (λ (ps : List Text). AreUnreadable has_failed fails ps) (sym none)
    (record { order = sorted_nothing; failed = All-nil (λ (path : Text). has_failed path ≡ true); cause = inl refl })

pub readable_whole : (agrees : Files → Listings → Type 0) (has_failed : Text → Bool) (fails : Type 0) (now : ℕ) (judged : Environment) (dirs excluded : List Text) (found : SiteAudit) (unreadable : Vec (String Global) Global)
    → unreadable.items ≡ [] → IsFound agrees judged dirs excluded found → IsReadable agrees has_failed fails now judged dirs excluded (record { found = found; unreadable = unreadable })
readable_whole agrees has_failed fails now judged dirs excluded found unreadable none f =
    let no_texts : texts_in unreadable ≡ [] = ap (λ (l : List (String Global)). map (λ (s : String Global). string_bytes s) l) none in
    record {
      unreadable = no_unreadable has_failed fails (texts_in unreadable) no_texts;
      counted = subst (λ (ps : List Text). length ps ≤ now) (sym no_texts) (omega arith);
      found = subst (λ (ps : List Text). IsFoundWithout agrees ps judged dirs excluded found) (sym no_texts) (found_whole agrees judged dirs excluded found f);
    }

-- the paths that are hidden, in their order
pub readable_left : (agrees : Files → Listings → Type 0) (has_failed : Text → Bool) (fails : Type 0) (now : ℕ) (judged : Environment) (dirs excluded hidden : List Text) (found : SiteAudit) (unreadable : Vec (String Global) Global)
    → fails → length hidden ≤ now → IsStrictlySortedBy (slice_cmp nat_cmp) (texts_in unreadable) → AreSame (texts_in unreadable) hidden → AllFailed has_failed hidden → IsFoundWithout agrees hidden judged dirs excluded found
    → IsReadable agrees has_failed fails now judged dirs excluded (record { found = found; unreadable = unreadable })
readable_left agrees has_failed fails now judged dirs excluded hidden found unreadable failed counted order same all f = record {
  unreadable = record { order = order; failed = all_of_same (λ (path : Text). has_failed path ≡ true) (texts_in unreadable) hidden same all; cause = inr failed };
  counted = omega (arith, counted, no_more (texts_in unreadable) hidden order same);
  found = found_same agrees (texts_in unreadable) hidden judged dirs excluded found same f;
}

-- these paths are a thousand, and the device has failed at each
pub failed_often : (has_failed : Text → Bool) (now : ℕ) (paths hidden : List Text) → IsStrictlySortedBy (slice_cmp nat_cmp) paths → AreSame paths hidden → AllFailed has_failed hidden → length hidden ≤ now
    → 1000 ≤ length paths → HasFailedOften has_failed now
failed_often has_failed now paths hidden order same all counted many = record {
  times = omega (arith, counted, many, no_more paths hidden order same);
  paths = paths;
  order = order;
  failed = all_of_same (λ (path : Text). has_failed path ≡ true) paths hidden same all;
  many = many;
}

-- ---- faults

-- a cause that is none of the device
other_cause : (c : Cause RequestReason) (P Q : Type 0) (Is : RequestReason → Type 0) → is_of_device c ≡ false → Applies c P Is → Applies c Q Is
other_cause memory P Q Is f h = tt
other_cause device P Q Is f h = absurd (false≢true (sym f))
other_cause (because r) P Q Is f h = h

other_walk : (P Q : Files → Listings → Type 0) (A B : Type 0) (judged : Environment) (walked : WalkFault) → Narrows P Q → is_failure (of_walk walked) ≡ false → HasCause P A standard judged walked
    → HasCause Q B standard judged walked
other_walk P Q A B judged (walks.Refused refusal) n f h = other_cause (cause_of refusal) A B
    (λ (reason : RequestReason). (reason ≡ refused_edit (bad_edit edits.inconsistent)) × (loaded_in judged ≡ None)) f h
other_walk P Q A B judged walks.TooManyDirectories n f h = λ files listings a. h files listings (n files listings a)

-- a failure of the device has that cause
of_device : (c : Cause RequestReason) (P : Type 0) (Is : RequestReason → Type 0) → is_of_device c ≡ true → Applies c P Is → P
of_device memory P Is t h = absurd (false≢true t)
of_device device P Is t h = h
of_device (because r) P Is t h = absurd (false≢true t)

transient_failed : (P : Type 0) (fault : AuditFault) → is_failure fault ≡ true → IsTransient P fault → P
transient_failed P (Refused refusal) t h = of_device (cause_of refusal) P (λ (reason : RequestReason). ⊥) t h
transient_failed P BadArguments t h = absurd h
transient_failed P EmptyModulepath t h = absurd h
transient_failed P TooManyDirectories t h = absurd h
transient_failed P (NotADirectory dir) t h = absurd h
transient_failed P WriteFailed t h = absurd h

walk_failed : (agrees : Files → Listings → Type 0) (P : Type 0) (judged : Environment) (walked : WalkFault) → is_failure (of_walk walked) ≡ true → HasCause agrees P standard judged walked → P
walk_failed agrees P judged (walks.Refused refusal) t h = of_device (cause_of refusal) P
    (λ (reason : RequestReason). (reason ≡ refused_edit (bad_edit edits.inconsistent)) × (loaded_in judged ≡ None)) t h
walk_failed agrees P judged walks.TooManyDirectories t h = absurd (false≢true t)

pub device_failed : (agrees : Files → Listings → Type 0) (P : Type 0) (judged : Environment) (dirs : List Text) (fault : AuditFault) → is_failure fault ≡ true → IsFoundFault agrees P judged dirs fault → P
device_failed agrees P judged dirs fault t (inl (inl d)) = absurd (false≢true (sym (ap is_failure d.1) ∙ t))
device_failed agrees P judged dirs fault t (inl (inr h)) = transient_failed P fault t h
device_failed agrees P judged dirs fault t (inr (inl h)) = absurd (false≢true (sym (ap is_failure h.0) ∙ t))
device_failed agrees P judged dirs fault t (inr (inr w)) = walk_failed agrees P judged w.0 (sym (ap is_failure w.1) ∙ t) w.3

-- memory is wanting, or the device has failed so often
pub site_transient : (agrees : Files → Listings → Type 0) (has_failed : Text → Bool) (often : Type 0) (judged : Environment) (dirs : List Text) (fault : AuditFault) → IsTransient often fault
    → IsSiteFault agrees has_failed often judged dirs fault
site_transient agrees has_failed often judged dirs (Refused refusal) h = transient_failure refusal h
site_transient agrees has_failed often judged dirs BadArguments h = absurd h
site_transient agrees has_failed often judged dirs EmptyModulepath h = absurd h
site_transient agrees has_failed often judged dirs TooManyDirectories h = absurd h
site_transient agrees has_failed often judged dirs (NotADirectory dir) h = absurd h
site_transient agrees has_failed often judged dirs WriteFailed h = absurd h

other_transient : (agrees : Files → Listings → Type 0) (has_failed : Text → Bool) (failed often : Type 0) (judged : Environment) (dirs hidden : List Text) (fault : AuditFault) → is_failure fault ≡ false
    → IsTransient failed fault → IsSiteFault agrees has_failed often judged dirs (unless_hidden hidden fault)
other_transient agrees has_failed failed often judged dirs hidden (Refused refusal) f h = transient_failure refusal (other_cause (cause_of refusal) failed often (λ (reason : RequestReason). ⊥) f h)
other_transient agrees has_failed failed often judged dirs hidden BadArguments f h = absurd h
other_transient agrees has_failed failed often judged dirs hidden EmptyModulepath f h = absurd h
other_transient agrees has_failed failed often judged dirs hidden TooManyDirectories f h = absurd h
other_transient agrees has_failed failed often judged dirs hidden (NotADirectory dir) f h = absurd h
other_transient agrees has_failed failed often judged dirs hidden WriteFailed f h = absurd h

-- with nothing hidden a fault stays
unhidden : (fault : AuditFault) → unless_hidden [] fault ≡ fault
unhidden (Refused refusal) = refl
unhidden BadArguments = refl
unhidden EmptyModulepath = refl
unhidden TooManyDirectories = refl
unhidden (NotADirectory dir) = by_element (is_no_element (string_bytes dir))
  where
    by_element : (b : Bool) → cond (not b && false) (Refused (refused_read trees.Device)) (NotADirectory dir) ≡ NotADirectory dir
    by_element true = refl
    by_element false = refl
unhidden WriteFailed = refl

-- and so does that of a walk, whatever is hidden
walk_unhidden : (hidden : List Text) (walked : WalkFault) → unless_hidden hidden (of_walk walked) ≡ of_walk walked
walk_unhidden hidden (walks.Refused refusal) = refl
walk_unhidden hidden walks.TooManyDirectories = refl

-- a fault over the whole tree that is none of the device
pub whole_fault : (agrees : Files → Listings → Type 0) (has_failed : Text → Bool) (failed often : Type 0) (judged : Environment) (dirs : List Text) (fault : AuditFault) → is_failure fault ≡ false
    → IsFoundFault agrees failed judged dirs fault → IsSiteFault agrees has_failed often judged dirs fault
whole_fault agrees has_failed failed often judged dirs fault f (inl (inl d)) = subst (λ (x : AuditFault). IsSiteFault agrees has_failed often judged dirs x) (sym d.1) (no_directory d.0 d.2)
whole_fault agrees has_failed failed often judged dirs fault f (inl (inr h)) =
    subst (λ (x : AuditFault). IsSiteFault agrees has_failed often judged dirs x) (unhidden fault) (other_transient agrees has_failed failed often judged dirs [] fault f h)
whole_fault agrees has_failed failed often judged dirs fault f (inr (inl h)) = subst (λ (x : AuditFault). IsSiteFault agrees has_failed often judged dirs x) (sym h.0) (empty_modulepath h.1 h.2)
whole_fault agrees has_failed failed often judged dirs fault f (inr (inr w)) = subst (λ (x : AuditFault). IsSiteFault agrees has_failed often judged dirs x) (sym w.1)
    (no_walk [] w.0 w.2 (All-nil (λ (path : Text). has_failed path ≡ true)) (other_walk agrees (AgreesWithout [] agrees) failed often judged w.0 (whole_pairs agrees) (sym (ap is_failure w.1) ∙ f) w.3))

-- a word whose directory isn't seen: it is hidden, or isn't there
hidden_is : (a b : Bool) → (not a && b) ≡ true → (a ≡ false) × (b ≡ true)
hidden_is true b h = absurd (false≢true h)
hidden_is false b h = (refl, h)

shown_is : (a b : Bool) → (not a && b) ≡ false → (a ≡ true) ⊎ (b ≡ false)
shown_is true b h = inl refl
shown_is false b h = inr h

shown_gone : (hidden seen : List Text) (agrees : Files → Listings → Type 0) (dir : Text) → AreApart hidden seen → (is_no_element dir ≡ true) ⊎ (is_among hidden dir ≡ false)
    → IsNoDirectory (MayAgreeWithout hidden seen agrees) dir → IsNoDirectory agrees dir
shown_gone hidden seen agrees dir apart (inl e) h = inl e
shown_gone hidden seen agrees dir apart (inr shown) (inl e) = inl e
shown_gone hidden seen agrees dir apart (inr shown) (inr gone) = inr (λ files listings a.
    sym (ap (λ b. cond b None (listings dir)) shown) ∙ gone (without hidden files) (without hidden listings) (left_without hidden seen agrees apart files listings a))

word_fault : (hidden seen : List Text) (agrees : Files → Listings → Type 0) (has_failed : Text → Bool) (often : Type 0) (judged : Environment) (dirs : List Text) (dir : String Global) (b : Bool)
    → AreApart hidden seen → AllFailed has_failed hidden → is_hidden hidden (string_bytes dir) ≡ b → IsFirstGone (MayAgreeWithout hidden seen agrees) dirs (string_bytes dir)
    → IsSiteFault agrees has_failed often judged dirs (cond b (Refused (refused_read trees.Device)) (NotADirectory dir))
word_fault hidden seen agrees has_failed often judged dirs dir true apart all is f =
    let at = hidden_is (is_no_element (string_bytes dir)) (is_among hidden (string_bytes dir)) is in
    unreadable_directory (record {
      before = f.before;
      dir = string_bytes dir;
      after = f.after;
      order = f.order;
      there = whole_directories hidden seen agrees f.before apart f.there;
      is_element = at.0;
      failed = of_among (λ (path : Text). has_failed path ≡ true) hidden (string_bytes dir) all at.1;
    })
word_fault hidden seen agrees has_failed often judged dirs dir false apart all is f =
    no_directory dir (record {
      before = f.before;
      after = f.after;
      order = f.order;
      there = whole_directories hidden seen agrees f.before apart f.there;
      gone = shown_gone hidden seen agrees (string_bytes dir) apart (shown_is (is_no_element (string_bytes dir)) (is_among hidden (string_bytes dir)) is) f.gone;
    })

-- a fault over a tree with hidden paths that is none of the device, as one over the whole tree
pub left_fault : (hidden seen : List Text) (agrees : Files → Listings → Type 0) (has_failed : Text → Bool) (failed often : Type 0) (judged : Environment) (dirs : List Text) (fault : AuditFault)
    → AreApart hidden seen → AllFailed has_failed hidden → is_failure fault ≡ false → IsFoundFault (MayAgreeWithout hidden seen agrees) failed judged dirs fault
    → IsSiteFault agrees has_failed often judged dirs (unless_hidden hidden fault)
left_fault hidden seen agrees has_failed failed often judged dirs fault apart all f (inl (inl d)) =
    subst (λ (x : AuditFault). IsSiteFault agrees has_failed often judged dirs (unless_hidden hidden x)) (sym d.1)
    (word_fault hidden seen agrees has_failed often judged dirs d.0 (is_hidden hidden (string_bytes d.0)) apart all refl d.2)
left_fault hidden seen agrees has_failed failed often judged dirs fault apart all f (inl (inr h)) = other_transient agrees has_failed failed often judged dirs hidden fault f h
left_fault hidden seen agrees has_failed failed often judged dirs fault apart all f (inr (inl h)) =
    subst (λ (x : AuditFault). IsSiteFault agrees has_failed often judged dirs (unless_hidden hidden x)) (sym h.0)
    (empty_modulepath (whole_directories hidden seen agrees dirs apart h.1) h.2)
left_fault hidden seen agrees has_failed failed often judged dirs fault apart all f (inr (inr w)) =
    subst (λ (x : AuditFault). IsSiteFault agrees has_failed often judged dirs (unless_hidden hidden x)) (sym w.1)
    (subst (λ (x : AuditFault). IsSiteFault agrees has_failed often judged dirs x) (sym (walk_unhidden hidden w.0))
    (no_walk hidden w.0 (whole_directories hidden seen agrees dirs apart w.2) all
    (other_walk (MayAgreeWithout hidden seen agrees) (AgreesWithout hidden agrees) failed often judged w.0 (left_pairs hidden seen agrees apart) (sym (ap is_failure w.1) ∙ f) w.3)))

-- what is said of how often the device failed may say less
pub site_fault_in : {fault : AuditFault} (agrees : Files → Listings → Type 0) (has_failed : Text → Bool) (P Q : Type 0) (judged : Environment) (dirs : List Text) → (P → Q)
    → IsSiteFault agrees has_failed P judged dirs fault → IsSiteFault agrees has_failed Q judged dirs fault
site_fault_in agrees has_failed P Q judged dirs f (no_directory dir h) = no_directory dir h
site_fault_in agrees has_failed P Q judged dirs f (unreadable_directory h) = unreadable_directory h
site_fault_in agrees has_failed P Q judged dirs f (empty_modulepath there h) = empty_modulepath there h
site_fault_in agrees has_failed P Q judged dirs f (none_there excluded audit there exact is) = none_there excluded audit there exact is
site_fault_in agrees has_failed P Q judged dirs f (no_walk paths walked there all h) = no_walk paths walked there all (cause_in (AgreesWithout paths agrees) P Q standard judged walked f h)
site_fault_in agrees has_failed P Q judged dirs f (transient_failure refusal h) = transient_failure refusal (applies_in (cause_of refusal) P Q (λ (reason : RequestReason). ⊥) f h)

-- ---- where the device failed

-- no failure of the device
pub unfailed : (fails : Bool) (before now : Text → Bool) (W : Text → Type 0) → fails ≡ false → FailsIf fails before now W → now ≡ before
unfailed false before now W f h = h
unfailed true before now W f h = absurd (false≢true (sym f))

-- the first failure, after which more may fail
pub fails_first : {T : Type 0} (agrees : T → Files → Listings → Type 0) (failures : T → ℕ) (failed : T → Text → Bool) (old mid new : T) (LooksAt : Files → Listings → Text → Type 0) (fails : Bool)
    → fails ≡ true → ReadsOn agrees failures old mid → failures old < failures mid → failures mid ≤ failures new
    → FailsIf fails (failed old) (failed mid) (λ at. InEachPair (agrees mid) (λ files listings. LooksAt files listings at))
    → FailsFirst agrees failures failed old new LooksAt
fails_first agrees failures failed old mid new LooksAt false t reads first later h = absurd (false≢true t)
fails_first agrees failures failed old mid new LooksAt true t reads first later h = record {
  mid = mid;
  reads = reads;
  counted = (first, later);
  at = h.0;
  failed_at = h.1;
  looks = h.2;
}

-- a tree that isn't read
pub reads_nothing : {T : Type 0} (agrees : T → Files → Listings → Type 0) (failures : T → ℕ) (failed : T → Text → Bool) (t : T) (LooksAt : Files → Listings → Text → Type 0)
    → ReadsUnlessFails agrees failures failed t t LooksAt
reads_nothing agrees failures failed t LooksAt = inl (record { narrows = λ files listings a. a; counts_failures = omega arith }, refl)

-- a part of a whole that looks at more
pub reads_wider : {T : Type 0} (agrees : T → Files → Listings → Type 0) (failures : T → ℕ) (failed : T → Text → Bool) (old new : T) (LooksAt Wider : Files → Listings → Text → Type 0)
    → ((files : Files) (listings : Listings) (at : Text) → LooksAt files listings at → Wider files listings at)
    → ReadsUnlessFails agrees failures failed old new LooksAt → ReadsUnlessFails agrees failures failed old new Wider
reads_wider agrees failures failed old new LooksAt Wider wider (inl h) = inl h
reads_wider agrees failures failed old new LooksAt Wider wider (inr h) = inr (record {
  mid = h.mid;
  reads = h.reads;
  counted = h.counted;
  at = h.at;
  failed_at = h.failed_at;
  looks = λ files listings a. wider files listings h.at (h.looks files listings a);
})
