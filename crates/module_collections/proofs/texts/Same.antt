-- Lists of texts that are compared one by one, and what is saved.
use Rattle.std.proofs.Common.{◌≡◌, ◌≢◌, Bool, true, false, ◌&&◌, List, [], ◌∷◌, refl, sym, ap, subst, ◌∙◌, map, String, Global, string_bytes, Result, Ok, Err, Option, Some, None, IfOk, IfSome}
use Rattle.std.specs.Prelude.{bytes_eq}
use Rattle.std.specs.Str.Lossy.{utf8_lossy}
use Rattle.envvars.specs.Texts.{Text}
use Rattle.envvars.proofs.TextLemmas.{same_text, bytes_eq-same}
use Rattle.envvars.proofs.EditLemmas.{both_true, and_both}
use Rattle.module_collections.specs.texts.Lines.{Kept}
use Rattle.module_collections.specs.texts.Collections.{CollectionReason, read}
use Rattle.module_collections.specs.texts.Spelling.{written}
use Rattle.module_collections.specs.texts.Views.{kept_view, reason_of}
use Rattle.module_collections.specs.texts.Saved.{saved, IsSaved, IsSaveFault, of_fault, are_same, keep_same}
use Rattle.module_collections.specs.declared.texts.collection.Collection.{Collection}
use Rattle.module_collections.specs.declared.texts.fault.CollectionFault.{CollectionFault}
use Rattle.module_collections.specs.declared.texts.fault.CollectionFault.TheVariants.{OutOfMemory, BadLine, SaysNothing, TooLong, NoText}

texts_from_same : (xs ys : List (String Global)) → are_same xs ys ≡ true → map string_bytes xs ≡ map string_bytes ys
texts_from_same [] [] h = refl
texts_from_same [] (y ∷ ys) h = cc
texts_from_same (x ∷ xs) [] h = cc
texts_from_same (x ∷ xs) (y ∷ ys) h =
    let k = both_true (bytes_eq (string_bytes x) (string_bytes y)) (are_same xs ys) h in
    ap (λ (t : Text). t ∷ map string_bytes xs) (same_text (string_bytes x) (string_bytes y) k.0)
    ∙ ap (λ (l : List Text). string_bytes y ∷ l) (texts_from_same xs ys k.1)

same_from_texts : (xs ys : List (String Global)) → map string_bytes xs ≡ map string_bytes ys → are_same xs ys ≡ true
same_from_texts [] [] e = refl
same_from_texts [] (y ∷ ys) e = cc
same_from_texts (x ∷ xs) [] e = cc
same_from_texts (x ∷ xs) (y ∷ ys) e =
    let first : string_bytes x ≡ string_bytes y = cc in
    let others : map string_bytes xs ≡ map string_bytes ys = cc in
    and_both (bytes_eq (string_bytes x) (string_bytes y)) (are_same xs ys)
    (ap (λ (t : Text). bytes_eq (string_bytes x) t) (sym first) ∙ bytes_eq-same (string_bytes x)) (same_from_texts xs ys others)

kept_same : (a b : Kept) → a.directories ≡ b.directories → a.modules ≡ b.modules → a ≡ b
kept_same a b d m =
    ap (λ (x : List Text). let k : Kept = record { directories = x; modules = a.modules } in k) d
    ∙ ap (λ (x : List Text). let k : Kept = record { directories = b.directories; modules = x } in k) m

same_kept : (a b : Collection) → keep_same a b ≡ true → kept_view a ≡ kept_view b
same_kept a b h =
    let k = both_true (are_same a.directories.items b.directories.items) (are_same a.modules.items b.modules.items) h in
    kept_same (kept_view a) (kept_view b) (texts_from_same a.directories.items b.directories.items k.0) (texts_from_same a.modules.items b.modules.items k.1)

other_kept : (a b : Collection) → keep_same a b ≡ false → kept_view a ≢ kept_view b
other_kept a b h e =
    let t : keep_same a b ≡ true =
    and_both (are_same a.directories.items b.directories.items) (are_same a.modules.items b.modules.items)
    (same_from_texts a.directories.items b.directories.items (ap (λ (k : Kept). k.directories) e))
    (same_from_texts a.modules.items b.modules.items (ap (λ (k : Kept). k.modules) e)) in
    let never : false ≡ true = sym h ∙ t in
    cc

-- the text that is read is that of the collection
shown_is : (c : Collection) (items slice text shown : Text) → items ≡ written (kept_view c) → slice ≡ items → text ≡ utf8_lossy slice → shown ≡ text → shown ≡ saved (kept_view c)
shown_is c items slice text shown wrote sliced lossy shows = shows ∙ (lossy ∙ ap utf8_lossy (sliced ∙ wrote))

pub saved_again : (c again : Collection) (items slice text shown : Text) → items ≡ written (kept_view c) → slice ≡ items → text ≡ utf8_lossy slice → shown ≡ text
    → read shown ≡ Ok (kept_view again) → keep_same again c ≡ true → IsSaved (kept_view c) text
saved_again c again items slice text shown wrote sliced lossy shows found same =
    record {
      text_is = lossy ∙ ap utf8_lossy (sliced ∙ wrote);
      read_again = ap read (sym shows) ∙ (found ∙ ap Ok (same_kept again c same));
    }

pub saved_differs : (c again : Collection) (items slice text shown : Text) → items ≡ written (kept_view c) → slice ≡ items → text ≡ utf8_lossy slice → shown ≡ text
    → read shown ≡ Ok (kept_view again) → keep_same again c ≡ false → IfOk (read (saved (kept_view c))) (λ other. other ≢ kept_view c)
saved_differs c again items slice text shown wrote sliced lossy shows found other =
    subst (λ (r : Result Kept CollectionReason). IfOk r (λ k. k ≢ kept_view c)) (sym found ∙ ap read (shown_is c items slice text shown wrote sliced lossy shows)) (other_kept again c other)

refused_as : (c : Collection) (shown : Text) (wrong : Option CollectionReason) → shown ≡ saved (kept_view c) → IfSome wrong (λ r. read shown ≡ Err r)
    → IfSome wrong (λ r. read (saved (kept_view c)) ≡ Err r)
refused_as c shown None e h = tt
refused_as c shown (Some r) e h = ap read (sym e) ∙ h

fault_as : (c : Collection) (fault : CollectionFault) → IfSome (reason_of fault) (λ r. read (saved (kept_view c)) ≡ Err r) → IsSaveFault (kept_view c) (of_fault fault)
fault_as c OutOfMemory h = tt
fault_as c (BadLine number fault) h = h
fault_as c SaysNothing h = h
fault_as c TooLong h = h
fault_as c NoText h = h

pub saved_refused : (c : Collection) (fault : CollectionFault) (items slice text shown : Text) → items ≡ written (kept_view c) → slice ≡ items → text ≡ utf8_lossy slice → shown ≡ text
    → IfSome (reason_of fault) (λ r. read shown ≡ Err r) → IsSaveFault (kept_view c) (of_fault fault)
saved_refused c fault items slice text shown wrote sliced lossy shows h =
    fault_as c fault (refused_as c shown (reason_of fault) (shown_is c items slice text shown wrote sliced lossy shows) h)
