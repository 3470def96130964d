-- A name means one module at most, since an evaluation has one result and a set has one greatest member.
use Rattle.std.proofs.Common.{◌≡◌, List, [], ◌∷◌, Option, Some, None, Ok, Err, ap, sym, ◌∙◌}
use Rattle.modulename.specs.ModuleName.{Text, is_module_name}
use Rattle.filetree.specs.Agreement.{Files, Listings}
use Rattle.filetree.specs.Modulefiles.{FileContent, absent, no_cookie, not_utf8, script, modulefile, path_of}
use Rattle.filetree.specs.Modulefiles.{directories}
use Rattle.filetree.specs.Relations.{IsOne}
use Rattle.filetree.proofs.OneOutcome.{one_is, one_then, one_if, one_where}
use Rattle.search.specs.Reasons.{bad_name, bad_default, not_found}
use Rattle.search.specs.DefaultVersions.{DefaultFileResult, VersionIn}
use Rattle.search.specs.DefaultFiles.{version_named, NamesIn, Names}
use Rattle.search.specs.Candidates.{IsCandidate}
use Rattle.search.specs.Found.{NamedDefault, Greatest, NamedOrGreatest, DefaultVersion, found_module, FoundAlong, Found}
use Rattle.modulename.proofs.OrderLemmas.{one_greatest}

one_names_in : (results : Text → Text → Option DefaultFileResult → Type 0) → ((path text : Text) (o p : Option DefaultFileResult) → results path text o → results path text p → o ≡ p)
    → (says : VersionIn) (path : Text) (held : FileContent) → IsOne (NamesIn results says path held)
one_names_in results law says path absent = one_is (Ok None)
one_names_in results law says path no_cookie = one_is (Ok None)
one_names_in results law says path not_utf8 = one_is (Err (bad_default path))
one_names_in results law says path (script text) = λ o p h k. h.2 ∙ (ap (version_named says path) (law path text h.0 k.0 h.1 k.1) ∙ sym k.2)

one_names : (results : Text → Text → Option DefaultFileResult → Type 0) → ((path text : Text) (o p : Option DefaultFileResult) → results path text o → results path text p → o ≡ p)
    → (files : Files) (says : VersionIn) (path : Text) → IsOne (Names results files says path)
one_names results law files says path = one_names_in results law says path (modulefile (files path))

pub one_named : (results : Text → Text → Option DefaultFileResult → Type 0) → ((path text : Text) (o p : Option DefaultFileResult) → results path text o → results path text p → o ≡ p)
    → (files : Files) (listings : Listings) (dir name : Text) → IsOne (NamedDefault results files listings dir name)
one_named results law files listings dir name =
    one_then (one_names results law files _ _) (λ first.
    one_where (one_is (Ok first)) (
    one_then (one_names results law files _ _) (λ second.
    one_where (one_is (Ok second)) (one_is (Ok None)))))

one_largest : (files : Files) (listings : Listings) (dir name : Text) → IsOne (Greatest files listings dir name)
one_largest files listings dir name o p (v, g, e) (w, h, k) =
    e ∙ (ap Ok (one_greatest (IsCandidate files listings dir name) v w g h) ∙ sym k)

one_or_largest : (files : Files) (listings : Listings) (dir name : Text) (named : Option Text) → IsOne (NamedOrGreatest files listings dir name named)
one_or_largest files listings dir name (Some v) = one_is (Ok v)
one_or_largest files listings dir name None = one_largest files listings dir name

one_default : (results : Text → Text → Option DefaultFileResult → Type 0) → ((path text : Text) (o p : Option DefaultFileResult) → results path text o → results path text p → o ≡ p)
    → (files : Files) (listings : Listings) (dir name : Text) → IsOne (DefaultVersion results files listings dir name)
one_default results law files listings dir name = one_then (one_named results law files listings dir name) (one_or_largest files listings dir name)

one_along : (results : Text → Text → Option DefaultFileResult → Type 0) → ((path text : Text) (o p : Option DefaultFileResult) → results path text o → results path text p → o ≡ p)
    → (files : Files) (listings : Listings) (name : Text) (dirs : List Text) → IsOne (FoundAlong results files listings name dirs)
one_along results law files listings name [] = one_is (Err (not_found name))
one_along results law files listings name (dir ∷ dirs) =
    one_where (one_is (found_module name (path_of dir name) (modulefile (files (path_of dir name))))) (
    one_where (one_then (one_default results law files listings dir name) (λ v. one_is (found_module (path_of name v) (path_of dir (path_of name v)) (modulefile (files (path_of dir (path_of name v))))))) (
    one_along results law files listings name dirs))

pub one_module : (results : Text → Text → Option DefaultFileResult → Type 0) → ((path text : Text) (o p : Option DefaultFileResult) → results path text o → results path text p → o ≡ p)
    → (files : Files) (listings : Listings) (modulepath name : Text) → IsOne (Found results files listings modulepath name)
one_module results law files listings modulepath name =
    one_if (is_module_name name) (one_along results law files listings name (directories modulepath)) (one_is (Err (bad_name name)))
