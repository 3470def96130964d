-- What a walk over a site has when it ends: all directories, and all modules below each.
use Rattle.std.proofs.Common.{◌≡◌, inl, inr, true, List, [], ◌∷◌, map, refl, ap, sym, ◌∙◌, subst}
use Rattle.std.specs.Prelude.{bytes_eq}
use Rattle.std.specs.List.{list_any}
use Rattle.envvars.specs.Texts.{Text}
use Rattle.envvars.proofs.TextLemmas.{same_text, bytes_eq-same}
use Rattle.filetree.specs.Modulefiles.{path_of}
use Rattle.search.specs.Listed.{names_of}
use Rattle.audit_certificate.specs.RecordUses.{IsAmong}
use Rattle.audit_certificate.proofs.UsedLemmas.{by_cases, among_left, among_right, among_either}
use Rattle.audit_certificate.proofs.Exact.{any_some, some_any}
use Rattle.audit_laws.specs.site.Sites.{Site, SiteModule, module_below, IsIn, IsDirectory, first, added, IsClosed}
use Rattle.audit_laws.specs.site.Sites.{AreNamesBelow, AreModulesIn}
use Rattle.audit_laws.specs.site.Laws.{NamesListed, DirectoriesFound, ModulesFound}

-- members of lists of texts, by the test

among_by_test : (x : Text) (xs : List Text) → list_any (bytes_eq x) xs ≡ true → IsAmong x xs
among_by_test x xs h = let y = any_some (bytes_eq x) xs h in subst (λ (t : Text). IsAmong t xs) (sym (same_text x y.0 y.2)) y.1

test_of_among : (x : Text) (xs : List Text) → IsAmong x xs → list_any (bytes_eq x) xs ≡ true
test_of_among x xs a = some_any (bytes_eq x) xs x a (bytes_eq-same x)

-- a listing of the search has the names below its directory
pub names_listed : NamesListed
names_listed site dir listing_entries l =
    record {
      order = l.order;
      exact = λ name. ((λ a. ((l.names name).0 (test_of_among name (names_of listing_entries) a)).0), (λ b. among_by_test name (names_of listing_entries) ((l.names name).1 (b, refl))));
    }

-- a closed list has all directories of the site
has_all : (site : Site) (dirs : List Text) → IsClosed site dirs → (dir : Text) → IsDirectory site dir → IsAmong dir dirs
has_all site dirs closed dir (first a) = closed.begins dir a
has_all site dirs closed dir (added {from = from} m rs d there records a) = closed.adds from dir m rs (has_all site dirs closed from d) there records a

-- and no others, where each was found as one
pub directories_found : DirectoriesFound
directories_found site dirs closed found dir = (found dir, has_all site dirs closed dir)

-- modules in directories in turn

among_map : (dir name : Text) (names : List Text) → IsAmong name names → IsAmong (module_below dir name) (map (module_below dir) names)
among_map dir name [] a = absurd a
among_map dir name (n ∷ names) (inl e) = inl (ap (module_below dir) e)
among_map dir name (n ∷ names) (inr a) = inr (among_map dir name names a)

map_among : (dir : Text) (m : SiteModule) (names : List Text) → IsAmong m (map (module_below dir) names) → IsAmong m.name names × (m.path ≡ path_of dir m.name)
map_among dir m [] a = absurd a
map_among dir m (n ∷ names) (inl e) = (inl (ap (λ (k : SiteModule). k.name) e), ap (λ (k : SiteModule). k.path) e ∙ ap (path_of dir) (sym (ap (λ (k : SiteModule). k.name) e)))
map_among dir m (n ∷ names) (inr a) = let p = map_among dir m names a in (inr p.0, p.1)

-- each of the modules is in one of the directories
in_directory : (site : Site) (dirs : List Text) (ms : List SiteModule) (m : SiteModule) → AreModulesIn site dirs ms → IsAmong m ms → (dir : Text) × IsAmong dir dirs × IsIn site dir m
in_directory site [] ms m e a = absurd (subst (IsAmong m) e a)
in_directory site (dir ∷ dirs) ms m (names, rest, below, more, e) a =
    by_cases (among_either m (map (module_below dir) names) rest (subst (IsAmong m) e a))
    (λ b. let p = map_among dir m names b in (dir, inl refl, record { below = (below.exact m.name).0 p.0; path = p.1 }))
    (λ b. let i = in_directory site dirs rest m more b in (i.0, inr i.1, i.2))

placed : (site : Site) (dir : Text) (names : List Text) (m : SiteModule) → AreNamesBelow site dir names → IsIn site dir m → IsAmong m (map (module_below dir) names)
placed site dir names m below there =
    subst (λ (k : SiteModule). IsAmong k (map (module_below dir) names)) (same dir m there.path) (among_map dir m.name names ((below.exact m.name).1 there.below))
  where
    same : (dir : Text) (m : SiteModule) → m.path ≡ path_of dir m.name → module_below dir m.name ≡ m
    same dir m e = λ i. record { name = m.name; path = sym e i }

-- and each module in one of the directories is one of them
among_modules : (site : Site) (dirs : List Text) (ms : List SiteModule) (dir : Text) (m : SiteModule) → AreModulesIn site dirs ms → IsAmong dir dirs → IsIn site dir m → IsAmong m ms
among_modules site [] ms dir m e a there = absurd a
among_modules site (d ∷ dirs) ms dir m (names, rest, below, more, e) (inl q) there =
    subst (IsAmong m) (sym e) (among_left m (map (module_below d) names) rest (placed site d names m below (subst (λ (t : Text). IsIn site t m) q there)))
among_modules site (d ∷ dirs) ms dir m (names, rest, below, more, e) (inr a) there =
    subst (IsAmong m) (sym e) (among_right m (map (module_below d) names) rest (among_modules site dirs rest dir m more a there))

-- so the modules in all directories of a site are those of the site
pub modules_found : ModulesFound
modules_found site dirs ms all found m = (
  (λ a. let i = in_directory site dirs ms m found a in record { dir = i.0; directory = (all i.0).0 i.1; there = i.2 }),
  (λ o. among_modules site dirs ms o.dir m found ((all o.dir).1 o.directory) o.there),
)
