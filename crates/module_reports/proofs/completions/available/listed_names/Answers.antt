use Rattle.std.proofs.Common.{◌≡◌, List, [], map, String, Global, string_bytes, subst, ap, ◌∙◌, arith}
use Rattle.std.proofs.lemmas.List.{length-map}
use Rattle.envvars.specs.Texts.{Text, texts_in}
use Rattle.search.specs.Listings.{listing_view}
use Rattle.search.specs.declared.listings.DirectoryListing.{DirectoryListing}
use Rattle.lookup.specs.DefaultFileResults.{HasResult}
use Rattle.module_reports.specs.listings.Available.{ListedWithout}
use Rattle.module_reports.specs.completions.Offered.{names_in}
use Rattle.module_reports.proofs.completions.available.listed_names.Goals as goal

pub returns-clause-listed : goal.returns-clause-listed
returns-clause-listed g c =
    let texts : List (String Global) → List Text = λ l. map (λ (s : String Global). string_bytes s) l in
    let readable = c.in_ok-readable.readable in
    let found = map listing_view readable.listings.items in
    let paths = texts readable.unreadable.items in
    let named : texts_in c.in_ok-names_in.field-0 ≡ names_in found =
    c.in_ok-names_in.ensures ∙ ap (λ (listings : List DirectoryListing). names_in (map listing_view listings)) c.deref.ensures.value in (
      paths,
      record {
        failed = c.in_ok-readable.ensures.failed;
        cause = c.in_ok-readable.ensures.left_out;
        counted = omega (arith, length-map readable.unreadable.items (λ (s : String Global). string_bytes s), c.in_ok-readable.ensures.counted);
      },
      λ files folders a.
          (found, subst (λ (m : Text). ListedWithout (HasResult c.args.limits) paths files folders [] m found) c.modulepath.ensures (c.in_ok-readable.ensures.listed files folders a), named),
    )
