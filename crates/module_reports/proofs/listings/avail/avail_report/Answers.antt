use Rattle.std.proofs.Common.{◌≡◌, ◌++◌, List, map, String, Global, string_bytes, subst, ap, ◌∙◌, arith}
use Rattle.std.specs.List.{flat_map}
use Rattle.std.proofs.lemmas.List.{length-map}
use Rattle.std.proofs.lemmas.Result.{err_from_is_err_and}
use Rattle.message.specs.Messages.{Text}
use Rattle.search.specs.Listed.{Listing}
use Rattle.search.specs.Listings.{listing_view}
use Rattle.search.specs.declared.listings.DirectoryListing.{DirectoryListing}
use Rattle.lookup.specs.DefaultFileResults.{HasResult}
use Rattle.module_reports.specs.listings.Available.{ListedWithout}
use Rattle.module_reports.specs.listings.Chosen.{chosen}
use Rattle.module_words.specs.declared.subcommands.table.Subcommand.TheVariants.{Avail}
use Rattle.module_reports.specs.listings.Options.{report_words}
use Rattle.module_reports.specs.listings.Reports.{loaded_or_none, modules_text, unreadable_line}
use Rattle.module_reports.specs.listings.Texts.{searched_texts}
use Rattle.module_reports.proofs.listings.FaultLemmas.{applies_reason}
use Rattle.module_reports.proofs.listings.avail.avail_report.Goals as goal

pub returns-in_err-options-clause-fault : goal.returns-in_err-options-clause-fault
returns-in_err-options-clause-fault g c =
    let words = map (λ (s : String Global). string_bytes s) c.args.words.now in
    let p = err_from_is_err_and c.from_residual.result c.from_residual.ensures.1 in
    rw (p.1, p.2) (applies_reason c.in_err-options.field-0.0 (report_words Avail words) _ c.in_err-options.ensures.reason
    c.in_err-options.ensures.words)

pub returns-clause-report : goal.returns-clause-report
returns-clause-report g c =
    let options = c.in_ok-options.options in
    let texts = map (λ (s : String Global). string_bytes s) c.in_ok-options.texts.now in
    let readable = c.in_ok-readable.readable in
    let found = map listing_view readable.listings.items in
    let paths : List Text = map (λ (s : String Global). string_bytes s) readable.unreadable.items in
    let views : List DirectoryListing → List Listing = λ listings. map listing_view listings in
    let names = modules_text c.args.terminal options.lines (loaded_or_none c.args.env.now) (chosen options texts found) in
    let named : string_bytes c.in_ok-report.report ≡ names =
    c.in_ok-report.ensures ∙ ap (modules_text c.args.terminal options.lines (loaded_or_none c.args.env.now))
    (ap views c.deref-2.ensures.value ∙ (c.in_ok-listings.ensures ∙ ap (λ (listings : List DirectoryListing). chosen options texts (views listings)) c.deref.ensures.value)) in
    let text = c.in_ok-push_all_unreadable.ensures ∙ (ap (λ (t : Text). t ++ flat_map (unreadable_line c.args.terminal) (map (λ (s : String Global). string_bytes s) c.deref-3.result.now)) named
    ∙ ap (λ (l : List (String Global)). names ++ flat_map (unreadable_line c.args.terminal) (map (λ (s : String Global). string_bytes s) l)) c.deref-3.ensures.value) in
    record {
      words = (options, texts);
      meaning = c.in_ok-options.ensures.words;
      unreadable = paths;
      failed = c.in_ok-readable.ensures.failed;
      cause = c.in_ok-readable.ensures.left_out;
      counted = omega (arith, length-map readable.unreadable.items (λ (s : String Global). string_bytes s), c.in_ok-readable.ensures.counted);
      reports = λ files folders a.
          let listed : ListedWithout (HasResult c.args.limits) paths files folders (searched_texts options texts) c.modulepath.result.now found =
          subst (λ (ts : List Text). ListedWithout (HasResult c.args.limits) paths files folders ts c.modulepath.result.now found) c.searched_texts-searched.ensures
          (c.in_ok-readable.ensures.listed files folders a) in
          (found, subst (λ (m : Text). ListedWithout (HasResult c.args.limits) paths files folders (searched_texts options texts) m found) c.modulepath.ensures listed, text);
    }
