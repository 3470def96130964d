use Rattle.module_subcommands.proofs.SiteLemmas.{no_site}
use Rattle.module_subcommands.proofs.site.site_path.Goals as goal

pub returns-in_default-strip_suffix : goal.returns-in_default-strip_suffix
returns-in_default-strip_suffix c = rw c.in-Some.is (no_site c.in-Some.path.now c.args.place.now c.in_default-strip_suffix.ensures.cases)
