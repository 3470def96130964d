use Rattle.std.proofs.Common.{refl, sym}
use Rattle.module_collections.specs.texts.Views.{kept_view}
use Rattle.module_subcommands.proofs.collections.save_modules.Goals as goal

pub returns-clause-saved : goal.returns-clause-saved
returns-clause-saved g c = record {
  readable = c.in_ok-judge_modulepath.ensures.text;
  name = c.in-Some.name.now;
  named = sym c.in-Some.ensures;
  kept = kept_view c.in_ok-kept.kept;
  keeps = rw c.in_ok-working.ensures at c.in_ok-kept.ensures.kept;
  saves = c.in_ok-save_collection.ensures;
  silent = refl;
}
