use Rattle.std.proofs.Common.{rules, ◌≡◌, None, false, sym, ap, ◌∙◌, string_bytes}
use Rattle.std.specs.Option.{option_map}
use Rattle.envvars.specs.Environment.{lookup}
use Rattle.envvars.specs.Names.{share_name}
use Rattle.envstate.proofs.paths.UncountedLemmas.{uncounted, not_counted}
use Rattle.envstate.proofs.paths.edits.write_both.Goals as goal

pub returns-then-is_none-clause-ok : goal.returns-then-is_none-clause-ok
returns-then-is_none-clause-ok g c =
    let old = g.V.Vars.vars c.args.env.now in
    let none : option_map string_bytes c.args.texts.counters ≡ None = search rules in
    let not_there : c.args.is_counted ≡ false = search rules in
    let unset : lookup old (share_name c.args.var.now) ≡ None = ap (lookup old) (sym c.requires.share) ∙ not_counted _ c.args.is_counted c.requires.counted not_there in
    uncounted c.write_one.result old (g.V.Vars.vars c.write_one.new.env) c.args.var.now (option_map string_bytes c.args.texts.elements) (option_map string_bytes c.args.texts.counters)
    unset none c.write_one.ensures.ok
