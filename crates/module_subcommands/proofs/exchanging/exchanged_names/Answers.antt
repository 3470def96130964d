use Rattle.std.proofs.Common.{List, map, string_bytes, String, subst}
use Rattle.std.specs.declared.alloc.Global.{Global}
use Rattle.envvars.specs.Texts.{texts_in}
use Rattle.module_words.specs.function.Moved.{moved_view}
use Rattle.module_subcommands.specs.Exchanges.{IsWholeLoadBehind}
use Rattle.module_subcommands.proofs.ExchangeLemmas.{exchanges_names}
use Rattle.module_subcommands.proofs.NarrowLemmas.{whole_behind_narrowed, whole_unload_narrowed}
use Rattle.module_subcommands.proofs.exchanging.exchanged_names.Goals as goal

pub returns-clause-exchanged : goal.returns-clause-exchanged
returns-clause-exchanged g c =
    let agrees = g.T.Tree.agrees c.exchanged.new.tree in
    let behind = g.T.Tree.agrees c.whole_load_behind.new.tree in
    let shell = c.args.asking.now.shell in
    let e = c.args.asking.now.env in
    let first = moved_view c.args.first in
    let second = moved_view c.args.second in
    let unloaded = c.in_ok-unloaded.unloaded in
    let loaded = c.in_ok-loaded.loaded in
    let narrows = c.exchanged.ensures.reads.narrows in
    let narrowed = c.whole_load_behind.ensures.reads.narrows in
    exchanges_names agrees shell e first second unloaded loaded c.exchanged.result
    (whole_unload_narrowed (g.T.Tree.agrees c.whole_unload.new.tree) agrees (λ files listings a. narrowed files listings (narrows files listings a)) shell e first unloaded c.in_ok-unloaded.ensures.whole)
    (whole_behind_narrowed behind agrees narrows shell e (texts_in unloaded.names) second loaded
    (subst (λ (l : List (String Global)). IsWholeLoadBehind behind shell e (map string_bytes l) second loaded) c.as_slice-names.ensures.value c.in_ok-loaded.ensures.whole))
    c.exchanged.ensures.accepted c.exchanged.ensures.said
